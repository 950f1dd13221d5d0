-- Why: each turn of a loop is one lemma, so a loop that keeps the invariant ends with the answer. Here are the loops as
-- functions on chains, each turn proved by its lemma: every matrix has slots, and they answer every question.
use Rattle.std.specs.Prelude.{ℕ, zero, suc, ◌≤◌, ◌<◌, ◌≡◌, refl, Bool, true, false, cond}
use Rattle.std.proofs.Common.{ap, inl, inr, arith}
use Rattle.chains.specs.Chain.{Chain, ◌⊕◌, empty, unit, Under, Fills, SmallestInClass}
use Rattle.chains.specs.Boundary.{unit-here, unit-else}
use Rattle.chains.specs.Search.{Found}
use Rattle.echelon.specs.Reduce.{reduce}
use Rattle.echelon.specs.Echelon.{Echelon}
use Rattle.echelon.proofs.Echelon.{echelon-start}
use Rattle.echelon.specs.Reducing.{Inserting, Filling}
use Rattle.echelon.proofs.Reducing.{reducing-start, reducing-skip, reducing-add}
use Rattle.echelon.specs.Insert.{Put}
use Rattle.echelon.specs.Run.{put, Slots}
use Rattle.echelon.proofs.Insert.{insert-dropped, insert-kept}
use Rattle.echelon.proofs.Answer.{fill-found, fill_none, class-found}

pub put_is : (m : ℕ) (R : ℕ → Chain) (r : ℕ) (c : Chain) → Put m R r c (put R r c)
put_is m R r c =
    record {
      here = ap (λ b. cond b c (R r)) (unit-here r);
      others = λ j h ne. ap (λ b. cond b c (R j)) (unit-else r j (omega arith));
    }

-- The three cases at a row: the chain does not hold it, or its slot is occupied, or its slot is vacant.
at_row : {X : Type 0} (held full : Bool) → (held ≡ false → X) → (held ≡ true → full ≡ true → X)
    → (held ≡ true → full ≡ false → X) → X
at_row false full skip add stop = skip refl
at_row true true skip add stop = add refl refl
at_row true false skip add stop = stop refl refl

-- Column k is put in, from row i downward.
insert-from : {D : ℕ → Chain} {n m k : ℕ} {R W : ℕ → Chain} (i : ℕ) (now cols : Chain) → k < n → i ≤ m
    → Echelon D n m k R W → Inserting D n k i now cols → Slots D n m (suc k)
insert-from {R = R} {W = W} zero now cols h l slots s = (R, W, insert-dropped h slots s)
insert-from {m = m} {R = R} {W = W} (suc r) now cols h l slots s =
    at_row (now r) (R r r)
    (λ out. insert-from r now cols h (omega arith) slots (reducing-skip r refl s out))
    (λ held full.
    insert-from r (now ⊕ R r) (cols ⊕ W r) h (omega arith) slots
    (reducing-add r refl slots s (omega arith) full held refl refl))
    (λ held vacant. (
      put R r now,
      put W r cols,
      insert-kept h slots refl s l vacant held (put R r now) (put W r cols) (put_is m R r now) (put_is m W r cols),
    ))

-- The chain A is filled, from row i downward.
fill-from : {D : ℕ → Chain} {n m : ℕ} {R W : ℕ → Chain} {A : Chain} (i : ℕ) (now cols : Chain) → i ≤ m
    → Echelon D n m n R W → Filling D n A i now cols → Found (Fills D n A)
fill-from zero now cols l slots s = inl (cols, fill-found slots s)
fill-from {R = R} {W = W} (suc r) now cols l slots s =
    at_row (now r) (R r r)
    (λ out. fill-from r now cols (omega arith) slots (reducing-skip r refl s out))
    (λ held full.
    fill-from r (now ⊕ R r) (cols ⊕ W r) (omega arith) slots
    (reducing-add r refl slots s (omega arith) full held refl refl))
    (λ held vacant. inr (fill_none slots refl s l vacant held))

module _ (D : ℕ → Chain) (n m : ℕ) (columns : (i : ℕ) → i < n → Under m (D i)) where
  -- All columns are put in, in rising rank.
  pub insert_all : (k : ℕ) → k ≤ n → Slots D n m k
  insert_all zero h = (λ r. empty, λ r. empty, echelon-start D n m (λ r. empty) (λ r. empty) (λ r l. refl) (λ r l. refl))
  insert_all (suc k) h =
      let before : Slots D n m k = insert_all k (omega arith) in
      insert-from m (D k) (unit k) h (omega arith) before.2
      (reducing-start D n m k (D k) (unit k) (columns k h))

  pub slots-all : Slots D n m n
  slots-all = insert_all n (omega arith)

  -- The smallest filling of A, or that there is none.
  pub fill-answer : (A : Chain) → Under m A → Found (Fills D n A)
  fill-answer A u = fill-from m A empty (omega arith) slots-all.2 (reducing-start D n m n A empty u)

  -- The smallest chain of the class of A.
  pub class-answer : (A : Chain) → Under m A → (s : Chain) × SmallestInClass D n m A s
  class-answer A u = (reduce slots-all.0 m A, class-found slots-all.2 columns u)
