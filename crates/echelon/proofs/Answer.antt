-- Why: once all columns were put in, the columns collected while A is reduced to nothing fill A, and none of them is the
-- highest of a cycle, so they are the smallest filling. A chain that bounds has the row of an occupied slot as its highest,
-- so a chain that was reduced by all slots holds no such row, and is the smallest of its class.
use Rattle.std.specs.Prelude.{ℕ, zero, suc, ◌<◌, ◌≡◌, refl, Bool, true, false}
use Rattle.std.proofs.Common.{sym, ◌∙◌, ap, ap₂, subst, arith}
use Rattle.chains.specs.Chain.{Chain, ◌⊕◌, empty, Under, Top, boundary, Fills, SmallestFilling, SmallestInClass}
use Rattle.chains.specs.Sum.{sum_comm, sum-empty, sum-twice-left, under-sum}
use Rattle.chains.specs.Boundary.{boundary-sum}
use Rattle.chains.proofs.Order.{under-zero, top-under}
use Rattle.chains.specs.Smallest.{Group, Free}
use Rattle.chains.specs.Homology.{Cycle, Bounds}
use Rattle.chains.proofs.Homology.{smallest-filling, boundaries-group, smallest-in-class}
use Rattle.echelon.specs.Reduce.{reduce}
use Rattle.echelon.proofs.Reduce.{reduce-held, reduce-skip, reduce-vacant, reduce-above, reduce-cleared, reduce-adds}
use Rattle.echelon.specs.Echelon.{Echelon}
use Rattle.echelon.proofs.Echelon.{stuck-no-boundary}
use Rattle.echelon.specs.Reducing.{Filling}
use Rattle.echelon.specs.Answer.{Classing}

module _ {D : ℕ → Chain} {n m : ℕ} {R W : ℕ → Chain} (slots : Echelon D n m n R W) where
  -- Nothing is left of A: what was collected is the smallest filling.
  pub fill-found : {A now cols : Chain} → Filling D n A zero now cols → SmallestFilling D n A cols
  fill-found {A} {now} {cols} s =
      (smallest-filling D n A cols).1 (
        record {
          under = subst (Under n) (sum-empty cols) s.under;
          bounds =
              ap (boundary D n) (sym (sum-empty cols))
              ∙ s.bounds
              ∙ ap (λ x. x ⊕ A) (under-zero now s.left);
        },
        subst (Free (Cycle D n)) (sum-empty cols) s.free,
      )

  -- Stuck at a row with a vacant slot: A has no filling.
  pub fill_none : {A now cols : Chain} {i r : ℕ} → suc r ≡ i → Filling D n A i now cols
      → r < m → R r r ≡ false → now r ≡ true → (c : Chain) → Fills D n A c → ⊥
  fill_none {A} {now} {cols} {i} {r} e s l vacant held c f =
      stuck-no-boundary (omega arith) slots r now l vacant (subst (λ j. Under j now) (sym e) s.left) held
      (c ⊕ (cols ⊕ empty))
      (under-sum n c (cols ⊕ empty) f.under s.under)
      (boundary-sum D n c (cols ⊕ empty)
      ∙ ap₂ ◌⊕◌ f.bounds (s.bounds ∙ sum_comm now A)
      ∙ sum-twice-left A now)

  -- Document 001's Lemma 3: a row that is the highest of a boundary is that of an occupied slot.
  pub boundary-slot : (b : Chain) (r : ℕ) → r < m → Bounds D n b → Top b r → R r r ≡ true
  boundary-slot b r l bound top = go (R r r) refl
    where
      go : (p : Bool) → R r r ≡ p → R r r ≡ true
      go true e = e
      go false e =
          absurd (stuck-no-boundary (omega arith) slots r b l e top.above top.holds bound.by bound.by_under bound.bounds)

  -- The reduction of A by all slots is the smallest chain of its class.
  pub class-found : ((i : ℕ) → i < n → Under m (D i)) → {A : Chain} → Under m A → SmallestInClass D n m A (reduce R m A)
  class-found columns {A} u = (smallest-in-class D n m columns A (reduce R m A)).1 (
    record {
      under = λ j l. reduce-above R m A j slots.low l ∙ u j l;
      by = added.by;
      by_under = added.by_under;
      bounds = sym added.bounds;
    },
    λ b r bound top.
        let l : r < m = top-under m b r (group.under b bound) top in
        reduce-cleared R m A r slots.low l (boundary-slot b r l bound top),
  )
    where
      group : Group (Bounds D n) m
      group = boundaries-group D n m columns

      added : Bounds D n (reduce R m A ⊕ A)
      added =
          reduce-adds (Bounds D n) m group R m A
          (λ r l. record { by = W r; by_under = slots.under r l; bounds = slots.sums r l })

pub class-start : (R : ℕ → Chain) (m : ℕ) (A : Chain) → Classing R m A m A
class-start R m A = record { same = refl }

module _ {R : ℕ → Chain} {m : ℕ} {A : Chain} {i : ℕ} {now : Chain} (r : ℕ) (e : suc r ≡ i) (s : Classing R m A i now) where
  -- A row that the chain does not hold, or whose slot is vacant, is passed over.
  pub class-skip : now r ≡ false → Classing R m A r now
  class-skip out = record { same = sym (reduce-skip R r now out) ∙ ap (λ j. reduce R j now) e ∙ s.same }

  pub class-vacant : R r ≡ empty → Classing R m A r now
  class-vacant vacant = record { same = sym (reduce-vacant R r now vacant) ∙ ap (λ j. reduce R j now) e ∙ s.same }

  -- At a row that it holds, the slot is added.
  pub class-add : {now' : Chain} → now r ≡ true → now' ≡ now ⊕ R r → Classing R m A r now'
  class-add held en =
      record { same = ap (reduce R r) en ∙ sym (reduce-held R r now held) ∙ ap (λ j. reduce R j now) e ∙ s.same }

-- What is left after the last row is the smallest chain of the class.
pub class-done : {D : ℕ → Chain} {n m : ℕ} {R W : ℕ → Chain} {A now : Chain} → Echelon D n m n R W
    → ((i : ℕ) → i < n → Under m (D i)) → Under m A → Classing R m A zero now → SmallestInClass D n m A now
unfolding reduce
class-done {D} {n} {m} {R} {W} {A} {now} slots columns u s =
    subst (SmallestInClass D n m A) (sym s.same) (class-found slots columns u)
