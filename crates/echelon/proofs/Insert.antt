-- Why: a column that reduces to nothing is a sum of lower ones, and the slots already make all such sums. A column that
-- gets stuck at a vacant slot is no sum of lower ones, so no cycle has it as its highest, and what is left of it may be
-- kept in that slot.
use Rattle.std.specs.Prelude.{ℕ, zero, suc, ◌<◌, ◌≡◌, true, false}
use Rattle.std.proofs.Common.{sym, ◌∙◌, ap, ap₂, subst, true≢false, arith}
use Rattle.std.proofs.Math.Decide.{dec_lt, ℕ_discrete}
use Rattle.chains.specs.Chain.{Chain, ◌⊕◌, empty, unit, Under, Top, boundary}
use Rattle.chains.specs.Sum.{same-of-sum, sum_self, sum_twice, sum-shared, under-sum, under_more}
use Rattle.chains.specs.Boundary.{unit-here, unit-else, boundary-sum, boundary-unit}
use Rattle.chains.proofs.Order.{differ_same, under-zero}
use Rattle.chains.specs.Smallest.{Free}
use Rattle.chains.proofs.Smallest.{free-sum}
use Rattle.chains.specs.Homology.{Cycle}
use Rattle.chains.proofs.Search.{last-in, last_out}
use Rattle.echelon.specs.Reduce.{reduce}
use Rattle.echelon.proofs.Reduce.{reduce-sum, reduce-held, reduce-empty, reduce-rest, reduce-put, reduce-boundary}
use Rattle.echelon.specs.Echelon.{Echelon}
use Rattle.echelon.proofs.Echelon.{stuck-no-boundary}
use Rattle.echelon.specs.Reducing.{Inserting}
use Rattle.echelon.specs.Insert.{Put}

-- What holds of the chains put into slot r, and of every slot before, holds of every slot after.
put_all : {m : ℕ} {R W : ℕ → Chain} {r : ℕ} {c v : Chain} {S X : ℕ → Chain} (P : ℕ → Chain → Chain → Type 0)
    → Put m R r c S → Put m W r v X → P r c v → ((j : ℕ) → j < m → P j (R j) (W j))
    → (j : ℕ) → j < m → P j (S j) (X j)
put_all {m} {R} {W} {r} {c} {v} {S} {X} P rows cols new old j h = go (ℕ_discrete j r)
  where
    go : Dec (j ≡ r) → P j (S j) (X j)
    go (yes e) =
        subst (λ i. P i (S i) (X i)) (sym e)
        (subst (λ a. P r a (X r)) (sym rows.here) (subst (λ a. P r c a) (sym cols.here) new))
    go (no ne) =
        subst (λ a. P j a (X j)) (sym (rows.others j h ne))
        (subst (λ a. P j (R j) a) (sym (cols.others j h ne)) (old j h))

-- What holds below k and at k holds below k + 1.
one_more : (P : ℕ → Type 0) (k : ℕ) → ((i : ℕ) → i < k → P i) → P k → (i : ℕ) → i < suc k → P i
one_more P k below at i l = go (dec_lt i k)
  where
    go : Dec (i < k) → P i
    go (yes lt) = below i lt
    go (no ge) = let e : k ≡ i = omega arith in subst P e at

-- Column k was reduced to `now`, and `cols` are the columns collected, k itself among them.
module _ {D : ℕ → Chain} {n k i : ℕ} {now cols : Chain} (h : k < n) (s : Inserting D n k i now cols) where
  cols-under : Under (suc k) cols
  cols-under = subst (Under (suc k)) (sum_twice cols (unit k)) (last-in k (cols ⊕ unit k) s.under)

  cols-bound : boundary D n cols ≡ now
  cols-bound =
      ap (boundary D n) (sym (sum_twice cols (unit k)))
      ∙ boundary-sum D n (cols ⊕ unit k) (unit k)
      ∙ ap₂ ◌⊕◌ s.bounds (boundary-unit D n k h)
      ∙ sum_twice now (D k)

  cols-top : Top cols k
  cols-top =
      record {
        holds = differ_same (cols k) (unit k k) (s.under k (omega arith)) ∙ unit-here k;
        above = λ j l. cols-under j l;
      }

  -- Slots that reduce all lower columns to nothing reduce the column and what is left of it to the same.
  same_rest : (S : ℕ → Chain) (m : ℕ) → ((j : ℕ) → j < k → reduce S m (D j) ≡ empty) → reduce S m (D k) ≡ reduce S m now
  same_rest S m lower =
      sym (same-of-sum (reduce S m now) (reduce S m (D k))
      (sym (reduce-sum S m now (D k))
      ∙ ap (reduce S m) (sym s.bounds)
      ∙ reduce-boundary S D m k n (cols ⊕ unit k) (omega arith) s.under lower))

module _ {D : ℕ → Chain} {n m k : ℕ} {R W : ℕ → Chain} (h : k < n) (slots : Echelon D n m k R W) where
  -- Nothing is left: the column is a sum of lower ones, and the slots stay.
  pub insert-dropped : {now cols : Chain} → Inserting D n k zero now cols → Echelon D n m (suc k) R W
  insert-dropped {now} {cols} s =
      record {
        low = slots.low;
        vacant = slots.vacant;
        under = λ r l. under_more k (suc k) (W r) (omega arith) (slots.under r l);
        sums = slots.sums;
        free = slots.free;
        complete =
            one_more (λ i. reduce R m (D i) ≡ empty) k slots.complete
            (same_rest h s R m slots.complete ∙ ap (reduce R m) (under-zero now s.left) ∙ reduce-empty R m);
      }

  -- The column is then the highest of a cycle.
  pub dropped-cycle : {now cols : Chain} → Inserting D n k zero now cols → Cycle D n cols × Top cols k
  dropped-cycle {now} {cols} s = (
    record {
      under = under_more (suc k) n cols h (cols-under h s);
      closed = cols-bound h s ∙ under-zero now s.left;
    },
    cols-top h s,
  )

  -- Stuck at a row with a vacant slot: the column is no sum of lower ones.
  module _ {i r : ℕ} {now cols : Chain} (e : suc r ≡ i) (s : Inserting D n k i now cols)
      (l : r < m) (vacant : R r r ≡ false) (held : now r ≡ true) where
    now-under : Under (suc r) now
    now-under = subst (λ j. Under j now) (sym e) s.left

    -- So no cycle has it as its highest: else `now` would be a sum of lower columns.
    kept-no-top : (z : Chain) → Cycle D n z → Top z k → ⊥
    kept-no-top z cycle top =
        stuck-no-boundary (omega arith) slots r now l vacant now-under held (z ⊕ unit k ⊕ (cols ⊕ unit k))
        (under-sum k (z ⊕ unit k) (cols ⊕ unit k) (last_out k z top.above top.holds) s.under)
        (ap (boundary D n) (sum-shared z cols (unit k))
        ∙ boundary-sum D n z cols
        ∙ ap₂ ◌⊕◌ cycle.closed (cols-bound h s))

    unit-free : Free (Cycle D n) (unit k)
    unit-free z j cycle top = go (ℕ_discrete k j)
      where
        go : Dec (k ≡ j) → unit k j ≡ false
        go (yes same) = absurd (kept-no-top z cycle (subst (Top z) (sym same) top))
        go (no other) = unit-else k j other

    cols-free : Free (Cycle D n) cols
    cols-free =
        subst (Free (Cycle D n)) (sum_twice cols (unit k))
        (free-sum (Cycle D n) (cols ⊕ unit k) (unit k) s.free unit-free)

    -- What is left goes into the slot.
    pub insert-kept : (S X : ℕ → Chain) → Put m R r now S → Put m W r cols X → Echelon D n m (suc k) S X
    insert-kept S X rows columns =
        record {
          low = λ j t lj.
              put_all (λ r a b. (u : ℕ) → r < u → a u ≡ false) rows columns now-under
              (λ r lr u. slots.low r u lr) j lj t;
          vacant =
              put_all (λ j a b. a j ≡ false → a ≡ empty) rows columns (λ out. absurd (true≢false (sym held ∙ out)))
              slots.vacant;
          under =
              put_all (λ j a b. Under (suc k) b) rows columns (cols-under h s)
              (λ j lj. under_more k (suc k) (W j) (omega arith) (slots.under j lj));
          sums = put_all (λ j a b. boundary D n b ≡ a) rows columns (cols-bound h s) slots.sums;
          free = put_all (λ j a b. Free (Cycle D n) b) rows columns cols-free slots.free;
          complete = one_more (λ j. reduce S m (D j) ≡ empty) k lower (same_rest h s S m lower ∙ last);
        }
      where
        lower : (j : ℕ) → j < k → reduce S m (D j) ≡ empty
        lower j lj =
            reduce-put R S m r (D j) slots.low l (slots.vacant r l vacant) rows.others
            (ap (λ a. a r) (slots.complete j lj))
            ∙ slots.complete j lj

        last : reduce S m now ≡ empty
        last =
            reduce-rest S (suc r) m now l now-under
            ∙ reduce-held S r now held
            ∙ ap (reduce S r) (ap (λ a. now ⊕ a) rows.here ∙ sum_self now)
            ∙ reduce-empty S r
