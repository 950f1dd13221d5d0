-- Why: to add a slot to a chain that is being reduced adds its columns to those collected on the way, and these are
-- free of cycles as the slot's are. So at every row the two sides fit together.
use Rattle.std.specs.Prelude.{ℕ, suc, ◌<◌, ◌≡◌, true, false}
use Rattle.std.proofs.Common.{sym, ◌∙◌, ap, ap₂, subst}
use Rattle.chains.specs.Chain.{Chain, ◌⊕◌, Under, boundary}
use Rattle.chains.specs.Sum.{sum_self, sum-last, under-empty, under-sum}
use Rattle.chains.specs.Boundary.{boundary-sum, boundary-empty}
use Rattle.chains.proofs.Order.{under-less}
use Rattle.chains.specs.Smallest.{Free}
use Rattle.chains.proofs.Smallest.{free-empty, free-sum}
use Rattle.chains.specs.Homology.{Cycle}
use Rattle.echelon.specs.Echelon.{Echelon}
use Rattle.echelon.specs.Reducing.{Reducing}

pub reducing-start : (D : ℕ → Chain) (n m k : ℕ) (start first : Chain) → Under m start
    → Reducing D n k start first m start first
reducing-start D n m k start first u =
    record {
      left = u;
      under = subst (Under k) (sym (sum_self first)) (under-empty k);
      free = subst (Free (Cycle D n)) (sym (sum_self first)) (free-empty (Cycle D n));
      bounds = ap (boundary D n) (sum_self first) ∙ boundary-empty D n ∙ sym (sum_self start);
    }

-- A row that the chain does not hold is passed over.
pub reducing-skip : {D : ℕ → Chain} {n k : ℕ} {start first : Chain} {i : ℕ} {now cols : Chain} (r : ℕ) → suc r ≡ i
    → Reducing D n k start first i now cols → now r ≡ false → Reducing D n k start first r now cols
reducing-skip {now = now} r e s out =
    record {
      left = under-less r now (subst (λ j. Under j now) (sym e) s.left) out;
      under = s.under;
      free = s.free;
      bounds = s.bounds;
    }

-- At a row that the chain holds, and whose slot is occupied, the slot is added to both sides.
pub reducing-add : {D : ℕ → Chain} {n m k : ℕ} {R W : ℕ → Chain} {start first : Chain} {i : ℕ} {now cols now' cols' : Chain}
    (r : ℕ) → suc r ≡ i → Echelon D n m k R W → Reducing D n k start first i now cols
    → r < m → R r r ≡ true → now r ≡ true → now' ≡ now ⊕ R r → cols' ≡ cols ⊕ W r
    → Reducing D n k start first r now' cols'
reducing-add {D} {n} {m} {k} {R} {W} {start} {first} {i} {now} {cols} {now'} {cols'} r e slots s h full held en ec =
    record {
      left =
          subst (Under r) (sym en)
          (under-less r (now ⊕ R r)
          (under-sum (suc r) now (R r) (subst (λ j. Under j now) (sym e) s.left) (λ j l. slots.low r j h l))
          (rw (held, full)));
      under =
          subst (Under k) (sym more) (under-sum k (cols ⊕ first) (W r) s.under (slots.under r h));
      free =
          subst (Free (Cycle D n)) (sym more)
          (free-sum (Cycle D n) (cols ⊕ first) (W r) s.free (slots.free r h));
      bounds =
          ap (boundary D n) more
          ∙ boundary-sum D n (cols ⊕ first) (W r)
          ∙ ap₂ ◌⊕◌ s.bounds (slots.sums r h)
          ∙ sum-last now start (R r)
          ∙ ap (λ x. x ⊕ start) (sym en);
    }
  where
    more : cols' ⊕ first ≡ cols ⊕ first ⊕ W r
    more = ap (λ x. x ⊕ first) ec ∙ sum-last cols (W r) first
