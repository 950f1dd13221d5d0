-- Why: each slot holds a sum of columns, with its own row as the highest, so a chain that is stuck at a row with a vacant
-- slot keeps that row whatever is added below. And each column reduces to nothing, hence so does every sum of columns:
-- a chain that gets stuck is no boundary.
use Rattle.std.specs.Prelude.{ℕ, zero, suc, ◌≤◌, ◌<◌, ◌≡◌, true, false}
use Rattle.std.proofs.Common.{sym, ◌∙◌, ap, subst, true≢false, arith}
use Rattle.chains.specs.Chain.{Chain, empty, Under, Top, boundary}
use Rattle.chains.specs.Sum.{under-empty, under_more}
use Rattle.chains.specs.Boundary.{boundary-empty}
use Rattle.chains.specs.Smallest.{Free}
use Rattle.chains.proofs.Smallest.{free-empty, free-member}
use Rattle.chains.specs.Homology.{Cycle}
use Rattle.echelon.specs.Reduce.{reduce}
use Rattle.echelon.proofs.Reduce.{reduce-vacant, reduce-rest, reduce-above, reduce-boundary}
use Rattle.echelon.specs.Echelon.{Echelon}

-- Before the first column all slots are vacant.
pub echelon-start : (D : ℕ → Chain) (n m : ℕ) (R W : ℕ → Chain)
    → ((r : ℕ) → r < m → R r ≡ empty) → ((r : ℕ) → r < m → W r ≡ empty) → Echelon D n m zero R W
echelon-start D n m R W rows columns =
    record {
      low = λ r j h l. ap (λ c. c j) (rows r h);
      vacant = λ r h e. rows r h;
      under = λ r h. subst (Under zero) (sym (columns r h)) (under-empty zero);
      sums = λ r h. ap (boundary D n) (columns r h) ∙ boundary-empty D n ∙ sym (rows r h);
      free = λ r h. subst (Free (Cycle D n)) (sym (columns r h)) (free-empty (Cycle D n));
      complete = λ i h. absurd (omega arith);
    }

module _ {D : ℕ → Chain} {n m k : ℕ} {R W : ℕ → Chain} (h : k ≤ n) (slots : Echelon D n m k R W) where
  -- A chain whose highest row is one with a vacant slot keeps that row.
  pub stuck_keeps : (r : ℕ) (c : Chain) → r < m → R r r ≡ false → Under (suc r) c → c r ≡ true → reduce R m c r ≡ true
  stuck_keeps r c l e u t =
      ap (λ x. x r) (reduce-rest R (suc r) m c l u ∙ reduce-vacant R r c (slots.vacant r l e))
      ∙ reduce-above R r c r (λ s j ls. slots.low s j (omega arith)) (omega arith)
      ∙ t

  -- So it is no sum of columns that were put in.
  pub stuck-no-boundary : (r : ℕ) (c : Chain) → r < m → R r r ≡ false → Under (suc r) c → c r ≡ true
      → (x : Chain) → Under k x → boundary D n x ≡ c → ⊥
  stuck-no-boundary r c l e u t x ux b =
      true≢false
      (sym (stuck_keeps r c l e u t)
      ∙ ap (λ a. reduce R m a r) (sym b)
      ∙ ap (λ a. a r) (reduce-boundary R D m k n x h ux slots.complete))

module _ {D : ℕ → Chain} {n m k : ℕ} {R W : ℕ → Chain} (slots : Echelon D n m k R W) (r : ℕ) (l : r < m) where
  -- The highest row of an occupied slot is its own.
  pub slot-top : R r r ≡ true → Top (R r) r
  slot-top full = record { holds = full; above = λ j h. slots.low r j l h }

  pub slot-under : Under m (R r)
  slot-under j h = slots.low r j l (omega arith)

  -- A vacant slot is made of no columns: they would be a cycle.
  pub vacant-columns : k ≤ n → R r r ≡ false → W r ≡ empty
  vacant-columns h out =
      let u : Under n (W r) = under_more k n (W r) h (slots.under r l) in
      free-member (Cycle D n) n (W r) u
      (record { under = u; closed = slots.sums r l ∙ slots.vacant r l out })
      (slots.free r l)
