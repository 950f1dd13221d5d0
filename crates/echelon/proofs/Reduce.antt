-- Why: to reduce a chain of rows is to go through the rows from the highest down and, at each row that the chain holds,
-- to add what the slot of that row holds. No slot holds a row above its own, so a row that was dealt with stays as it is.
use Rattle.std.specs.Prelude.{ℕ, zero, suc, ◌≤◌, ◌<◌, ◌≡◌, refl, Bool, true, false, ◌≢◌}
use Rattle.std.proofs.Common.{sym, ◌∙◌, ap, subst, arith}
use Rattle.std.proofs.Math.Decide.{dec_lt}
use Rattle.chains.specs.Chain.{Chain, differ, ◌⊕◌, empty, Under, only, boundary}
use Rattle.chains.specs.Sum.{differ-false, sum-assoc, sum-empty, sum_self, sum-swap, sum_twice, only_sum, only-empty}
use Rattle.chains.specs.Boundary.{boundary-more, boundary-vanishes}
use Rattle.chains.specs.Smallest.{Group}
use Rattle.echelon.specs.Reduce.{Low, reduce}

pub reduce-sum : (R : ℕ → Chain) (r : ℕ) (a b : Chain) → reduce R r (a ⊕ b) ≡ reduce R r a ⊕ reduce R r b
unfolding reduce
reduce-sum R zero a b = refl
reduce-sum R (suc r) a b =
    ap (reduce R r)
    (ap (λ x. a ⊕ b ⊕ x) (only_sum (a r) (b r) (R r)) ∙ sum-swap a b (only (a r) (R r)) (only (b r) (R r)))
    ∙ reduce-sum R r (a ⊕ only (a r) (R r)) (b ⊕ only (b r) (R r))

-- One row: the slot is added where the chain holds the row, and makes no difference where it is empty.

pub reduce-held : (R : ℕ → Chain) (r : ℕ) (c : Chain) → c r ≡ true → reduce R (suc r) c ≡ reduce R r (c ⊕ R r)
unfolding reduce
reduce-held R r c e = ap (λ p. reduce R r (c ⊕ only p (R r))) e

pub reduce-skip : (R : ℕ → Chain) (r : ℕ) (c : Chain) → c r ≡ false → reduce R (suc r) c ≡ reduce R r c
unfolding reduce
reduce-skip R r c e = ap (λ p. reduce R r (c ⊕ only p (R r))) e ∙ ap (reduce R r) (sum-empty c)

pub reduce-vacant : (R : ℕ → Chain) (r : ℕ) (c : Chain) → R r ≡ empty → reduce R (suc r) c ≡ reduce R r c
unfolding reduce
reduce-vacant R r c e =
    ap (λ s. reduce R r (c ⊕ only (c r) s)) e ∙ ap (reduce R r) (ap (λ x. c ⊕ x) (only-empty (c r)) ∙ sum-empty c)

-- Only slots below r count.
pub reduce-same : (R S : ℕ → Chain) (r : ℕ) (c : Chain) → ((j : ℕ) → j < r → R j ≡ S j) → reduce R r c ≡ reduce S r c
unfolding reduce
reduce-same R S zero c same = refl
reduce-same R S (suc r) c same =
    ap (λ s. reduce R r (c ⊕ only (c r) s)) (same r (omega arith))
    ∙ reduce-same R S r (c ⊕ only (c r) (S r)) (λ j h. same j (omega arith))

pub reduce-empty : (R : ℕ → Chain) (r : ℕ) → reduce R r empty ≡ empty
unfolding reduce
reduce-empty R zero = refl
reduce-empty R (suc r) = reduce-empty R r

-- Rows that c does not reach need not be gone through.
pub reduce-rest : (R : ℕ → Chain) (k m : ℕ) (c : Chain) → k ≤ m → Under k c → reduce R m c ≡ reduce R k c
unfolding reduce
reduce-rest R k zero c h u = let z : zero ≡ k = omega arith in ap (λ x. reduce R x c) z
reduce-rest R k (suc m) c h u = go (λ le. reduce-rest R k m c le u) (dec_lt m k)
  where
    go : (k ≤ m → reduce R m c ≡ reduce R k c) → Dec (m < k) → reduce R (suc m) c ≡ reduce R k c
    go shorter (yes lt) = let z : suc m ≡ k = omega arith in ap (λ x. reduce R x c) z
    go shorter (no ge) =
        reduce-skip R m c (u m (omega arith)) ∙ shorter (omega arith)

-- Rows from r up stay as they are.
pub reduce-above : (R : ℕ → Chain) (r : ℕ) (c : Chain) (j : ℕ) → Low r R → r ≤ j → reduce R r c j ≡ c j
unfolding reduce
reduce-above R zero c j low h = refl
reduce-above R (suc r) c j low h =
    reduce-above R r (c ⊕ only (c r) (R r)) j (λ s t l. low s t (omega arith)) (omega arith) ∙ kept (c r)
  where
    kept : (p : Bool) → (c ⊕ only p (R r)) j ≡ c j
    kept true = ap (differ (c j)) (low r j (omega arith) h) ∙ differ-false (c j)
    kept false = differ-false (c j)

-- A row whose slot is occupied is cleared.
pub reduce-cleared : (R : ℕ → Chain) (r : ℕ) (c : Chain) (j : ℕ) → Low r R → j < r → R j j ≡ true → reduce R r c j ≡ false
unfolding reduce
reduce-cleared R zero c j low h full = absurd (omega arith)
reduce-cleared R (suc r) c j low h full =
    go (λ lt. reduce-cleared R r (c ⊕ only (c r) (R r)) j low' lt full) (dec_lt j r)
  where
    low' : Low r R
    low' s t l = low s t (omega arith)

    here : (p : Bool) → c r ≡ p → R r r ≡ true → (c ⊕ only p (R r)) r ≡ false
    here true e f = rw (e, f)
    here false e f = rw e

    go : (j < r → reduce R (suc r) c j ≡ false) → Dec (j < r) → reduce R (suc r) c j ≡ false
    go ih (yes lt) = ih lt
    go ih (no ge) =
        let z : r ≡ j = omega arith in
        reduce-above R r (c ⊕ only (c r) (R r)) j low' (omega arith)
        ∙ ap (c ⊕ only (c r) (R r)) (sym z)
        ∙ here (c r) refl (subst (λ i. R i i ≡ true) (sym z) full)

-- What the reduction adds to c is a sum of slots.
pub reduce-adds : (K : Chain → Type 0) (n : ℕ) → Group K n → (R : ℕ → Chain) (r : ℕ) (c : Chain)
    → ((j : ℕ) → j < r → K (R j)) → K (reduce R r c ⊕ c)
unfolding reduce
reduce-adds K n group R zero c slots = subst K (sym (sum_self c)) group.none
reduce-adds K n group R (suc r) c slots =
    let s = only (c r) (R r) in
    let left = reduce R r (c ⊕ s) in
    subst K (sum-assoc left (c ⊕ s) s ∙ ap (λ x. left ⊕ x) (sum_twice c s))
    (group.sum (left ⊕ (c ⊕ s)) s (reduce-adds K n group R r (c ⊕ s) (λ j h. slots j (omega arith))) (added (c r)))
  where
    added : (p : Bool) → K (only p (R r))
    added true = slots r (omega arith)
    added false = group.none

-- To occupy an empty slot changes nothing for a chain that was reduced to one without that row.
pub reduce-put : (R S : ℕ → Chain) (m r : ℕ) (c : Chain) → Low m R → r < m → R r ≡ empty
    → ((j : ℕ) → j < m → j ≢ r → S j ≡ R j) → reduce R m c r ≡ false → reduce S m c ≡ reduce R m c
unfolding reduce
reduce-put R S zero r c low h vacant same out = absurd (omega arith)
reduce-put R S (suc m) r c low h vacant same out =
    go (λ lt. reduce-put R S m r (c ⊕ only (c m) (R m)) low' lt vacant (λ j l ne. same j (omega arith) ne) out) (dec_lt r m)
  where
    low' : Low m R
    low' s t l = low s t (omega arith)

    go : (r < m → reduce S m (c ⊕ only (c m) (R m)) ≡ reduce R m (c ⊕ only (c m) (R m))) → Dec (r < m)
        → reduce S (suc m) c ≡ reduce R (suc m) c
    go ih (yes lt) =
        ap (λ s. reduce S m (c ⊕ only (c m) s)) (same m (omega arith) (omega arith)) ∙ ih lt
    go ih (no ge) =
        let z : m ≡ r = omega arith in
        let row : c m ≡ false
        = sym (reduce-above R m c m low' (omega arith))
        ∙ ap (λ a. a m) (sym (reduce-vacant R m c (ap R z ∙ vacant)))
        ∙ ap (reduce R (suc m) c) z
        ∙ out in
        reduce-skip S m c row
        ∙ reduce-same S R m c (λ j l. same j (omega arith) (omega arith))
        ∙ sym (reduce-skip R m c row)

-- Where the first k columns reduce to nothing, so does every sum of them.
pub reduce-boundary : (R D : ℕ → Chain) (m k n : ℕ) (x : Chain) → k ≤ n → Under k x
    → ((i : ℕ) → i < k → reduce R m (D i) ≡ empty) → reduce R m (boundary D n x) ≡ empty
reduce-boundary R D m k n x h u columns =
    ap (reduce R m) (boundary-more D k n x h u) ∙ boundary-vanishes (reduce R m) (reduce-sum R m) D k x columns
