-- Why: all ranks below n together weigh less than rank n alone. So the highest rank at which two chains differ
-- decides which of them weighs more, and the order on chains is the order of their weights.
use Rattle.std.specs.Prelude.{ℕ, zero, suc, ◌+◌, ◌^◌, ◌<◌, ◌≡◌, refl, Bool, true, false, ◌⊎◌, ◌↔◌}
use Rattle.std.proofs.Common.{sym, ◌∙◌, ap, subst, inl, inr, arith, pow-suc, add-zero}
use Rattle.std.proofs.Math.Decide.{dec_lt}
use Rattle.chains.specs.Chain.{Chain, Under, Smaller, weight}
use Rattle.chains.proofs.Order.{smaller-out, smaller-above, smaller-total, top-under}
use Rattle.chains.specs.Sum.{under-sum}

pub weight-in : (n : ℕ) (c : Chain) → c n ≡ true → weight (suc n) c ≡ weight n c + 2 ^ n
unfolding weight
weight-in n c e = rw e

pub weight-out : (n : ℕ) (c : Chain) → c n ≡ false → weight (suc n) c ≡ weight n c
unfolding weight
weight-out n c e = rw e (add-zero (weight n c))

pub weight-below : (n : ℕ) (c : Chain) → weight n c < 2 ^ n
unfolding weight
weight-below zero c = omega arith
weight-below (suc n) c = go (weight-below n c) (c n) refl
  where
    go : weight n c < 2 ^ n → (b : Bool) → c n ≡ b → weight (suc n) c < 2 ^ suc n
    go ih true e = omega (arith, weight-in n c e, pow-suc 2 n)
    go ih false e = omega (arith, weight-out n c e, pow-suc 2 n)

-- A difference at rank r, with agreement above it, decides the weights.
pub weight-decided : (n : ℕ) (P Q : Chain) (r : ℕ) → r < n → P r ≡ false → Q r ≡ true
    → ((j : ℕ) → r < j → P j ≡ Q j) → weight n P < weight n Q
weight-decided zero P Q r h out in' agree = omega arith
weight-decided (suc n) P Q r h out in' agree =
    go (λ lt. weight-decided n P Q r lt out in' agree) (dec_lt r n) (P n) refl
  where
    go : (r < n → weight n P < weight n Q) → Dec (r < n) → (b : Bool) → P n ≡ b → weight (suc n) P < weight (suc n) Q
    go ih (yes lt) true e =
        omega (arith, ih lt, weight-in n P e, weight-in n Q (sym (agree n lt) ∙ e))
    go ih (yes lt) false e =
        omega (arith, ih lt, weight-out n P e, weight-out n Q (sym (agree n lt) ∙ e))
    go ih (no ge) b e =
        let z : r ≡ n = omega arith in
        omega (
          arith,
          weight-below n P,
          weight-out n P (subst (λ k. P k ≡ false) z out),
          weight-in n Q (subst (λ k. Q k ≡ true) z in'),
        )

pub smaller-weighs-less : (n : ℕ) (P Q : Chain) → Under n P → Under n Q → Smaller P Q → weight n P < weight n Q
smaller-weighs-less n P Q up uq s =
    weight-decided n P Q s.rank (top-under n _ s.rank (under-sum n P Q up uq) s.top)
    (smaller-out P Q s) s.in_q (smaller-above P Q s)

pub weighs-less-smaller : (n : ℕ) (P Q : Chain) → Under n P → Under n Q → weight n P < weight n Q → Smaller P Q
weighs-less-smaller n P Q up uq lt = go (smaller-total n P Q up uq)
  where
    go : (P ≡ Q) ⊎ (Smaller P Q) ⊎ (Smaller Q P) → Smaller P Q
    go (inl e) = absurd (omega (arith, ap (weight n) e))
    go (inr (inl s)) = s
    go (inr (inr s)) = absurd (omega (arith, smaller-weighs-less n Q P uq up s))

-- "This is comparing numbers in which the simplex of rank i weighs 2 to the i."
pub smaller-weight : (n : ℕ) (P Q : Chain) → Under n P → Under n Q → Smaller P Q ↔ (weight n P < weight n Q)
smaller-weight n P Q up uq = (smaller-weighs-less n P Q up uq, weighs-less-smaller n P Q up uq)

-- The weight tells chains apart.
pub same-weight : (n : ℕ) (P Q : Chain) → Under n P → Under n Q → weight n P ≡ weight n Q → P ≡ Q
same-weight n P Q up uq e = go (smaller-total n P Q up uq)
  where
    go : (P ≡ Q) ⊎ (Smaller P Q) ⊎ (Smaller Q P) → P ≡ Q
    go (inl same) = same
    go (inr (inl s)) = absurd (omega (arith, e, smaller-weighs-less n P Q up uq s))
    go (inr (inr s)) = absurd (omega (arith, e, smaller-weighs-less n Q P uq up s))
