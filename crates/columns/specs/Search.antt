-- The search for the highest rank that a chain holds below a bound, as `next_down` answers it: the definition, its
-- equations, and what each answer means.
use Rattle.std.specs.Prelude.{ℕ, zero, suc, ◌≤◌, ◌<◌, ◌≡◌, refl, Bool, true, false, cond, Option, Some, None}
use Rattle.std.proofs.Common.{sym, ap, ◌∙◌, subst, arith}
use Rattle.std.proofs.Math.Decide.{ℕ_discrete, le_ind}
use Rattle.chains.specs.Chain.{Chain}

-- the highest rank below n that c holds
unfoldable pub highest_below : Chain → ℕ → Option ℕ
highest_below c zero = None
highest_below c (suc n) = cond (c n) (Some n) (highest_below c n)

-- i is the highest rank below n that c holds
pub record HighestAt (c : Chain) (n i : ℕ) : Type 0 where
  pub below : i < n
  pub holds : c i ≡ true
  pub above : (j : ℕ) → i < j → j < n → c j ≡ false

-- ---- the equations

pub highest-held : (c : Chain) (n : ℕ) → c n ≡ true → highest_below c (suc n) ≡ Some n
unfolding highest_below
highest-held c n e = ap (λ (b : Bool). cond b (Some n) (highest_below c n)) e

pub highest-not-held : (c : Chain) (n : ℕ) → c n ≡ false → highest_below c (suc n) ≡ highest_below c n
unfolding highest_below
highest-not-held c n e = ap (λ (b : Bool). cond b (Some n) (highest_below c n)) e

-- ranks that c does not hold are passed over
pub highest-skip : (c : Chain) (k n : ℕ) → k ≤ n → ((j : ℕ) → k ≤ j → j < n → c j ≡ false) → highest_below c n ≡ highest_below c k
highest-skip c k n l none =
    le_ind (λ (m : ℕ). ((j : ℕ) → k ≤ j → j < m → c j ≡ false) → highest_below c m ≡ highest_below c k)
    (λ h. refl)
    (λ m l ih h. highest-not-held c m (h m l (omega arith)) ∙ ih (λ j p q. h j p (omega arith)))
    n l none

-- ---- what the answers mean

-- what is not held at n and not held from i up to n is not held from i up to n + 1
one_more : (c : Chain) (n i : ℕ) → c n ≡ false → ((j : ℕ) → i ≤ j → j < n → c j ≡ false) → (j : ℕ) → i ≤ j → j < suc n → c j ≡ false
one_more c n i e h j p q = elim (ℕ_discrete j n) [ yes s ↦ ap c s ∙ e | no s ↦ h j p (omega arith) ]

pub highest-at : (c : Chain) (n i : ℕ) → highest_below c n ≡ Some i → HighestAt c n i
unfolding highest_below
highest-at c zero i e = absurd (let z : ◌≡◌ {A = ℕ} 0 1 = cc in omega arith)
highest-at c (suc n) i e = go (c n) refl (highest-at c n i)
  where
    go : (b : Bool) → c n ≡ b → (highest_below c n ≡ Some i → HighestAt c n i) → HighestAt c (suc n) i
    go true h rec =
        let same : n ≡ i = cc (highest-held c n h) in
        subst (λ (m : ℕ). HighestAt c (suc n) m) same (record { below = omega arith; holds = h; above = λ j p q. absurd (omega arith) })
    go false h rec =
        let lower : HighestAt c n i = rec (sym (highest-not-held c n h) ∙ e) in
        record { below = omega arith; holds = lower.holds; above = λ j p q. one_more c n (suc i) h lower.above j p q }

pub highest-nothing : (c : Chain) (n : ℕ) → highest_below c n ≡ None → (j : ℕ) → j < n → c j ≡ false
unfolding highest_below
highest-nothing c zero e j l = absurd (omega arith)
highest-nothing c (suc n) e j l = go (c n) refl (highest-nothing c n)
  where
    go : (b : Bool) → c n ≡ b → (highest_below c n ≡ None → (j : ℕ) → j < n → c j ≡ false) → c j ≡ false
    go true h rec = absurd (let z : ◌≡◌ {A = ℕ} 0 1 = cc (highest-held c n h) in omega arith)
    go false h rec = one_more c n 0 h (λ j p q. rec (sym (highest-not-held c n h) ∙ e) j q) j (omega arith) l
