-- Why: the boundary of a chain is a sum over the ranks that it holds, and such a sum may be taken rank by rank in any
-- order. So the boundary of a sum is the sum of the boundaries, and what holds of every column holds of every boundary.
use Rattle.std.specs.Prelude.{ℕ, zero, suc, ◌≤◌, ◌<◌, ◌≡◌, refl, Bool, true, false, ◌≢◌, T, eqb}
use Rattle.std.proofs.Common.{◌∙◌, ap, ap₂, arith, eqb→eq}
use Rattle.std.proofs.Math.Decide.{dec_lt}
use Rattle.std.proofs.Math.Dec.{eqb_refl}
use Rattle.chains.specs.Chain.{Chain, ◌⊕◌, empty, unit, Under, only, boundary}
use Rattle.chains.specs.Sum.{sum-swap, sum-empty, sum_self, only_sum, under-empty, under-sum, under-only}

-- The chain of one rank.

pub unit-here : (i : ℕ) → unit i i ≡ true
unit-here i = go (eqb i i) (eqb_refl i)
  where
    go : (b : Bool) → T b → b ≡ true
    go true t = refl
    go false t = absurd t

pub unit-else : (i j : ℕ) → i ≢ j → unit i j ≡ false
unit-else i j ne = go (eqb i j) (eqb→eq i j)
  where
    go : (b : Bool) → (T b → i ≡ j) → b ≡ false
    go true same = absurd (ne (same tt))
    go false same = refl

pub under-unit : (i n : ℕ) → i < n → Under n (unit i)
under-unit i n h j le = unit-else i j (omega arith)

-- The boundary as a map on chains.

pub boundary-sum : (D : ℕ → Chain) (n : ℕ) (a b : Chain) → boundary D n (a ⊕ b) ≡ boundary D n a ⊕ boundary D n b
unfolding boundary
boundary-sum D zero a b = refl
boundary-sum D (suc n) a b =
    ap₂ ◌⊕◌ (boundary-sum D n a b) (only_sum (a n) (b n) (D n))
    ∙ sum-swap (boundary D n a) (boundary D n b) (only (a n) (D n)) (only (b n) (D n))

pub boundary-empty : (D : ℕ → Chain) (n : ℕ) → boundary D n empty ≡ empty
unfolding boundary
boundary-empty D zero = refl
boundary-empty D (suc n) = ap (λ a. a ⊕ empty) (boundary-empty D n)

-- Only columns and members below n count.
pub boundary-same : (D E : ℕ → Chain) (n : ℕ) (a b : Chain)
    → ((i : ℕ) → i < n → D i ≡ E i) → ((i : ℕ) → i < n → a i ≡ b i) → boundary D n a ≡ boundary E n b
unfolding boundary
boundary-same D E zero a b columns members = refl
boundary-same D E (suc n) a b columns members =
    ap₂ ◌⊕◌
    (boundary-same D E n a b (λ i h. columns i (omega arith)) (λ i h. members i (omega arith)))
    (ap₂ only (members n (omega arith)) (columns n (omega arith)))

-- A chain that stops below k has the same boundary in the first k columns as in more of them.
pub boundary-more : (D : ℕ → Chain) (k n : ℕ) (c : Chain) → k ≤ n → Under k c → boundary D n c ≡ boundary D k c
unfolding boundary
boundary-more D k zero c h u = let z : zero ≡ k = omega arith in ap (λ x. boundary D x c) z
boundary-more D k (suc n) c h u = go (λ le. boundary-more D k n c le u) (dec_lt n k)
  where
    go : (k ≤ n → boundary D n c ≡ boundary D k c) → Dec (n < k) → boundary D (suc n) c ≡ boundary D k c
    go shorter (yes lt) = let z : suc n ≡ k = omega arith in ap (λ x. boundary D x c) z
    go shorter (no ge) =
        ap₂ ◌⊕◌ (shorter (omega arith)) (ap (λ p. only p (D n)) (u n (omega arith)))
        ∙ sum-empty (boundary D k c)

-- The boundary of one rank is its column.
pub boundary-unit : (D : ℕ → Chain) (n i : ℕ) → i < n → boundary D n (unit i) ≡ D i
unfolding boundary
boundary-unit D n i h =
    boundary-more D (suc i) n (unit i) h (under-unit i (suc i) (omega arith))
    ∙ ap₂ ◌⊕◌
    (boundary-same D D i (unit i) empty (λ j l. refl) (λ j l. unit-else i j (omega arith)) ∙ boundary-empty D i)
    (ap (λ p. only p (D i)) (unit-here i))

-- Columns of m rows add up to a chain of m rows.
pub boundary-under : (D : ℕ → Chain) (n m : ℕ) (c : Chain) → ((i : ℕ) → i < n → Under m (D i)) → Under m (boundary D n c)
unfolding boundary
boundary-under D zero m c columns = under-empty m
boundary-under D (suc n) m c columns =
    under-sum m (boundary D n c) (only (c n) (D n))
    (boundary-under D n m c (λ i h. columns i (omega arith)))
    (under-only m (c n) (D n) (columns n (omega arith)))

-- An additive map that makes every column empty makes every boundary empty.
pub boundary-vanishes : (f : Chain → Chain) → ((a b : Chain) → f (a ⊕ b) ≡ f a ⊕ f b)
    → (D : ℕ → Chain) (n : ℕ) (c : Chain) → ((i : ℕ) → i < n → f (D i) ≡ empty) → f (boundary D n c) ≡ empty
unfolding boundary
boundary-vanishes f additive D zero c columns = additive empty empty ∙ sum_self (f empty)
boundary-vanishes f additive D (suc n) c columns =
    additive (boundary D n c) (only (c n) (D n))
    ∙ ap₂ ◌⊕◌ (boundary-vanishes f additive D n c (λ i h. columns i (omega arith))) (last (c n))
  where
    last : (p : Bool) → f (only p (D n)) ≡ empty
    last true = columns n (omega arith)
    last false = additive empty empty ∙ sum_self (f empty)

-- Where every column has an empty boundary, every boundary has one.
pub boundary-boundary : (E D : ℕ → Chain) (m n : ℕ) (c : Chain)
    → ((i : ℕ) → i < n → boundary E m (D i) ≡ empty) → boundary E m (boundary D n c) ≡ empty
boundary-boundary E D m n c columns = boundary-vanishes (boundary E m) (boundary-sum E m) D n c columns
