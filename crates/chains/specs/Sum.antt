-- Why: the sum of two chains is worked out rank by rank, and at one rank it is `differ`, which has two values a side.
-- So the chains form a group under ⊕ in which every chain is its own inverse.
use Rattle.std.specs.Prelude.{ℕ, ◌≤◌, ◌≡◌, refl, Bool, true, false}
use Rattle.std.proofs.Common.{sym, ◌∙◌, ap, arith}
use Rattle.std.proofs.Math.Path.{fun_ext}
use Rattle.chains.specs.Chain.{Chain, differ, ◌⊕◌, empty, Under, only}

-- One rank.

pub differ-assoc : (a b c : Bool) → differ (differ a b) c ≡ differ a (differ b c)
differ-assoc false b c = refl
differ-assoc true false c = refl
differ-assoc true true false = refl
differ-assoc true true true = refl

pub differ_comm : (a b : Bool) → differ a b ≡ differ b a
differ_comm false false = refl
differ_comm false true = refl
differ_comm true false = refl
differ_comm true true = refl

pub differ_self : (a : Bool) → differ a a ≡ false
differ_self false = refl
differ_self true = refl

pub differ-false : (a : Bool) → differ a false ≡ a
differ-false false = refl
differ-false true = refl

pub differ-left-comm : (a b c : Bool) → differ a (differ b c) ≡ differ b (differ a c)
differ-left-comm a b c = sym (differ-assoc a b c) ∙ ap (λ x. differ x c) (differ_comm a b) ∙ differ-assoc b a c

pub differ-self-left : (a b : Bool) → differ a (differ a b) ≡ b
differ-self-left a b = sym (differ-assoc a a b) ∙ ap (λ x. differ x b) (differ_self a)

-- These laws bring any two equal sums at one rank to the same form: `simp differ-laws`.
pub ruleset differ-laws = (differ-assoc, differ_comm, differ-left-comm, differ_self, differ-self-left, differ-false)

-- All ranks.

pub sum-assoc : (a b c : Chain) → a ⊕ b ⊕ c ≡ a ⊕ (b ⊕ c)
sum-assoc a b c = fun_ext λ i. differ-assoc (a i) (b i) (c i)

pub sum_comm : (a b : Chain) → a ⊕ b ≡ b ⊕ a
sum_comm a b = fun_ext λ i. differ_comm (a i) (b i)

pub sum_self : (a : Chain) → a ⊕ a ≡ empty
sum_self a = fun_ext λ i. differ_self (a i)

pub sum-empty : (a : Chain) → a ⊕ empty ≡ a
sum-empty a = fun_ext λ i. differ-false (a i)

pub empty-sum : (a : Chain) → empty ⊕ a ≡ a
empty-sum a = refl

-- Adding the same chain twice changes nothing.
pub sum_twice : (a b : Chain) → a ⊕ b ⊕ b ≡ a
sum_twice a b = fun_ext λ i. simp differ-laws

pub sum-twice-left : (a b : Chain) → a ⊕ (a ⊕ b) ≡ b
sum-twice-left a b = fun_ext λ i. differ-self-left (a i) (b i)

-- The middle two of four change places.
pub sum-swap : (a b c d : Chain) → a ⊕ b ⊕ (c ⊕ d) ≡ a ⊕ c ⊕ (b ⊕ d)
sum-swap a b c d = fun_ext λ i. simp differ-laws

-- The last two of three change places.
pub sum-last : (a b c : Chain) → a ⊕ b ⊕ c ≡ a ⊕ c ⊕ b
sum-last a b c = fun_ext λ i. simp differ-laws

-- What both sums share falls away.
pub sum-shared : (a b c : Chain) → a ⊕ c ⊕ (b ⊕ c) ≡ a ⊕ b
sum-shared a b c = fun_ext λ i. simp differ-laws

-- Two chains are equal when their sum is empty.
pub same-of-sum : (a b : Chain) → a ⊕ b ≡ empty → a ≡ b
same-of-sum a b e = sym (sum_twice a b) ∙ ap (λ c. c ⊕ b) e

-- A sum is moved to the other side of an equation.
pub sum-moves : (a b c : Chain) → a ⊕ b ≡ c → a ≡ c ⊕ b
sum-moves a b c e = sym (sum_twice a b) ∙ ap (λ x. x ⊕ b) e

-- The chain that is kept or left out by a test.

pub only_sum : (p q : Bool) (a : Chain) → only (differ p q) a ≡ only p a ⊕ only q a
only_sum false q a = refl
only_sum true false a = sym (sum-empty a)
only_sum true true a = sym (sum_self a)

pub only-empty : (p : Bool) → only p empty ≡ empty
only-empty false = refl
only-empty true = refl

-- The bound on the ranks.

pub under-empty : (n : ℕ) → Under n empty
under-empty n i le = refl

pub under-sum : (n : ℕ) (a b : Chain) → Under n a → Under n b → Under n (a ⊕ b)
under-sum n a b ua ub i le = rw (ua i le, ub i le)

pub under-only : (n : ℕ) (p : Bool) (a : Chain) → Under n a → Under n (only p a)
under-only n false a ua i le = refl
under-only n true a ua i le = ua i le

pub under_more : (k n : ℕ) (a : Chain) → k ≤ n → Under k a → Under n a
under_more k n a h ua i le = ua i (omega arith)
