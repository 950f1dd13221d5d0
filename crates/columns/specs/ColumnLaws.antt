-- Laws of columns: sums of columns are sums of chains, and a flipped bit is a sum with one rank. Each goes down to
-- one bit of one byte, where `bit_xor` is looked at digit by digit.
use Rattle.std.specs.Prelude.{ℕ, zero, suc, ◌+◌, ◌-◌, ◌*◌, ◌/◌, ◌%◌, ◌^◌, ◌≤◌, ◌<◌, ◌≡◌, refl, ◌⊎◌, ◌≢◌, false, List, [], ◌∷◌, eqb, length, get_or, set, replicate}
use Rattle.std.proofs.Common.{sym, ap, ap₂, ◌∙◌, inl, inr, ⊎_elim, mod-lt, pow-suc, arith, length-set, get_or-set_same, get_or-set_other, pow_pos, pow-add, eq-eqb, ne_eqb}
use Rattle.std.proofs.Math.Path.{fun_ext}
use Rattle.std.proofs.Math.Nat.{div-eq_of_lt, div_self, mul-mod_left}
use Rattle.std.proofs.Math.Decide.{ℕ_discrete, dec_lt}
use Rattle.std.proofs.Math.ListN.{get_or-eq_default}
use Rattle.std.proofs.Math.Pow.{pow-lt}
use Rattle.std.proofs.lemmas.Nat.{shl-shr, xor_shr, xor_mod}
use Rattle.std.specs.Int.Bits.{bit_xor, xor_zero_r}
use Rattle.chains.specs.Chain.{differ, ◌⊕◌, empty, unit, Under}
use Rattle.chains.specs.Sum.{differ-false}
use Rattle.columns.specs.Column.{bit, bit_at, chain_of, xor_bytes, flipped}

-- ---- one bit of one byte

-- a number is even or odd
parity : (n : ℕ) → (n % 2 ≡ 0) ⊎ (n % 2 ≡ 1)
parity n = go (n % 2) (mod-lt n {m = 2} (omega arith))
  where
    go : (m : ℕ) → m < 2 → (m ≡ 0) ⊎ (m ≡ 1)
    go zero h = inl refl
    go (suc zero) h = inr refl
    go (suc (suc m)) h = absurd (omega arith)

-- the lowest bit of a sum: exactly one of the two lowest bits
low-differ : (a b : ℕ) → eqb (bit_xor a b % 2) 1 ≡ differ (eqb (a % 2) 1) (eqb (b % 2) 1)
low-differ a b = rw (xor_mod a b 1) (go (a % 2) (b % 2) (parity a) (parity b))
  where
    go : (x y : ℕ) → (x ≡ 0) ⊎ (x ≡ 1) → (y ≡ 0) ⊎ (y ≡ 1) → eqb (bit_xor x y) 1 ≡ differ (eqb x 1) (eqb y 1)
    go x y (inl p) (inl q) = rw (p, q)
    go x y (inl p) (inr q) = rw (p, q)
    go x y (inr p) (inl q) = rw (p, q)
    go x y (inr p) (inr q) = rw (p, q)

pub bit-xor : (x y k : ℕ) → bit (bit_xor x y) k ≡ differ (bit x k) (bit y k)
unfolding bit
bit-xor x y k = rw (xor_shr x y k) (low-differ (x / 2 ^ k) (y / 2 ^ k))

pub bit-zero : (k : ℕ) → bit 0 k ≡ false
unfolding bit
bit-zero k = rw (div-eq_of_lt (pow_pos k)) refl

-- a power of two has the one bit that it is named after
pub bit-power : (k j : ℕ) → bit (2 ^ k) j ≡ eqb k j
unfolding bit
bit-power k j = ⊎_elim below (λ h. ⊎_elim same above h) (three k j)
  where
    three : (k j : ℕ) → (k < j) ⊎ ((k ≡ j) ⊎ (j < k))
    three k j = elim (dec_lt k j) [ yes h ↦ inl h | no h ↦ inr (elim (ℕ_discrete k j) [ yes e ↦ inl e | no n ↦ inr (omega arith) ]) ]

    below : k < j → eqb (2 ^ k / 2 ^ j % 2) 1 ≡ eqb k j
    below h = ap (λ (q : ℕ). eqb (q % 2) 1) (div-eq_of_lt (pow-lt h)) ∙ sym (ne_eqb k j (λ e. omega arith))

    same : k ≡ j → eqb (2 ^ k / 2 ^ j % 2) 1 ≡ eqb k j
    same e = ap (λ (n : ℕ). eqb (2 ^ n / 2 ^ j % 2) 1) e ∙ ap (λ (q : ℕ). eqb (q % 2) 1) (div_self (pow_pos j)) ∙ sym (eq-eqb k j e)

    above : j < k → eqb (2 ^ k / 2 ^ j % 2) 1 ≡ eqb k j
    above h =
        let m : ℕ = k - suc j in
        let split : k ≡ suc m + j = omega arith in
        let twice : 2 ^ k ≡ 2 ^ m * 2 * 2 ^ j =
        ap (λ (n : ℕ). 2 ^ n) split ∙ pow-add 2 (suc m) j ∙ ap (λ (x : ℕ). x * 2 ^ j) (pow-suc 2 m) in
        ap (λ (x : ℕ). eqb (x / 2 ^ j % 2) 1) twice ∙ ap (λ (x : ℕ). eqb (x % 2) 1) (shl-shr (2 ^ m * 2) j)
        ∙ ap (λ (x : ℕ). eqb x 1) (mul-mod_left (2 ^ m) 2) ∙ sym (ne_eqb k j (λ e. omega arith))

-- ---- sums of columns

pub length-xor : (a b : List ℕ) → length (xor_bytes a b) ≡ length a
length-xor [] b = refl
length-xor (x ∷ a) [] = refl
length-xor (x ∷ a) (y ∷ b) = ap suc (length-xor a b)

-- byte j of a sum
pub get_or-xor : (a b : List ℕ) (j : ℕ) → length b ≤ length a → get_or (xor_bytes a b) j 0 ≡ bit_xor (get_or a j 0) (get_or b j 0)
get_or-xor [] [] j h = refl
get_or-xor [] (y ∷ b) j h = absurd (omega arith)
get_or-xor (x ∷ a) [] j h = sym (xor_zero_r _)
get_or-xor (x ∷ a) (y ∷ b) zero h = refl
get_or-xor (x ∷ a) (y ∷ b) (suc j) h = get_or-xor a b j (omega arith)

-- the sum of two columns holds the sum of their chains
pub chain_of-xor : (a b : List ℕ) → length b ≤ length a → chain_of (xor_bytes a b) ≡ chain_of a ⊕ chain_of b
unfolding bit_at
chain_of-xor a b h =
    fun_ext (λ i. ap (λ (x : ℕ). bit x (i % 8)) (get_or-xor a b (i / 8) h)
    ∙ bit-xor (get_or a (i / 8) 0) (get_or b (i / 8) 0) (i % 8))

-- ---- the empty column, and columns as bounded chains

pub chain_of-zeros : (n : ℕ) → chain_of (replicate n 0) ≡ empty
unfolding bit_at
chain_of-zeros n = fun_ext (λ i. ap (λ (x : ℕ). bit x (i % 8)) (zeros n (i / 8)) ∙ bit-zero (i % 8))
  where
    zeros : (n j : ℕ) → get_or {A = ℕ} (replicate n 0) j 0 ≡ 0
    zeros zero j = refl
    zeros (suc n) zero = refl
    zeros (suc n) (suc j) = zeros n j

pub chain_of-under : (l : List ℕ) → Under (8 * length l) (chain_of l)
unfolding bit_at
chain_of-under l i h = ap (λ (x : ℕ). bit x (i % 8)) (get_or-eq_default l 0 (omega arith)) ∙ bit-zero (i % 8)

-- ---- a flipped bit

pub length-flipped : (l : List ℕ) (i : ℕ) → length (flipped l i) ≡ length l
unfolding flipped
length-flipped l i = length-set l (i / 8) _

-- in one byte, ranks are the same where their bits are
same_bit : (i j : ℕ) → i / 8 ≡ j / 8 → eqb (i % 8) (j % 8) ≡ eqb i j
same_bit i j e = elim (ℕ_discrete i j) [
  | yes p ↦ eq-eqb (i % 8) (j % 8) (ap (λ (q : ℕ). q % 8) p) ∙ sym (eq-eqb i j p)
  | no n ↦ ne_eqb (i % 8) (j % 8) (λ q. n (omega arith)) ∙ sym (ne_eqb i j n)
]

pub chain_of-flipped : (l : List ℕ) (i : ℕ) → i < 8 * length l → chain_of (flipped l i) ≡ chain_of l ⊕ unit i
unfolding bit_at flipped
chain_of-flipped l i h = fun_ext (λ j. elim (ℕ_discrete (j / 8) (i / 8)) [ yes e ↦ here j e | no n ↦ other j n ])
  where
    new : ℕ
    new = bit_xor (get_or l (i / 8) 0) (2 ^ (i % 8))

    here : (j : ℕ) → j / 8 ≡ i / 8
        → bit (get_or (set l (i / 8) new) (j / 8) 0) (j % 8) ≡ differ (bit (get_or l (j / 8) 0) (j % 8)) (eqb i j)
    here j e =
        ap (λ (q : ℕ). bit (get_or (set l (i / 8) new) q 0) (j % 8)) e
        ∙ ap (λ (x : ℕ). bit x (j % 8)) (get_or-set_same l (i / 8) new 0 (omega arith))
        ∙ bit-xor (get_or l (i / 8) 0) (2 ^ (i % 8)) (j % 8)
        ∙ ap₂ differ (ap (λ (q : ℕ). bit (get_or l q 0) (j % 8)) (sym e)) (bit-power (i % 8) (j % 8) ∙ same_bit i j (sym e))

    other : (j : ℕ) → j / 8 ≢ i / 8
        → bit (get_or (set l (i / 8) new) (j / 8) 0) (j % 8) ≡ differ (bit (get_or l (j / 8) 0) (j % 8)) (eqb i j)
    other j n =
        ap (λ (x : ℕ). bit x (j % 8)) (get_or-set_other l (i / 8) (j / 8) new 0 n)
        ∙ sym (differ-false (bit (get_or l (j / 8) 0) (j % 8)))
        ∙ ap (differ (bit (get_or l (j / 8) 0) (j % 8))) (sym (ne_eqb i j (λ e. n (ap (λ (q : ℕ). q / 8) (sym e)))))
