-- Laws of words: the bits of a number that is put together from bytes, its highest bit, and what they say of the column that
-- the word was read from.
use Prim.Native.Nat.{ℕ, zero, suc, ◌+◌, ◌-◌, ◌*◌, ◌/◌, ◌%◌, ◌^◌, ◌≤◌, ◌<◌}
use mathlib.Core.Path.{◌≡◌, refl, sym, ap, ap₂, ◌∙◌, subst}
use mathlib.Core.Bool.{true, false}
use mathlib.Core.List.{List}
use native.Mathlib.Nat.{div-eq_of_lt, one-mul, mod-lt, mod-eq_of_lt, pow-le-pow_right, pow-suc}
use native.Mathlib.Omega.{arith}
use native.Mathlib.Decide.{dec_lt}
use lib.Dec.{eqb}
use lib.ListN.{get_or, take, drop, length-take, get_or-eq_default}
use lib.Seq.{get_or-take, get_or-drop}
use lib.Pow.{pow_pos, pow-lt, shr-shr, high, low, field, mod-mod-pow}
use borrow.Author.Tests.{ne_eqb}
use Rattle.std.specs.Int.{w64, from_le_bytes}
use Rattle.std.proofs.lemmas.Nat.{le-div, div_below}
use Rattle.std.specs.Prelude.{Some, None}
use Rattle.columns.specs.Column.{bit, bit_at}
use Rattle.columns.specs.ColumnLaws.{bit-zero}
use Rattle.columns.specs.Word.{WordAt}
use Rattle.columns.specs.Search.{highest_below, highest-held, highest-not-held, highest-skip}

-- ---- bits of a number

-- the lowest n bits of a number are its own
bit-mod : (x n k : ℕ) → k < n → bit (x % 2 ^ n) k ≡ bit x k
unfolding bit
bit-mod x n k l =
    let j : ℕ = n - suc k in
    let parts : n ≡ j + 1 + k = omega arith in
    ap (λ (m : ℕ). eqb (x % 2 ^ m / 2 ^ k % 2) 1) parts
    ∙ ap (λ (q : ℕ). eqb (q % 2) 1) (field x (j + 1) k)
    ∙ ap (λ (q : ℕ). eqb q 1) (mod-mod-pow (x / 2 ^ k) j 1)

-- and it has none from its length on
bit-over : (x k : ℕ) → x < 2 ^ k → bit x k ≡ false
unfolding bit
bit-over x k l = rw (div-eq_of_lt l) refl

-- but it has the one that its length ends with
bit-top : (x k : ℕ) → 2 ^ k ≤ x → x < 2 * 2 ^ k → bit x k ≡ true
unfolding bit
bit-top x k le lt =
    let some : 0 < 2 ^ k = pow_pos k in
    let one : x / 2 ^ k ≡ 1 = omega (arith, le-div 1 x (2 ^ k) some (omega arith), div_below x (2 ^ k) 2 some lt) in
    ap (λ (q : ℕ). eqb (q % 2) 1) one

-- a byte put below a number: its bits are the lowest eight, and those of the number move up
bit_byte : (x byte k : ℕ) → byte < 256 → k < 8 → bit (x * 256 + byte) k ≡ bit byte k
bit_byte x byte k l h = sym (bit-mod (x * 256 + byte) 8 k h) ∙ ap (λ (y : ℕ). bit y k) (low x 8 l)

bit_up : (x byte k : ℕ) → byte < 256 → bit (x * 256 + byte) (8 + k) ≡ bit x k
unfolding bit
bit_up x byte k l =
    ap (λ (q : ℕ). eqb (q % 2) 1) (sym (shr-shr (x * 256 + byte) 8 k) ∙ ap (λ (q : ℕ). q / 2 ^ k) (high x 8 l))

-- ---- a word that is put together from bytes

-- the number that n bytes make, the first of them lowest
abbrev pub low_first : (ℕ → ℕ) → ℕ → ℕ
low_first f zero = 0
low_first f (suc n) = low_first (λ i. f (suc i)) n * 256 + f 0

-- it holds the bits of each
bit-bytes : (f : ℕ → ℕ) → ((i : ℕ) → f i < 256) → (n k : ℕ) → k < 8 * n → bit (low_first f n) k ≡ bit (f (k / 8)) (k % 8)
bit-bytes f small zero k l = absurd (omega arith)
bit-bytes f small (suc n) k l = elim (dec_lt k 8) [ yes p ↦ lowest p | no p ↦ others (omega arith) (bit-bytes (λ i. f (suc i)) (λ i. small (suc i)) n (k - 8)) ]
  where
    lowest : k < 8 → bit (low_first f (suc n)) k ≡ bit (f (k / 8)) (k % 8)
    lowest p =
        let byte : 0 ≡ k / 8 = omega arith in
        let rest : k ≡ k % 8 = omega arith in
        bit_byte (low_first (λ i. f (suc i)) n) (f 0) k (small 0) p ∙ ap₂ (λ (q m : ℕ). bit (f q) m) byte rest

    others : 8 ≤ k → (k - 8 < 8 * n → bit (low_first (λ i. f (suc i)) n) (k - 8) ≡ bit (f (suc ((k - 8) / 8))) ((k - 8) % 8))
        → bit (low_first f (suc n)) k ≡ bit (f (k / 8)) (k % 8)
    others p rec =
        let up : k ≡ 8 + (k - 8) = omega arith in
        let byte : suc ((k - 8) / 8) ≡ k / 8 = omega arith in
        let rest : (k - 8) % 8 ≡ k % 8 = omega arith in
        ap (bit (low_first f (suc n))) up
        ∙ bit_up (low_first (λ i. f (suc i)) n) (f 0) (k - 8) (small 0)
        ∙ rec (omega arith)
        ∙ ap₂ (λ (q m : ℕ). bit (f q) m) byte rest

-- the bits of a part of a list are those of the list from where it begins
pub bit-part : (l : List ℕ) (from n i : ℕ) → i < 8 * n → bit_at (take n (drop from l)) i ≡ bit_at l (8 * from + i)
unfolding bit_at
bit-part l from n i lt =
    let byte : from + i / 8 ≡ (8 * from + i) / 8 = omega arith in
    let rest : i % 8 ≡ (8 * from + i) % 8 = omega arith in
    ap (λ (x : ℕ). bit x (i % 8)) (get_or-take n (drop from l) (i / 8) 0 (omega arith) ∙ get_or-drop from l (i / 8) 0)
    ∙ ap₂ (λ (q m : ℕ). bit (get_or l q 0) m) byte rest

-- so eight bytes of a column make a word of it
pub word-read : {col part : List ℕ} {at n word : ℕ} → n ≡ 8 → ((i : ℕ) → get_or col i 0 < 256) → part ≡ take n (drop at col)
    → word ≡ from_le_bytes w64 part → WordAt col at word
unfolding bit_at
word-read {col} {part} {at} {n} {word} eight small is e = record {
  holds = λ k l. ap (λ (x : ℕ). bit x k) (e ∙ ap (from_le_bytes w64) (is ∙ ap (λ (m : ℕ). take m (drop at col)) eight) ∙ same) ∙ bit-bytes byte in_range 8 k l ∙ bit-part col at 8 k l;
}
  where
    byte : ℕ → ℕ
    byte i = get_or (take 8 (drop at col)) i 0

    in_range : (i : ℕ) → byte i < 256
    in_range i = go (dec_lt i 8)
      where
        go : Dec (i < 8) → byte i < 256
        go (yes l) = subst (λ (x : ℕ). x < 256) (sym (get_or-take 8 (drop at col) i 0 l ∙ get_or-drop at col i 0)) (small (at + i))
        go (no l) = subst (λ (x : ℕ). x < 256)
            (sym (get_or-eq_default (take 8 (drop at col)) 0 (omega (arith, length-take 8 (drop at col))))) (omega arith)

    same : from_le_bytes w64 (take 8 (drop at col)) ≡ low_first byte 8
    same = omega arith

-- ---- the bits of a word below one of them, as a search cuts them off

-- a one that is shifted by less than 64 places stays in its word
word-mask : (k : ℕ) → k < 64 → 1 * 2 ^ k % 18446744073709551616 ≡ 2 ^ k
word-mask k l = ap (λ (x : ℕ). x % 18446744073709551616) (one-mul (2 ^ k)) ∙ mod-eq_of_lt (pow-lt l)

-- what a search cuts the word with, and what is left of it
abbrev pub mask_below : ℕ → ℕ
mask_below k = 1 * 2 ^ k % 18446744073709551616

abbrev pub cut_below : ℕ → ℕ → ℕ
cut_below k word = word % mask_below k

pub mask-below-pos : (k : ℕ) → k < 64 → 0 < mask_below k
mask-below-pos k l = subst (λ (x : ℕ). 0 < x) (sym (word-mask k l)) (pow_pos k)

-- nothing is left of bit k and of those above
cut-below-low : (k word r : ℕ) → k < 64 → 2 ^ r ≤ cut_below k word → r < k
cut-below-low k word r few h = elim (dec_lt r k) [ yes l ↦ l | no l ↦ absurd (too_high (omega arith)) ]
  where
    too_high : k ≤ r → ⊥
    too_high l =
        let short : cut_below k word < 2 ^ k = subst (λ (x : ℕ). cut_below k word < x) (word-mask k few) (mod-lt word (mask-below-pos k few)) in
        let longer : 2 ^ k ≤ 2 ^ r = pow-le-pow_right {n = 2} (omega arith) {i = k} {j = r} l in
        omega arith

-- and those below are the word's
cut-below-bit : (k word j : ℕ) → k < 64 → j < k → bit word j ≡ bit (cut_below k word) j
cut-below-bit k word j few l = sym (bit-mod word k j l) ∙ ap (λ (m : ℕ). bit (word % m) j) (sym (word-mask k few))

-- ---- the search in a word alone, downwards from bit `left`

bit-on : (word k : ℕ) → word / 2 ^ k % 2 ≡ 1 → bit word k ≡ true
unfolding bit
bit-on word k e = ap (λ (q : ℕ). eqb q 1) e

bit-off : (word k : ℕ) → (word / 2 ^ k % 2 ≡ 1 → ⊥) → bit word k ≡ false
unfolding bit
bit-off word k n = ne_eqb (word / 2 ^ k % 2) 1 n

pub none_at_all : (word left : ℕ) → left ≡ 0 → None ≡ highest_below (bit word) left
unfolding highest_below
none_at_all word left e = sym (ap (highest_below (bit word)) e)

module _ (word left : ℕ) (few : left ≤ 64) (some : left ≡ 0 → ⊥) where
  low-last : left - 1 < 64
  low-last = omega arith

  up : suc (left - 1) ≡ left
  up = omega arith

  pub last-held : word / 2 ^ (left - 1) % 2 ≡ 1 → Some (left - 1) ≡ highest_below (bit word) left
  last-held e = sym (ap (highest_below (bit word)) (sym up) ∙ highest-held (bit word) (left - 1) (bit-on word (left - 1) e))

  module _ (off : word / 2 ^ (left - 1) % 2 ≡ 1 → ⊥) where
    -- the last bit is passed over
    passed : highest_below (bit word) left ≡ highest_below (bit word) (left - 1)
    passed = ap (highest_below (bit word)) (sym up) ∙ highest-not-held (bit word) (left - 1) (bit-off word (left - 1) off)

    pub none-held : cut_below (left - 1) word ≡ 0 → None ≡ highest_below (bit word) left
    none-held z =
        none_at_all word 0 refl
        ∙ sym (passed
        ∙ highest-skip (bit word) 0 (left - 1) (omega arith)
        (λ j p q. cut-below-bit (left - 1) word j low-last q ∙ ap (λ (x : ℕ). bit x j) z ∙ bit-zero j))

    -- what the logarithm says of what is left: it has no bit above r, and it has that one
    pub some-held : (r : ℕ) → 2 ^ r ≤ cut_below (left - 1) word → cut_below (left - 1) word < 2 * 2 ^ r
        → Some r ≡ highest_below (bit word) left
    some-held r le lt =
        let low : r < left - 1 = cut-below-low (left - 1) word r low-last le in
        sym (passed
        ∙ highest-skip (bit word) (suc r) (left - 1) low
        (λ j p q. cut-below-bit (left - 1) word j low-last q ∙ bit-over (cut_below (left - 1) word) j (shorter j p))
        ∙ highest-held (bit word) r (cut-below-bit (left - 1) word r low-last low ∙ bit-top (cut_below (left - 1) word) r le lt))
      where
        shorter : (j : ℕ) → r < j → cut_below (left - 1) word < 2 ^ j
        shorter j p =
            let longer : 2 ^ suc r ≤ 2 ^ j = pow-le-pow_right {n = 2} (omega arith) {i = suc r} {j = j} p in
            let twice : 2 ^ suc r ≡ 2 ^ r * 2 = pow-suc 2 r in
            omega arith
