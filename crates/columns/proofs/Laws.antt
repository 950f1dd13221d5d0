-- Facts that the proofs of the loops use. Each loop has a record of what holds at its head, with three laws: it holds
-- at the start, a turn keeps it, and at the end it says what the contract asks.
use Prim.Native.Nat.{ℕ, zero, suc, ◌+◌, ◌-◌, ◌*◌, ◌/◌, ◌%◌, ◌^◌, ◌<◌}
use mathlib.Core.Path.{◌≡◌, sym, ap, ◌∙◌, subst}
use mathlib.Core.Bool.{true, false}
use mathlib.Core.List.{List, [], ◌∷◌}
use native.Mathlib.Nat.{one-mul, mod-eq_of_lt}
use native.Mathlib.Numerals.{add-one}
use native.Mathlib.Omega.{arith}
use lib.Dec.{eqb}
use lib.ListN.{length, get_or, set, take}
use lib.Pow.{pow-lt}
use lib.Bits.{bit_xor}
use Rattle.std.specs.Prelude.{Some}
use Rattle.columns.specs.Column.{bit, bit_at, chain_of, xor_bytes}
use Rattle.columns.specs.SlotLaws.{xor-nil, slot-fits}
use Rattle.columns.specs.Search.{highest_below, highest-held, highest-not-held}

-- a one that is shifted by less than eight places stays in its byte
pub mask : (k : ℕ) → k < 8 → 1 * 2 ^ k % 256 ≡ 2 ^ k
mask k l = ap (λ (x : ℕ). x % 256) (one-mul (2 ^ k)) ∙ mod-eq_of_lt (pow-lt l)

-- a byte's bit, once the byte is read, is the column's
pub read-bit : (col : List ℕ) (k byte : ℕ) → byte ≡ get_or col (k / 8) 0 → eqb (byte / 2 ^ (k % 8) % 2) 1 ≡ bit_at col k
unfolding bit_at bit
read-bit col k byte e = ap (λ (b : ℕ). eqb (b / 2 ^ (k % 8) % 2) 1) e

-- ---- the loop that adds a column: at byte i, the first i bytes of s have been added to d

xor-turn : (d s : List ℕ) (i : ℕ) → i < length d → i < length s
    → set (xor_bytes d (take i s)) i (bit_xor (get_or (xor_bytes d (take i s)) i 0) (get_or s i 0)) ≡ xor_bytes d (take (suc i) s)
xor-turn [] s i hd hs = absurd (omega arith)
xor-turn (x ∷ d) [] i hd hs = absurd (omega arith)
xor-turn (x ∷ d) (y ∷ s) zero hd hs = ap (λ (t : List ℕ). bit_xor x y ∷ t) (sym (xor-nil d))
xor-turn (x ∷ d) (y ∷ s) (suc i) hd hs = ap (λ (t : List ℕ). bit_xor x y ∷ t) (xor-turn d s i (omega arith) (omega arith))

pub added_more : (d s : List ℕ) {x : List ℕ} {i : ℕ} → x ≡ xor_bytes d (take i s) → i < length d → i < length s
    → set x i (bit_xor (get_or x i 0) (get_or s i 0)) ≡ xor_bytes d (take (i + 1) s)
added_more d s {x} {i} sum hd hs =
    ap (λ (t : List ℕ). set t i (bit_xor (get_or t i 0) (get_or s i 0))) sum
    ∙ xor-turn d s i hd hs
    ∙ ap (λ (k : ℕ). xor_bytes d (take k s)) (sym (add-one i))

-- ---- the search downwards: one rank below i

pub found-bit : (col : List ℕ) (i : ℕ) → 0 < i → bit_at col (i - 1) ≡ true → highest_below (chain_of col) i ≡ Some (i - 1)
found-bit col i l e =
    let up : suc (i - 1) ≡ i = omega arith in
    subst (λ (k : ℕ). highest_below (chain_of col) k ≡ Some (i - 1)) up (highest-held (chain_of col) (i - 1) e)

pub skip-bit : (col : List ℕ) (i : ℕ) → 0 < i → bit_at col (i - 1) ≡ false
    → highest_below (chain_of col) i ≡ highest_below (chain_of col) (i - 1)
skip-bit col i l e =
    let up : suc (i - 1) ≡ i = omega arith in
    subst (λ (k : ℕ). highest_below (chain_of col) k ≡ highest_below (chain_of col) (i - 1)) up
    (highest-not-held (chain_of col) (i - 1) e)

-- for the functions that take a slot as a part of the memory
pub ruleset slot_bounds = (slot-fits)
