-- Laws of a pair of columns, R and V, in one list of bytes: which bit of the whole is which rank of a half, what a
-- flipped bit does to the halves, and that zeros hold nothing. They are what building a column in hand needs.
use Rattle.std.specs.Prelude.{ℕ, zero, suc, ◌+◌, ◌*◌, ◌/◌, ◌%◌, ◌≤◌, ◌<◌, ◌≡◌, refl, Bool, false, List, ◌∷◌, ◌++◌, eqb, length, get_or, take, drop, replicate}
use Rattle.std.proofs.Common.{sym, ap, ap₂, ◌∙◌, append-nil, zero-add, arith, length-take, drop_of_length-le, get_or-take, get_or-drop, eq-eqb, ne_eqb}
use Rattle.std.proofs.Math.Path.{fun_ext}
use Rattle.std.proofs.Math.Decide.{dec_lt, ℕ_discrete}
use Rattle.chains.specs.Chain.{Chain, differ, ◌⊕◌, empty, unit}
use Rattle.chains.specs.Sum.{differ-false}
use Rattle.columns.specs.Column.{bit, bit_at, chain_of, flipped, cleared_front}
use Rattle.columns.specs.ColumnLaws.{chain_of-zeros, chain_of-under, chain_of-flipped}
use Rattle.columns.specs.Slot.{half_r, half_v, chain_r, chain_v}
use Rattle.columns.specs.SlotLaws.{bit-half_r}

-- ---- which bit is which

pub bit-half_v : (h : ℕ) (c : List ℕ) (i : ℕ) → i < 8 * h → bit_at (half_v h c) i ≡ bit_at c (8 * h + i)
unfolding bit_at half_v
bit-half_v h c i l =
    let q : (8 * h + i) / 8 ≡ h + i / 8 = omega arith in
    let m : (8 * h + i) % 8 ≡ i % 8 = omega arith in
    ap (λ (x : ℕ). bit x (i % 8)) (get_or-take h (drop h c) (i / 8) 0 (omega arith) ∙ get_or-drop h c (i / 8) 0)
    ∙ ap₂ (λ (k b : ℕ). bit (get_or c k 0) b) (sym q) (sym m)

-- a half holds ranks below 8·h only
pub half_r-past : (h : ℕ) (c : List ℕ) (i : ℕ) → 8 * h ≤ i → bit_at (half_r h c) i ≡ false
unfolding half_r
half_r-past h c i l = chain_of-under (take h c) i (rw (length-take h c) (omega arith))

pub half_v-past : (h : ℕ) (c : List ℕ) (i : ℕ) → 8 * h ≤ i → bit_at (half_v h c) i ≡ false
unfolding half_v
half_v-past h c i l = chain_of-under (take h (drop h c)) i (rw (length-take h (drop h c)) (omega arith))

-- ---- a flipped bit

-- for either half: its ranks are the bits of the whole from place o on
module _ (h o : ℕ) (half : List ℕ → List ℕ) (c : List ℕ) (fits : o + 8 * h ≤ 8 * length c)
    (inside : (l : List ℕ) (j : ℕ) → j < 8 * h → bit_at (half l) j ≡ bit_at l (o + j))
    (past : (l : List ℕ) (j : ℕ) → 8 * h ≤ j → bit_at (half l) j ≡ false) where
  other : (i j : ℕ) (b : Bool) → (i ≡ j → ⊥) → differ b (eqb i j) ≡ b
  other i j b n = ap (differ b) (ne_eqb i j n) ∙ differ-false b

  bit-flipped : (i : ℕ) → i < 8 * length c → (j : ℕ) → j < 8 * h
      → bit_at (half (flipped c i)) j ≡ differ (bit_at (half c) j) (eqb i (o + j))
  bit-flipped i l j m =
      inside (flipped c i) j m
      ∙ ap (λ (f : Chain). f (o + j)) (chain_of-flipped c i l)
      ∙ ap (λ (b : Bool). differ b (eqb i (o + j))) (sym (inside c j m))

  same_place : (k j : ℕ) → eqb (o + k) (o + j) ≡ eqb k j
  same_place k j = elim (ℕ_discrete k j) [
    | yes e ↦ eq-eqb (o + k) (o + j) (ap (λ (n : ℕ). o + n) e) ∙ sym (eq-eqb k j e)
    | no n ↦ ne_eqb (o + k) (o + j) (λ e. n (omega arith)) ∙ sym (ne_eqb k j n)
  ]

  -- a bit of the half is turned over
  flips : (k : ℕ) → k < 8 * h → chain_of (half (flipped c (o + k))) ≡ chain_of (half c) ⊕ unit k
  flips k low = fun_ext (λ j. elim (dec_lt j (8 * h)) [
    | yes l ↦ bit-flipped (o + k) (omega arith) j l ∙ ap (differ (bit_at (half c) j)) (same_place k j)
    | no m ↦ past (flipped c (o + k)) j (omega arith) ∙ sym (other k j (bit_at (half c) j) (λ e. omega arith) ∙ past c j (omega arith))
  ])

  -- a bit of the other half is
  keeps : (i : ℕ) → i < 8 * length c → ((j : ℕ) → j < 8 * h → i ≡ o + j → ⊥) → chain_of (half (flipped c i)) ≡ chain_of (half c)
  keeps i l out = fun_ext (λ j. elim (dec_lt j (8 * h)) [
    | yes m ↦ bit-flipped i l j m ∙ other i (o + j) (bit_at (half c) j) (out j m)
    | no m ↦ past (flipped c i) j (omega arith) ∙ sym (past c j (omega arith))
  ])

module _ (h : ℕ) (c : List ℕ) (whole : length c ≡ 2 * h) (k : ℕ) (low : k < 8 * h) where
  from_start : (l : List ℕ) (j : ℕ) → j < 8 * h → bit_at (half_r h l) j ≡ bit_at l (0 + j)
  from_start l j m = bit-half_r h l j m ∙ ap (bit_at l) (sym (zero-add j))

  -- in the first half it is a rank of R
  pub flipped-r : chain_r h (flipped c k) ≡ chain_r h c ⊕ unit k
  flipped-r =
      ap (λ (i : ℕ). chain_r h (flipped c i)) (sym (zero-add k))
      ∙ flips h 0 (half_r h) c (omega arith) from_start (half_r-past h) k low

  pub flipped-r-keeps : chain_v h (flipped c k) ≡ chain_v h c
  flipped-r-keeps = keeps h (8 * h) (half_v h) c (omega arith) (bit-half_v h) (half_v-past h) k (omega arith) (λ j m e. omega arith)

  -- in the second half it is a rank of V
  pub flipped-v : chain_v h (flipped c (8 * h + k)) ≡ chain_v h c ⊕ unit k
  flipped-v = flips h (8 * h) (half_v h) c (omega arith) (bit-half_v h) (half_v-past h) k low

  pub flipped-v-keeps : chain_r h (flipped c (8 * h + k)) ≡ chain_r h c
  flipped-v-keeps = keeps h 0 (half_r h) c (omega arith) from_start (half_r-past h) (8 * h + k) (omega arith) (λ j m e. omega arith)

-- ---- zeros

-- a part of zeros is zeros
take-zeros : (k n : ℕ) → (m : ℕ) × (take k (replicate n 0) ≡ replicate {A = ℕ} m 0)
take-zeros zero n = (0, refl)
take-zeros (suc k) zero = (0, refl)
take-zeros (suc k) (suc n) = (suc (take-zeros k n).0, ap (λ (t : List ℕ). 0 ∷ t) (take-zeros k n).1)

drop-zeros : (k n : ℕ) → (m : ℕ) × (drop k (replicate n 0) ≡ replicate {A = ℕ} m 0)
drop-zeros zero n = (n, refl)
drop-zeros (suc k) zero = (0, refl)
drop-zeros (suc k) (suc n) = drop-zeros k n

pub half_r-zeros : (h n : ℕ) → chain_r h (replicate n 0) ≡ empty
unfolding half_r
half_r-zeros h n = ap chain_of (take-zeros h n).1 ∙ chain_of-zeros (take-zeros h n).0

pub half_v-zeros : (h n : ℕ) → chain_v h (replicate n 0) ≡ empty
unfolding half_v
half_v-zeros h n =
    let d = drop-zeros h n in
    ap (λ (l : List ℕ). chain_of (take h l)) d.1 ∙ ap chain_of (take-zeros h d.0).1 ∙ chain_of-zeros (take-zeros h d.0).0

-- where all bytes are in front, all are zero
pub front-all : (n : ℕ) (l : List ℕ) → length l ≡ n → cleared_front n l ≡ replicate (length l) 0
front-all n l e =
    ap (λ (t : List ℕ). replicate n 0 ++ t) (drop_of_length-le l {i = n} (omega arith))
    ∙ append-nil (replicate n 0)
    ∙ ap (λ (k : ℕ). replicate k 0) (sym e)
