-- Laws of slots. Slots do not overlap, since slot r ends where slot r + 1 begins: so a store changes its own slot alone.
-- Sums are taken byte by byte, so the halves of a sum are the sums of the halves.
use Rattle.std.specs.Prelude.{ℕ, zero, suc, ◌+◌, ◌-◌, ◌*◌, ◌/◌, ◌%◌, ◌≤◌, ◌<◌, ◌≡◌, refl, ◌≢◌, List, [], ◌∷◌, ◌++◌, take, drop}
use Rattle.std.proofs.Math.Path.{sym, ap}
use Rattle.std.proofs.Common.{◌∙◌, append_assoc, mul-le-mul_right, suc-mul, suc-add, zero-add, le_trans, le_of_eq, le-add_right, arith, length-drop, get_or-take, take-take, drop-drop, take_at}
use Rattle.std.proofs.Math.Decide.{dec_lt}
use Rattle.std.proofs.Math.ListN.{length}
use Rattle.std.proofs.Math.Seq.{length-take-le, take-nil, take_all, drop_at}
use Rattle.std.proofs.lemmas.List.Edits.{take-paste, drop-paste}
use Rattle.std.specs.Int.Bits.{bit_xor}
use Rattle.chains.specs.Chain.{◌⊕◌}
use Rattle.columns.specs.Column.{bit, bit_at, chain_of, xor_bytes}
use Rattle.columns.specs.ColumnLaws.{chain_of-xor}
use Rattle.columns.specs.Slot.{room_of, half_r, half_v, chain_r, chain_v, slot, store_slot}

-- ---- where slots lie

-- a slot is within the work memory
pub slot-fits : (h r n : ℕ) → r < 8 * h → room_of h ≤ n → r * (2 * h) + 2 * h ≤ n
unfolding room_of
slot-fits h r n l room = le_trans (le_of_eq (next r)) (le_trans (mul-le-mul_right (2 * h) l) room)
  where
    next : (r : ℕ) → r * (2 * h) + 2 * h ≡ suc r * (2 * h)
    next r = sym (suc-mul r (2 * h))

-- a lower slot ends before a higher one begins
slot-before : (h r q : ℕ) → r < q → r * (2 * h) + 2 * h ≤ q * (2 * h)
slot-before h r q l = le_trans (le_of_eq (sym (suc-mul r (2 * h)))) (mul-le-mul_right (2 * h) l)

-- a part of a front is a front of a part
drop-take : (k m : ℕ) (l : List ℕ) → drop k (take (k + m) l) ≡ take m (drop k l)
drop-take zero m l = ap (λ (n : ℕ). take n l) (zero-add m)
drop-take (suc k) m [] = ap (drop (suc k)) (take-nil (suc k + m)) ∙ sym (take-nil m)
drop-take (suc k) m (x ∷ l) = ap (λ (n : ℕ). drop (suc k) (take n (x ∷ l))) (suc-add k m) ∙ drop-take k m l

-- lists with the same front have the same parts there
same-part : (at k m : ℕ) (a b : List ℕ) → k + m ≤ at → take at a ≡ take at b → take m (drop k a) ≡ take m (drop k b)
same-part at k m a b l e =
    sym (drop-take k m a) ∙ ap (drop k) (sym (take-take (k + m) at a l)) ∙ ap (λ (t : List ℕ). drop k (take (k + m) t)) e
    ∙ ap (drop k) (take-take (k + m) at b l) ∙ drop-take k m b

-- lists with the same rest have the same parts there
same_rest : (to k m : ℕ) (a b : List ℕ) → to ≤ k → drop to a ≡ drop to b → take m (drop k a) ≡ take m (drop k b)
same_rest to k m a b l e =
    let far : to + (k - to) ≡ k = omega arith in
    ap (λ (n : ℕ). take m (drop n a)) (sym far)
    ∙ ap (take m) (sym (drop-drop (k - to) to a))
    ∙ ap (λ (t : List ℕ). take m (drop (k - to) t)) e
    ∙ ap (take m) (drop-drop (k - to) to b) ∙ ap (λ (n : ℕ). take m (drop n b)) far

-- ---- lengths

pub length-half_r : (h : ℕ) (c : List ℕ) → 2 * h ≤ length c → length (half_r h c) ≡ h
unfolding half_r
length-half_r h c l = length-take-le h c (omega arith)

pub length-half_v : (h : ℕ) (c : List ℕ) → 2 * h ≤ length c → length (half_v h c) ≡ h
unfolding half_v
length-half_v h c l = length-take-le h (drop h c) (rw (length-drop h c) (omega arith))

module _ (h : ℕ) (work : List ℕ) (r : ℕ) (low : r < 8 * h) (room : room_of h ≤ length work) where
  fits : r * (2 * h) + 2 * h ≤ length work
  fits = slot-fits h r (length work) low room

  -- a slot is whole
  pub length-slot : length (slot h work r) ≡ 2 * h
  unfolding slot
  length-slot = length-take-le (2 * h) (drop (r * (2 * h)) work) (rw (length-drop (r * (2 * h)) work) (let f = fits in omega arith))

  -- ---- a store

  module _ (cur : List ℕ) (whole : length cur ≡ 2 * h) where
    at : r * (2 * h) ≤ length work
    at = le_trans (le-add_right _ _) fits

    -- the slot holds what was stored
    pub slot-stored : slot h (store_slot h work r cur) r ≡ cur
    unfolding slot store_slot
    slot-stored =
        sym (drop-take (r * (2 * h)) (2 * h) _)
        ∙ ap (drop (r * (2 * h))) (take-paste work (r * (2 * h)) cur (2 * h) at (le_of_eq (sym whole)))
        ∙ drop_at (take (r * (2 * h)) work) (take (2 * h) cur) (r * (2 * h)) (length-take-le (r * (2 * h)) work at)
        ∙ take_all (2 * h) cur (le_of_eq whole)

    -- every other slot is as it was
    pub slot_kept : (q : ℕ) → q ≢ r → slot h (store_slot h work r cur) q ≡ slot h work q
    unfolding slot store_slot
    slot_kept q n = elim (dec_lt q r) [
      | yes l ↦ same-part (r * (2 * h)) (q * (2 * h)) (2 * h) _ work (slot-before h q r l) front
      | no m ↦ same_rest (r * (2 * h) + 2 * h) (q * (2 * h)) (2 * h) _ work (slot-before h r q (omega arith))
          (drop-paste work (r * (2 * h)) cur (2 * h) at (le_of_eq (sym whole)))
    ]
      where
        start : length (take (r * (2 * h)) work) ≡ r * (2 * h)
        start = length-take-le (r * (2 * h)) work at

        front : take (r * (2 * h)) (take (r * (2 * h)) work ++ take (2 * h) cur ++ drop (r * (2 * h) + 2 * h) work)
            ≡ take (r * (2 * h)) work
        front =
            ap (take (r * (2 * h))) (append_assoc (take (r * (2 * h)) work) (take (2 * h) cur) _)
            ∙ take_at (take (r * (2 * h)) work) _ (r * (2 * h)) start

-- ---- sums

pub xor-nil : (a : List ℕ) → xor_bytes a [] ≡ a
xor-nil [] = refl
xor-nil (x ∷ a) = refl

take-xor : (n : ℕ) (a b : List ℕ) → take n (xor_bytes a b) ≡ xor_bytes (take n a) (take n b)
take-xor zero a b = refl
take-xor (suc n) [] b = refl
take-xor (suc n) (x ∷ a) [] = refl
take-xor (suc n) (x ∷ a) (y ∷ b) = ap (λ (t : List ℕ). bit_xor x y ∷ t) (take-xor n a b)

drop-xor : (n : ℕ) (a b : List ℕ) → drop n (xor_bytes a b) ≡ xor_bytes (drop n a) (drop n b)
drop-xor zero a b = refl
drop-xor (suc n) [] b = refl
drop-xor (suc n) (x ∷ a) [] = sym (xor-nil (drop n a))
drop-xor (suc n) (x ∷ a) (y ∷ b) = drop-xor n a b

pub half_r-xor : (h : ℕ) (a b : List ℕ) → half_r h (xor_bytes a b) ≡ xor_bytes (half_r h a) (half_r h b)
unfolding half_r
half_r-xor h a b = take-xor h a b

pub half_v-xor : (h : ℕ) (a b : List ℕ) → half_v h (xor_bytes a b) ≡ xor_bytes (half_v h a) (half_v h b)
unfolding half_v
half_v-xor h a b = ap (take h) (drop-xor h a b) ∙ take-xor h (drop h a) (drop h b)

-- the halves of a sum hold the sums of the halves' chains
pub chain_r-xor : (h : ℕ) (a b : List ℕ) → length a ≡ 2 * h → length b ≡ 2 * h
    → chain_r h (xor_bytes a b) ≡ chain_r h a ⊕ chain_r h b
chain_r-xor h a b la lb =
    ap chain_of (half_r-xor h a b)
    ∙ chain_of-xor (half_r h a) (half_r h b)
    (le_of_eq (length-half_r h b (le_of_eq (sym lb)) ∙ sym (length-half_r h a (le_of_eq (sym la)))))

pub chain_v-xor : (h : ℕ) (a b : List ℕ) → length a ≡ 2 * h → length b ≡ 2 * h
    → chain_v h (xor_bytes a b) ≡ chain_v h a ⊕ chain_v h b
chain_v-xor h a b la lb =
    ap chain_of (half_v-xor h a b)
    ∙ chain_of-xor (half_v h a) (half_v h b)
    (le_of_eq (length-half_v h b (le_of_eq (sym lb)) ∙ sym (length-half_v h a (le_of_eq (sym la)))))

-- ---- bits of R

-- a rank of R is a bit of the whole
pub bit-half_r : (h : ℕ) (c : List ℕ) (i : ℕ) → i < 8 * h → bit_at (half_r h c) i ≡ bit_at c i
unfolding bit_at half_r
bit-half_r h c i l = ap (λ (x : ℕ). bit x (i % 8)) (get_or-take h c (i / 8) 0 (omega arith))
