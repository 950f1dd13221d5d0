-- Records and the whole job: a header in front of its payload, and record behind record.
use Prim.Native.Nat.{ℕ, ◌+◌, ◌-◌, ◌≤◌}
use mathlib.Core.Path.{◌≡◌, refl, sym, ◌∙◌, ap, ap₂}
use mathlib.Core.List.{List, ◌++◌, append_assoc}
use native.Mathlib.Omega.{arith}
use native.Mathlib.Nat.{add-sub_cancel_left}
use lib.ListN.{length, take, drop, length-append, length-take}
use lib.Seq.{take-append-le, take-take, drop_at}
use Rattle.format.specs.Answer.{record_of}
use Rattle.writer.specs.Splice.{splice}
use Rattle.writer.specs.Meaning.{header_of_size, Put}

-- what is put in front of bytes that were put behind its place
pub splice-before : (l : List ℕ) (at start : ℕ) (front back : List ℕ) → start ≡ at + length front → start + length back ≤ length l → splice (splice l start back) at front ≡ splice l at (front ++ back)
splice-before l at start front back e h =
    let before : length (take start l) ≡ start = omega (arith, length-take start l) in
    let total : start + length back ≡ at + length (front ++ back) = omega (arith, length-append front back) in
    let head : take at (splice l start back) ≡ take at l =
    ap (take at) (append_assoc (take start l) back (drop (start + length back) l)) ∙
    take-append-le at (take start l) (back ++ drop (start + length back) l) (omega arith) ∙ take-take at start l (omega arith) in
    let tail : drop (at + length front) (splice l start back) ≡ back ++ drop (start + length back) l =
    ap (λ n. drop n (splice l start back)) (sym e) ∙ ap (drop start) (append_assoc (take start l) back (drop (start + length back) l)) ∙
    drop_at (take start l) (back ++ drop (start + length back) l) start before in
    ap₂ (λ a b. a ++ front ++ b) head tail ∙ sym (append_assoc (take at l ++ front) back (drop (start + length back) l)) ∙
    ap₂ (λ a n. a ++ drop n l) (append_assoc (take at l) front back) total

-- A RECORD: its payload first, then the header that says how long it is.
pub record-put : (l : List ℕ) (at kind : ℕ) (payload x y : List ℕ) (next : ℕ) → at + length (record_of kind payload) ≤ length l → Put l (at + 6) payload x next → y ≡ splice x at (header_of_size kind (next - (at + 6))) → Put l at (record_of kind payload) y next
record-put l at kind payload x y next room put is =
    let size : next - (at + 6) ≡ length payload = ap (λ n. n - (at + 6)) put.next ∙ add-sub_cancel_left (at + 6) (length payload) in
    record {
      lent = is ∙ ap₂ (λ w n. splice w at (header_of_size kind n)) put.lent size ∙ splice-before l at (at + 6) (header_of_size kind (length payload)) payload refl (omega arith);
      next = omega (arith, put.next);
    }
