-- What the edits leave in the arrays: nothing new where there are none, and else the lists that the complex has after them.
use Prim.Native.Nat.{ℕ, ◌≤◌}
use mathlib.Core.Path.{◌≡◌, sym, ap, ◌∙◌, subst}
use mathlib.Core.List.{List}
use lib.ListN.{length}
use Rattle.format.specs.Numbers.{small}
use Rattle.format.specs.Simplex.{SimplexSet, simplices}
use Rattle.format.specs.Simplex as format
use Rattle.format.specs.Reading.{accepted, read_edits}
use Rattle.format.specs.Sound.{SoundComplex}
use Rattle.format.proofs.Accepted.{edits-keep, edits-vertices, few-reordered, complex-reordered}
use Rattle.format.proofs.EditLaws.{edits-ended}
use Rattle.std.specs.Prelude.{Result}
use Rattle.std.proofs.Common.{Ok}
use Rattle.refusals.specs.Readings.{reading_of, same_read}
use Rattle.refusals.specs.declared.Refusal.{Refusal}
use Rattle.lists.specs.declared.Marks.{Marks}
use Rattle.complexes.specs.Meaning.{complex_of, Marked}
use Rattle.complexes.specs.declared.Complex.{Complex}
use Rattle.edits.specs.Meaning.{EditsTaken}
use Rattle.edits.specs.declared.EditsRead.{EditsRead}
use Rattle.lent_lists.specs.Held.{complex_in, Room, Held, HoldsNow, EditsHeld}
use Rattle.lent_lists.specs.declared.Counts.{Counts}
use Rattle.lent_lists.specs.declared.Edited.{Edited}

module _ {b : List ℕ} {at dim : ℕ} {marks : Marks} where
  -- what is handed back where nothing was refused: arrays that hold the complex after all edits, and marks of the same set
  held-so : {v : ℕ} {X : format.Complex} {c : Counts} {m : Marks} {e_keys t_keys s_keys t_sides s_sides : List ℕ}
      → read_edits 64 b at X ≡ accepted (complex_in v c e_keys t_keys s_keys) → Held v c e_keys t_keys s_keys t_sides s_sides
      → ((A : SimplexSet) → Marked marks.on (simplices X dim) A → Marked m.on (simplices (complex_in v c e_keys t_keys s_keys) dim) A)
      → EditsHeld b at dim v X marks e_keys t_keys s_keys t_sides s_sides (Ok (record { counts = c; marks = m }))
  held-so {v} {X} {c} {m} {e_keys} {t_keys} {s_keys} {t_sides} {s_sides} is held stay = record {
    reading = is;
    held = λ after f. subst (λ (x : Edited). Held v x.counts e_keys t_keys s_keys t_sides s_sides) (same_read f) held;
    stay = λ after f.
        subst
        (λ (x : Edited). (A : SimplexSet) → Marked marks.on (simplices X dim) A
        → Marked x.marks.on (simplices (complex_in v x.counts e_keys t_keys s_keys) dim) A) (same_read f) stay;
  }

  pub editing-none : {v : ℕ} {c : Counts} {e_keys t_keys s_keys t_sides s_sides : List ℕ} → length b ≤ at
      → Held v c e_keys t_keys s_keys t_sides s_sides
      → EditsHeld b at dim v (complex_in v c e_keys t_keys s_keys) marks e_keys t_keys s_keys t_sides s_sides
      (Ok (record { counts = c; marks = marks }))
  editing-none end held = held-so (edits-ended 64 b at _ end) held (λ A m. m)

  module _ {X : format.Complex} {Y : Complex} {r : Result EditsRead Refusal} (made : complex_of Y ≡ X) (taken : EditsTaken b at dim Y marks r) where
    read : read_edits 64 b at X ≡ reading_of (λ after. complex_of after.complex) r
    read = ap (read_edits 64 b at) (sym made) ∙ taken.reading

    -- nothing was refused
    module _ {after : EditsRead} (fine : r ≡ Ok after) where
      -- edits move simplices, so what had room before them has it after them
      pub editing-room : {e_keys t_keys s_keys t_sides s_sides : List ℕ} → Room X e_keys t_keys s_keys t_sides s_sides
          → Room (complex_of after.complex) e_keys t_keys s_keys t_sides s_sides
      editing-room {e_keys} {t_keys} {s_keys} {t_sides} {s_sides} room =
          edits-keep (λ (Z : format.Complex). Room Z e_keys t_keys s_keys t_sides s_sides)
          (λ P Q z room. record {
            edges = few-reordered (length e_keys) _ _ z.edges room.edges;
            triangles = few-reordered (length t_keys) _ _ z.triangles room.triangles;
            tetrahedra = few-reordered (length s_keys) _ _ z.tetrahedra room.tetrahedra;
            triangle_sides = few-reordered (length t_sides) _ _ z.triangles room.triangle_sides;
            tetrahedron_sides = few-reordered (length s_sides) _ _ z.tetrahedra room.tetrahedron_sides;
          })
          64 b at X (complex_of after.complex) (read ∙ ap (reading_of (λ after. complex_of after.complex)) fine) room

      -- and the complex after the edits was put in again
      module _ {v : ℕ} (vertices : X.v ≡ v) (sound : SoundComplex small X)
          {c : Counts} {e_keys t_keys s_keys t_sides s_sides : List ℕ}
          (holds : HoldsNow (complex_of after.complex) c e_keys t_keys s_keys t_sides s_sides) where
        edited : read_edits 64 b at X ≡ accepted (complex_of after.complex)
        edited = read ∙ ap (reading_of (λ after. complex_of after.complex)) fine

        sound-after : SoundComplex small (complex_of after.complex)
        sound-after =
            edits-keep (SoundComplex small) (λ P Q reordered. complex-reordered small P Q reordered) 64 b at X (complex_of after.complex) edited sound

        of-v : after.complex.v ≡ v
        of-v = sym (edits-vertices 64 b at X (complex_of after.complex) edited) ∙ vertices

        same : complex_in v c e_keys t_keys s_keys ≡ complex_of after.complex
        same = ap (λ (w : ℕ). complex_in w c e_keys t_keys s_keys) (sym of-v) ∙ holds.same sound-after

        pub editing-done : EditsHeld b at dim v X marks e_keys t_keys s_keys t_sides s_sides (Ok (record { counts = c; marks = after.marks }))
        editing-done =
            held-so (edited ∙ ap accepted (sym same))
            (subst (λ (w : ℕ). Held w c e_keys t_keys s_keys t_sides s_sides) of-v (holds.held sound-after))
            (λ A m.
            subst (λ (Q : format.Complex). Marked after.marks.on (simplices Q dim) A) (sym same)
            (taken.stay after fine A (subst (λ (P : format.Complex). Marked marks.on (simplices P dim) A) (sym made) m)))
