-- What a view of a list is, and what moving a list's simplices comes to: in the complex that has it, and for the marks.
use Prim.Native.Nat.{ℕ, pred, ◌-◌, ◌≤◌, ◌<◌, min}
use mathlib.Core.Path.{◌≡◌, sym, ◌∙◌, ap, subst}
use mathlib.Core.List.{List, map}
use native.Mathlib.Omega.{arith}
use native.Mathlib.Numerals.{sub-one}
use lib.ListN.{length, get_or, take}
use Rattle.format.specs.Simplex.{same, simplices, SimplexSet}
use Rattle.format.specs.Simplex as format
use Rattle.format.specs.Reading.{moved, list_of_kind, with_list}
use Rattle.format.specs.Moves.{map-moved, length_moved}
use Rattle.format.specs.EditLaws.{MovedWithin}
use Rattle.format.proofs.EditLaws.{replaced-list, kept-list, with-edges, with-triangles, with-tetrahedra}
use Rattle.lists.specs.Meaning.{none, vertices_of, simplices_of}
use Rattle.lists.specs.Items.{length-simplices, simplex-at}
use Rattle.lists.specs.Moved.{MovedList, MovedMarks}
use Rattle.lists.specs.declared.SimplexList.{SimplexList}
use Rattle.lists.specs.declared.Marks.{Marks}
use Rattle.complexes.specs.Meaning.{complex_of, list_of, Marked}
use Rattle.complexes.specs.declared.Complex.{Complex}
use Rattle.edits.specs.Meaning.{Views, MarksStay}

-- A VIEW of a list, at the seen position, or at the last place of the array where the seen one lies behind that.
pub viewed : (l : SimplexList) (seen rank : ℕ) → length l.items ≡ 512 → rank ≡ min seen 511 → Views (simplices_of l) seen (record { count = l.count; there = get_or l.items rank none })
viewed l seen rank full e =
    record {
      counts = rw (← full) (sym (length-simplices l));
      stands = λ h.
          let here : seen ≡ rank = omega (arith, length-simplices l) in
          simplex-at l seen (omega (arith, length-simplices l)) ∙ ap (λ i. vertices_of (get_or l.items i none)) here;
    }

-- THE COMPLEX after the list of a kind was moved.
pub record Replaced (kind seen new : ℕ) (X Y : Complex) : Type 0 where
  pub is : complex_of Y ≡ with_list kind (moved seen new (list_of_kind kind (complex_of X))) (complex_of X)

-- the code's list of a kind, moved, is the definition's one, moved
gone : (seen new : ℕ) (l : List format.Simplex) (before after : SimplexList) → l ≡ simplices_of before → new < length l → MovedList before after seen new → simplices_of after ≡ moved seen new l
gone seen new l before after here within m = let below : new < length (simplices_of before) = rw (← here) within in m.simplices below ∙ ap (moved seen new) (sym here)

module _ {kind seen new : ℕ} (X : Complex) (after : SimplexList) (within : new < length (list_of_kind kind (complex_of X))) where
  pub edges-moved : kind ≡ 2 → MovedList X.edges after seen new → Replaced kind seen new X (record { v = X.v; edges = after; triangles = X.triangles; tetrahedra = X.tetrahedra })
  unfolding simplices
  edges-moved k m =
      let here : list_of_kind kind (complex_of X) ≡ simplices_of X.edges = ap (λ n. list_of_kind n (complex_of X)) k in
      record { is = with-edges kind (simplices_of after) (complex_of X) k ∙ rw (gone seen new (list_of_kind kind (complex_of X)) X.edges after here within m) }

  pub triangles-moved : kind ≡ 3 → MovedList X.triangles after seen new → Replaced kind seen new X (record { v = X.v; edges = X.edges; triangles = after; tetrahedra = X.tetrahedra })
  unfolding simplices
  triangles-moved k m =
      let here : list_of_kind kind (complex_of X) ≡ simplices_of X.triangles = ap (λ n. list_of_kind n (complex_of X)) k in
      record { is = with-triangles kind (simplices_of after) (complex_of X) k ∙ rw (gone seen new (list_of_kind kind (complex_of X)) X.triangles after here within m) }

  pub tetrahedra-moved : kind ≡ 4 → MovedList X.tetrahedra after seen new → Replaced kind seen new X (record { v = X.v; edges = X.edges; triangles = X.triangles; tetrahedra = after })
  unfolding simplices
  tetrahedra-moved k m =
      let here : list_of_kind kind (complex_of X) ≡ simplices_of X.tetrahedra = ap (λ n. list_of_kind n (complex_of X)) k in
      record { is = with-tetrahedra kind (simplices_of after) (complex_of X) k ∙ rw (gone seen new (list_of_kind kind (complex_of X)) X.tetrahedra after here within m) }

-- MARKS of a list's simplices, moved along with them, hold the same set.
marked-moved : (before after : Marks) (seen new : ℕ) (l m : List format.Simplex) → length before.on ≡ 512 → MovedWithin seen new l m → MovedMarks before after seen new
    → (A : SimplexSet) → Marked before.on l A → Marked after.on m A
marked-moved before after seen new l m full w goes A marked =
    let room = marked.room in
    let long : length m ≡ length l = ap length w.is ∙ length_moved seen new l in
    let after-long : length after.on ≡ length before.on = ap length (goes.whole (omega (arith, w.new_below))) ∙ length_moved seen new before.on in
    record {
      room = omega arith;
      marks =
          ap (λ n. take n after.on) long ∙
          goes.front (length l) (omega arith) w.seen_below w.new_below ∙
          ap (moved seen new) marked.marks ∙
          sym (map-moved A seen new l) ∙
          ap (map A) (sym w.is);
    }

module _ {kind seen new dim : ℕ} {X Y : Complex} (replaced : Replaced kind seen new X Y) {marks : Marks} where
  -- the list that was moved is the one whose simplices are marked
  pub marks-go-along : 2 ≤ kind → kind ≤ 4 → MovedWithin seen new (list_of_kind kind (complex_of X)) (moved seen new (list_of_kind kind (complex_of X))) → kind - 1 ≡ dim → length marks.on ≡ 512 → {after : Marks} → MovedMarks marks after seen new → MarksStay dim X marks Y after
  marks-go-along least most within place full {after = after} goes A marked =
      let e : pred kind ≡ dim = sym (sub-one kind) ∙ place in
      let there : list_of Y dim ≡ moved seen new (list_of_kind kind (complex_of X)) = rw (replaced.is, ← e) (replaced-list kind (moved seen new (list_of_kind kind (complex_of X))) (complex_of X) least most) in
      subst (λ l. Marked after.on l A) (sym there)
      (marked-moved marks after seen new (list_of_kind kind (complex_of X)) (moved seen new (list_of_kind kind (complex_of X))) full within goes A (subst (λ d. Marked marks.on (list_of X d) A) (sym e) marked))

  -- another list was moved
  pub marks-stand : (kind - 1 ≡ dim → ⊥) → MarksStay dim X marks Y marks
  marks-stand n A =
      let kept : list_of Y dim ≡ list_of X dim = rw replaced.is (kept-list kind dim (moved seen new (list_of_kind kind (complex_of X))) (complex_of X) (λ e. n (sub-one kind ∙ e))) in
      subst (λ l. Marked marks.on l A) (sym kept)
