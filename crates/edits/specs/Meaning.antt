-- The outcome of edits in the words of crate `format`; and that marks stay those of the same set, for "Edits move ranks,
-- not chains".
use Rattle.std.specs.Prelude.{ℕ, pred, ◌≤◌, ◌<◌, min, ◌≡◌, List, [], length, get_or, Result}
use Rattle.std.proofs.Common.{Ok}
use Rattle.format.specs.Simplex.{Simplex, SimplexSet}
use Rattle.format.specs.Simplex as format
use Rattle.format.specs.Reading.{Reading, accepted, ◌and_then◌, moved, list_kind_of, seen_of, new_of, simplex_of, list_of_kind, with_list, read_edits}
use Rattle.format.specs.EditLaws.{edited_list}
use Rattle.lists.specs.Meaning.{vertices_of}
use Rattle.refusals.specs.Readings.{reading_of}
use Rattle.refusals.specs.declared.Refusal.{Refusal}
use Rattle.lists.specs.declared.Marks.{Marks}
use Rattle.complexes.specs.Meaning.{complex_of, list_of, Marked}
use Rattle.complexes.specs.declared.Complex.{Complex}
use Rattle.edits.specs.declared.Edit.{Edit}
use Rattle.edits.specs.declared.EditRead.{EditRead}
use Rattle.edits.specs.declared.View.{View}
use Rattle.edits.specs.declared.EditsRead.{EditsRead}

-- the edit that a payload names
pub record Named (p : List ℕ) (edit : Edit) : Type 0 where
  pub is_kind : edit.kind ≡ list_kind_of p
  pub is_seen : edit.seen ≡ seen_of p
  pub is_new : edit.new ≡ new_of p
  pub is_simplex : vertices_of edit.simplex ≡ simplex_of p

-- what an edit comes to in a list of simplices, and in a complex, of which it concerns one list
abbrev pub in_list : (at : ℕ) → Edit → List Simplex → Reading (List Simplex)
in_list at edit l = edited_list at edit.seen edit.new (vertices_of edit.simplex) l

abbrev pub in_complex : (at : ℕ) → Edit → format.Complex → Reading format.Complex
in_complex at edit X = in_list at edit (list_of_kind edit.kind X) and_then λ l. accepted (with_list edit.kind l X)

-- One edit record, whatever the complex: what is left to read is this edit, if it is not refused, and then what stands
-- from the next record on, where one record fewer may stand.
pub record EditTaken (b : List ℕ) (left at : ℕ) (r : Result EditRead Refusal) : Type 0 where
  pub reading : (X : format.Complex) → read_edits left b at X ≡ (reading_of (λ read. read) r and_then λ read. in_complex at read.edit X and_then read_edits (pred left) b read.next)
  pub allowed : (read : EditRead) → r ≡ Ok read → 1 ≤ left
  pub least : (read : EditRead) → r ≡ Ok read → 2 ≤ read.edit.kind
  pub most : (read : EditRead) → r ≡ Ok read → read.edit.kind ≤ 4

-- a view of a list at a seen position
pub record Views (l : List Simplex) (seen : ℕ) (view : View) : Type 0 where
  pub counts : min view.count 512 ≡ length l
  pub stands : seen < length l → get_or l seen [] ≡ vertices_of view.there

-- of the views of a complex's lists, that of the list of a kind
pub record Chosen (kind : ℕ) (edges triangles tetrahedra r : View) : Type 0 where
  pub views : (X : format.Complex) (seen : ℕ) → 2 ≤ kind → kind ≤ 4 → Views X.edges seen edges → Views X.triangles seen triangles → Views X.tetrahedra seen tetrahedra → Views (list_of_kind kind X) seen r

-- an edit's judgement by a view of its list
pub record Judged (at : ℕ) (edit : Edit) (view : View) (r : Result Unit Refusal) : Type 0 where
  pub reading : (l : List Simplex) → Views l edit.seen view → in_list at edit l ≡ reading_of (λ _. moved edit.seen edit.new l) r

-- Marks of the simplices of dimension `dim` before and after: they hold the same set, whichever it is.
abbrev pub MarksStay : (dim : ℕ) (X : Complex) (before : Marks) (Y : Complex) (after : Marks) → Type 0
MarksStay dim X before Y after = (A : SimplexSet) → Marked before.on (list_of X dim) A → Marked after.on (list_of Y dim) A

-- all edits of a file
pub record EditsTaken (b : List ℕ) (at dim : ℕ) (X : Complex) (marks : Marks) (r : Result EditsRead Refusal) : Type 0 where
  pub reading : read_edits 64 b at (complex_of X) ≡ reading_of (λ after. complex_of after.complex) r
  pub stay : (after : EditsRead) → r ≡ Ok after → MarksStay dim X marks after.complex after.marks
