-- What one edit record comes to, and what the loop over them keeps: what is left to read stays what the whole is.
use Prim.Native.Nat.{ℕ, pred, ◌+◌, ◌≤◌, ◌<◌}
use mathlib.Core.Path.{◌≡◌, sym, ◌∙◌, ap, subst}
use mathlib.Core.Bool.{Bool, true, false, not}
use mathlib.Core.List.{List}
use native.Mathlib.Omega.{arith}
use lib.ListN.{length}
use lib.Dec.{eqb}
use Rattle.format.specs.Simplex as format
use Rattle.format.specs.Reading.{accepted, refused, refuse_if, Header, ended, broken, whole, header_at, ◌and_then◌, payload_at, moved, edited, edit_fits, list_of_kind, with_list, read_edits}
use Rattle.format.specs.Numbers.{header_bytes, edit_kind, wrong_kind}
use Rattle.format.specs.Opened.{opened, opened_from}
use Rattle.format.specs.EditLaws.{MovedWithin}
use Rattle.format.proofs.EditLaws.{fits-edit, accepted-moved, edited-one, edits-ended, edits-refused, edits-full, edits-shape, edits-next}
use Rattle.lists.specs.Meaning.{vertices_of}
use Rattle.std.specs.Prelude.{Result}
use Rattle.std.proofs.Common.{Ok, Err}
use Rattle.refusals.specs.Meaning.{number_of}
use Rattle.refusals.specs.Readings.{refused_by, reading_of, not_read, same_read}
use Rattle.refusals.specs.declared.Refusal.{Refusal}
use Rattle.refusals.specs.declared.Reason.TheVariants.{Kind, Shape}
use Rattle.lists.specs.declared.Marks.{Marks}
use Rattle.complexes.specs.Meaning.{complex_of}
use Rattle.complexes.specs.declared.Complex.{Complex}
use Rattle.edits.proofs.Laws.{Replaced}
use Rattle.edits.specs.Meaning.{in_complex, Named, EditTaken, Views, Judged, MarksStay, EditsTaken}
use Rattle.edits.specs.declared.Edit.{Edit}
use Rattle.edits.specs.declared.EditRead.{EditRead}
use Rattle.edits.specs.declared.EditsRead.{EditsRead}
use Rattle.edits.specs.declared.View.{View}

-- a record that does not stand at a place is refused there
opened-place : (may : ℕ → Bool) (b : List ℕ) (at n p : ℕ) → opened may b at ≡ refused n p → p ≡ at
unfolding opened_from
opened-place may b at n p e = go (header_at b at) e
  where
    kind : (x : Bool) (size : ℕ) → refuse_if (not x) wrong_kind at (accepted size) ≡ refused n p → p ≡ at
    kind true size e = let z : ◌≡◌ {A = ℕ} 0 1 = cc in absurd (omega arith)
    kind false size e = cc

    go : (h : Header) → opened_from may at h ≡ refused n p → p ≡ at
    go ended e = cc
    go broken e = cc
    go (whole k size) e = kind (may k) size e

-- ONE RECORD.
module _ {b : List ℕ} {left at : ℕ} (more : at < length b) where
  refusing : (e : Refusal) → ((X : format.Complex) → read_edits left b at X ≡ refused_by e) → EditTaken b left at (Err e)
  refusing e h =
      record {
        reading = h;
        allowed = λ read f. absurd (not_read f);
        least = λ read f. absurd (not_read f);
        most = λ read f. absurd (not_read f);
      }

  pub record-refused : (e : Refusal) → opened (eqb edit_kind) b at ≡ refused_by e → EditTaken b left at (Err e)
  record-refused e o =
      let here : e.place ≡ at = opened-place (eqb edit_kind) b at (number_of e.reason) e.place o in
      refusing e (λ X. edits-refused b at X more left (number_of e.reason) (o ∙ ap (refused (number_of e.reason)) here) ∙ ap (refused (number_of e.reason)) (sym here))

  module _ {size : ℕ} (found : opened (eqb edit_kind) b at ≡ accepted size) where
    pub one-too-many : (e : Refusal) → e ≡ record { reason = Kind; place = at } → left ≡ 0 → EditTaken b left at (Err e)
    one-too-many e is z = refusing e (λ X. ap (λ k. read_edits k b at X) z ∙ edits-full b at X more size found ∙ ap refused_by (sym is))

    -- q is the record's payload, as the code has it
    module _ (some : 0 < left) {q : List ℕ} (is : q ≡ payload_at b at size) where
      pub misshapen : (e : Refusal) → e ≡ record { reason = Shape; place = at } → edit_fits q ≡ false → EditTaken b left at (Err e)
      misshapen e told f = refusing e (λ X. edits-shape b at X more size found left some (ap edit_fits (sym is) ∙ f) ∙ ap refused_by (sym told))

      pub edit-named : {edit : Edit} → edit_fits q ≡ true → Named q edit → EditTaken b left at (Ok (record { edit = edit; next = at + header_bytes + size }))
      edit-named {edit = edit} f named =
          let least : 2 ≤ edit.kind = omega (arith, named.is_kind, (fits-edit q f).least) in
          let most : edit.kind ≤ 4 = omega (arith, named.is_kind, (fits-edit q f).most) in
          record {
            reading = λ X.
                let one : edited at q X ≡ in_complex at edit X = edited-one at q X ∙ rw (named.is_kind, named.is_seen, named.is_new, named.is_simplex) in
                edits-next b at X more size found left some (ap edit_fits (sym is) ∙ f) ∙ rw (← is, one);
            allowed = λ _ _. omega arith;
            least = λ read f. subst (λ (x : EditRead). 2 ≤ x.edit.kind) (same_read f) least;
            most = λ read f. subst (λ (x : EditRead). x.edit.kind ≤ 4) (same_read f) most;
          }

-- THE LOOP over the records. The arrays of what it changes have all their places.
pub record Full (X : Complex) (marks : Marks) : Type 0 where
  pub edges : length X.edges.items ≡ 512
  pub triangles : length X.triangles.items ≡ 512
  pub tetrahedra : length X.tetrahedra.items ≡ 512
  pub all_marks : length marks.on ≡ 512

-- The edits so far have led from complex X and its marks to Y and the marks `after`.
pub record Taking (b : List ℕ) (start dim : ℕ) (X : Complex) (marks : Marks) (at : ℕ) (Y : Complex) (after : Marks) (left : ℕ) : Type 0 where
  pub reading : read_edits 64 b start (complex_of X) ≡ read_edits left b at (complex_of Y)
  pub stay : MarksStay dim X marks Y after
  pub full : Full Y after

-- A TURN: a record was read, its list was viewed, and the edit was judged by that.
pub record Turn (b : List ℕ) (left at : ℕ) (Y : Complex) (r : EditRead) (judgement : Result Unit Refusal) : Type 0 where
  pub one : EditTaken b left at (Ok r)
  pub view : View
  pub views : Views (list_of_kind r.edit.kind (complex_of Y)) r.edit.seen view
  pub judged : Judged at r.edit view judgement

-- both positions of an edit that can be done are in its list
pub moves-within : {b : List ℕ} {left at : ℕ} {Y : Complex} {r : EditRead} {judgement : Result Unit Refusal} → Turn b left at Y r judgement → judgement ≡ Ok tt
    → MovedWithin r.edit.seen r.edit.new (list_of_kind r.edit.kind (complex_of Y)) (moved r.edit.seen r.edit.new (list_of_kind r.edit.kind (complex_of Y)))
moves-within {at = at} {Y = Y} {r = r} turn e =
    let list = list_of_kind r.edit.kind (complex_of Y) in
    accepted-moved at r.edit.seen r.edit.new (vertices_of r.edit.simplex) list (moved r.edit.seen r.edit.new list) (turn.judged.reading list turn.views ∙ rw e)

module _ {b : List ℕ} {start dim : ℕ} {X : Complex} {marks : Marks} {at : ℕ} {Y : Complex} {after : Marks} {left : ℕ} (so_far : Taking b start dim X marks at Y after left) where
  pub taking-ends : length b ≤ at → EditsTaken b start dim X marks (Ok (record { complex = Y; marks = after }))
  taking-ends h = record {
    reading = so_far.reading ∙ edits-ended left b at (complex_of Y) h;
    stay = λ r f. subst (λ (x : EditsRead). MarksStay dim X marks x.complex x.marks) (same_read f) so_far.stay;
  }

  refused-so : (e : Refusal) → read_edits 64 b start (complex_of X) ≡ refused_by e → EditsTaken b start dim X marks (Err e)
  refused-so e is = record { reading = is; stay = λ r f. absurd (not_read f) }

  module _ {r : EditRead} {judgement : Result Unit Refusal} (turn : Turn b left at Y r judgement) where
    edit-read : read_edits 64 b start (complex_of X)
        ≡ (reading_of (λ _. moved r.edit.seen r.edit.new (list_of_kind r.edit.kind (complex_of Y))) judgement and_then λ l. accepted (with_list r.edit.kind l (complex_of Y))) and_then read_edits (pred left) b r.next
    edit-read = so_far.reading ∙ turn.one.reading (complex_of Y) ∙ rw (turn.judged.reading (list_of_kind r.edit.kind (complex_of Y)) turn.views)

    pub judge-refuses : (e : Refusal) → judgement ≡ Err e → EditsTaken b start dim X marks (Err e)
    judge-refuses e is = refused-so e (edit-read ∙ rw is)

    pub taking-goes-on : judgement ≡ Ok tt → (Z : Complex) → Replaced r.edit.kind r.edit.seen r.edit.new Y Z → (later : Marks) → MarksStay dim Y after Z later → Full Z later → (fewer : ℕ) → fewer ≡ pred left → Taking b start dim X marks r.next Z later fewer
    taking-goes-on e Z replaced later stays full fewer f =
        record { reading = edit-read ∙ rw (e, f, replaced.is); stay = λ A m. stays A (so_far.stay A m); full = full }
