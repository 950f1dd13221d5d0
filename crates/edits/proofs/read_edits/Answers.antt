-- `edits::read_edits` meets its contract: the loop keeps `Taking`, and each return is one of its ends.
use Prim.Native.Nat.{◌-◌}
use mathlib.Core.Path.{◌≡◌, refl, sym, subst}
use Rattle.refusals.specs.Readings.{handed_up}
use native.Mathlib.Omega.{arith}
use native.Mathlib.Numerals.{sub-one}
use lib.ListN.{length}
use Rattle.format.specs.Reading.{moved, list_of_kind}
use Rattle.format.specs.EditLaws.{MovedWithin}
use Rattle.lists.specs.Items.{length-mapped}
use Rattle.lists.specs.declared.Marks.{Marks}
use Rattle.complexes.specs.Meaning.{complex_of}
use Rattle.complexes.specs.declared.Complex.{Complex}
use Rattle.edits.specs.Meaning.{EditTaken, MarksStay}
use Rattle.edits.proofs.Laws.{viewed, Replaced, edges-moved, triangles-moved, tetrahedra-moved, marks-go-along, marks-stand}
use Rattle.edits.proofs.Taking.{Full, Taking, Turn, taking-ends, judge-refuses, moves-within, taking-goes-on}
use Rattle.std.proofs.Common.{rules}
use Rattle.edits.proofs.read_edits.Goals.{then-kind, else-kind+then-kind-2, else-kind+else-kind-2, After-judge, Joined-kind}
use Rattle.edits.proofs.read_edits.Goals as goal

-- what the turn has come to with the judgement: the view is of the list that the edit names
turn : (c : After-judge)
    →
    Turn c.args.job.now c.loop-at.left c.loop-at.at c.loop-at.complex c.in_ok-read.read c.judge.result
turn c =
    let full = c.loop-at.invariant.full in
    let one = c.read_edit.ensures in
    let fine = c.in_ok-read.was in
    let rank = c.min-rank.ensures in
    record {
      one = subst (EditTaken c.args.job.now c.loop-at.left c.loop-at.at) fine one;
      view = c.view_of-view.result;
      views = c.view_of-view.ensures.views (complex_of c.loop-at.complex) c.in_ok-read.read.edit.seen (one.least _ fine) (one.most _ fine) (viewed _ _ _ full.edges rank) (viewed _ _ _ full.triangles rank) (viewed _ _ _ full.tetrahedra rank);
      judged = c.judge.ensures;
    }

pub returns-in_err-judge : goal.returns-in_err-judge
returns-in_err-judge c =
    let up = c.from_residual-in_err-judge in
    rw (handed_up up.result up.ensures.1)
    (judge-refuses c.loop-at.invariant (turn (goal.at.returns-in_err-judge c).After-judge) _ c.in_err-judge.was)

-- past the judgement
module _ (c : Joined-kind) (j : Turn c.args.job.now c.loop-at.left c.loop-at.at c.loop-at.complex c.in_ok-read.read c.judge.result) where
  -- both positions are in the list
  within : let list = list_of_kind c.in_ok-read.read.edit.kind (complex_of c.loop-at.complex) in
      MovedWithin c.in_ok-read.read.edit.seen c.in_ok-read.read.edit.new list (moved c.in_ok-read.read.edit.seen c.in_ok-read.read.edit.new list)
  within = moves-within j c.in_ok-judge.was

  -- the complex has the list moved
  replaced : Replaced c.in_ok-read.read.edit.kind c.in_ok-read.read.edit.seen c.in_ok-read.read.edit.new c.loop-at.complex c.if-kind.complex
  replaced =
      let below = within.new_below in
      elim c.if-kind.branch [
        | then-kind w ↦ subst (Replaced _ _ _ _) (sym w.complex-is) (edges-moved c.loop-at.complex w.moved-complex.result below w.if-kind.true w.moved-complex.ensures)
        | else-kind+then-kind-2 w ↦
            subst (Replaced _ _ _ _) (sym w.complex-is) (triangles-moved c.loop-at.complex w.moved-complex-then-kind-2.result below w.if-kind-2.true w.moved-complex-then-kind-2.ensures)
        | else-kind+else-kind-2 w ↦
            subst (Replaced _ _ _ _) (sym w.complex-is) (tetrahedra-moved c.loop-at.complex w.moved-complex-else-kind-2.result below (omega (arith, w.if-kind.false, w.if-kind-2.false, j.one.least _ refl, j.one.most _ refl)) w.moved-complex-else-kind-2.ensures)
      ]

  full-after : Full c.if-kind.complex c.loop-at.marks
  full-after =
      let full = c.loop-at.invariant.full in
      elim c.if-kind.branch [
        | then-kind w ↦
            subst (λ (x : Complex). Full x c.loop-at.marks) (sym w.complex-is)
            (record { edges = search (rules, length-mapped); triangles = full.triangles; tetrahedra = full.tetrahedra; all_marks = full.all_marks })
        | else-kind+then-kind-2 w ↦
            subst (λ (x : Complex). Full x c.loop-at.marks) (sym w.complex-is)
            (record { edges = full.edges; triangles = search (rules, length-mapped); tetrahedra = full.tetrahedra; all_marks = full.all_marks })
        | else-kind+else-kind-2 w ↦
            subst (λ (x : Complex). Full x c.loop-at.marks) (sym w.complex-is)
            (record { edges = full.edges; triangles = full.triangles; tetrahedra = search (rules, length-mapped); all_marks = full.all_marks })
      ]

  -- the loop goes on, with any marks that hold the same set
  goes_on : (later : Marks) → MarksStay c.args.dim c.loop-at.complex c.loop-at.marks c.if-kind.complex later → length later.on ≡ 512
      → Taking c.args.job.now c.args.at c.args.dim c.args.complex c.args.marks c.in_ok-read.read.next c.if-kind.complex later (c.loop-at.left - 1)
  goes_on later stays all =
      let full = full-after in
      taking-goes-on c.loop-at.invariant j c.in_ok-judge.was c.if-kind.complex replaced later stays
      (record { edges = full.edges; triangles = full.triangles; tetrahedra = full.tetrahedra; all_marks = all }) _ (sub-one _)

pub loop-at-preserved-then-kind-dim : goal.loop-at-preserved-then-kind-dim
loop-at-preserved-then-kind-dim c =
    let at = goal.at.loop-at-preserved-then-kind-dim c in
    let j = turn at.After-judge in
    goes_on at.Joined-kind j c.moved-marks.result
    (marks-go-along (replaced at.Joined-kind j) (j.one.least _ refl) (j.one.most _ refl) (within at.Joined-kind j) c.if-kind-dim.true c.loop-at.invariant.full.all_marks c.moved-marks.ensures)
    (search (rules, c.moved-marks.type_inv))

pub loop-at-preserved : goal.loop-at-preserved
loop-at-preserved c =
    let at = goal.at.loop-at-preserved c in
    let j = turn at.After-judge in
    goes_on at.Joined-kind j c.loop-at.marks (marks-stand (replaced at.Joined-kind j) c.if-kind-dim.false) c.loop-at.invariant.full.all_marks

pub returns : goal.returns
returns c = taking-ends c.loop-at.invariant c.loop-at-test.false
