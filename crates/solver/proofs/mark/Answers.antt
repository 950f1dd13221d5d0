-- `mark` turns over the ranks that are on, in a cleared pair of columns.
-- Assumes nothing.
use mathlib.Core.Path.{◌≡◌, sym, ◌∙◌}
use lib.ListN.{length, length-take}
use native.Mathlib.Omega.{arith}
use Rattle.solver.proofs.Marking.{mark-at, marking-start, marking-skip, marking-flip, marking-end}
use Rattle.solver.proofs.mark.Goals.{then-on, else-on}
use Rattle.solver.proofs.mark.Goals as goal

pub loop-i-init : goal.loop-i-init
loop-i-init c = marking-start _ (length c.args.cur.now) _ c.clear.ensures

pub loop-i-preserved : goal.loop-i-preserved
loop-i-preserved c =
    let mark = sym (mark-at c.args.m c.loop-i.i c.args.marks.on c.loop-i-test.true) in
    elim c.if-on.branch [
      | then-on w ↦ marking-flip _ c.loop-i.invariant (mark ∙ w.if-on.true) (w.cur-is ∙ w.flip.ensures)
      | else-on w ↦ marking-skip _ c.loop-i.invariant (mark ∙ w.if-on.false) w.cur-is
    ]

pub returns : goal.returns
returns c =
    let all : c.loop-i.i ≡ c.args.m = omega (arith, c.loop-i-test.false, c.requires.m_bound, length-take c.args.m c.args.marks.on) in
    marking-end _ c.loop-i.invariant (omega arith) (omega arith) c.clear.auto.bytes
