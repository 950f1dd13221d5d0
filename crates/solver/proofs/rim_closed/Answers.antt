-- `rim_closed` adds up the boundaries of the marked rows and looks for a rank in the sum.
-- Assumes nothing.
use Prim.Native.Nat.{◌≤◌, ◌<◌}
use mathlib.Core.Path.{sym, ap, ◌∙◌}
use mathlib.Core.Bool.{not}
use Rattle.std.proofs.Math.Bool.{not-not}
use native.Mathlib.Omega.{arith}
use lib.ListN.{length, length-take}
use Rattle.solver.specs.Columns.{MatrixIn}
use Rattle.solver.proofs.Adding.{column-sides}
use Rattle.solver.proofs.Marking.{mark-at}
use Rattle.solver.proofs.Rimming.{rimming-start, rimming-skip, rimming-add, rim_told}
use Rattle.solver.proofs.rim_closed.Goals.{then-on, else-on, In-loop-i, After-loop-i, At-loop-i}
use Rattle.solver.proofs.rim_closed.Goals as goal

pub loop-i-init : goal.loop-i-init
loop-i-init c = λ k.
    rimming-start _ _ _ _ (length c.args.cur.now) _ c.clear.ensures (c.clear.auto.bytes ∙ c.requires.cur_len)

-- the row that is looked at is one of the n
row_in : (c : In-loop-i) → c.loop-i.i < c.args.matrix.columns
row_in c = omega (arith, c.loop-i-test.true, length-take c.args.matrix.columns c.args.marks.on)

pub loop-i-preserved : goal.loop-i-preserved
loop-i-preserved c = λ k.
    let a = c.loop-i.invariant k in
    let row = row_in (goal.at.loop-i-preserved c).In-loop-i in
    let lt : c.loop-i.i < length k.high = omega (arith, row, k.count) in
    let mark = sym (mark-at c.args.matrix.columns c.loop-i.i c.args.marks.on c.loop-i-test.true) in
    elim c.if-on.branch [
      | then-on w ↦ rimming-add _ _ _ _ a lt (mark ∙ w.if-on.true) k.few_rows
          (w.add_boundary.ensures _ _ (k.wide _ row) k.some k.most (column-sides k row)) w.add_boundary.auto.cur w.cur-is
      | else-on w ↦ rimming-skip _ _ _ _ a lt (mark ∙ w.if-on.false) w.cur-is
    ]

-- no row is left
rows_end : (c : After-loop-i) (k : MatrixIn c.args.h c.args.matrix) → length k.high ≤ c.loop-i.i
rows_end c k = omega (arith, c.loop-i-test.false, k.count, c.requires.columns_bound, length-take c.args.matrix.columns c.args.marks.on)

pub returns : goal.returns
returns c = λ k.
    rim_told _ _ _ _ (c.loop-i.invariant k) (rows_end (goal.at.returns c).After-loop-i k) k.few_rows k.row_count
    c.next_down.ensures (sym (ap not c.is_none.ensures ∙ not-not c.is_none.result))
