-- `mark` turns over the ranks that are on, in a cleared pair of columns.
-- Assumes nothing.
use Rattle.solver.proofs.Marking.{Marking}
use Rattle.solver.proofs.mark.Given as goal

abbrev pub invariant-loop-i : goal.invariant-loop-i
invariant-loop-i l = Marking l.fn.marks l.i l.initial.cur l.cur
