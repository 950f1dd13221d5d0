-- `rim_closed` adds up the boundaries of the marked rows and looks for a rank in the sum.
-- Assumes nothing.
use Rattle.solver.specs.Columns.{MatrixIn}
use Rattle.solver.proofs.Rimming.{Rimming}
use Rattle.solver.proofs.rim_closed.Given as goal

abbrev pub invariant-loop-i : goal.invariant-loop-i
invariant-loop-i l =
    (k : MatrixIn l.h l.matrix) → Rimming k.rows k.high l.fn.marks l.h l.i l.cur
