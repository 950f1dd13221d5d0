-- `load` puts the columns in one by one. No slot is taken before.
-- Assumes nothing.
use Rattle.solver.specs.Columns.{MatrixIn}
use Rattle.solver.proofs.Loading.{Loading}
use Rattle.solver.proofs.load.Given as goal

abbrev pub invariant-loop-rank : goal.invariant-loop-rank
invariant-loop-rank l =
    (k : MatrixIn l.h l.matrix) → Loading l.h k.rows k.high l.rank l.initial.work l.initial.taken l.work l.cur l.taken
