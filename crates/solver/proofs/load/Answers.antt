-- `load` puts the columns in one by one. No slot is taken before.
-- Assumes nothing.
use native.Mathlib.Omega.{arith}
use Rattle.solver.proofs.Loading.{loading-start, loading-on}
use Rattle.solver.proofs.load.Goals.{At-loop-rank}
use Rattle.solver.proofs.load.Goals as goal

pub loop-rank-init : goal.loop-rank-init
loop-rank-init c = λ k.
    loading-start c.requires.taken_value c.requires.cur_len

pub loop-rank-preserved : goal.loop-rank-preserved
loop-rank-preserved c = λ k.
    loading-on (c.loop-rank.invariant k) (omega (arith, c.loop-rank-test.true, k.count)) (c.put_column.ensures k)
    c.put_column.auto.work c.put_column.auto.cur c.put_column.auto.taken
