-- `reduce` goes on from each row at which `settle` is stuck, which a full reduction passes over (`Reducing`).
-- Assumes nothing.
use Rattle.columns.proofs.Settling.{reducing-end, reducing-on, stuck-below}
use Rattle.columns.proofs.reduce.Goals as goal

pub returns : goal.returns
returns c =
    reducing-end c.loop-r.invariant c.settle.ensures c.in_default.is

pub loop-r-smaller : goal.loop-r-smaller
loop-r-smaller c = stuck-below c.settle.ensures c.in-Some.is

pub loop-r-preserved : goal.loop-r-preserved
loop-r-preserved c =
    reducing-on c.loop-r.invariant c.settle.ensures c.in-Some.is
