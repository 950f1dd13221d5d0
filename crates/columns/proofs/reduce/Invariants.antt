-- `reduce` goes on from each row at which `settle` is stuck, which a full reduction passes over (`Reducing`).
-- Assumes nothing.
use Rattle.columns.proofs.Settling.{Reducing}
use Rattle.columns.proofs.reduce.Given as goal

abbrev pub invariant-loop-r : goal.invariant-loop-r
invariant-loop-r l = Reducing l.h l.work l.taken l.rows l.initial.cur l.cur l.left

abbrev pub decreases-loop-r : goal.decreases-loop-r
decreases-loop-r l = l.left
