-- `edits::read_edits` meets its contract: the loop keeps `Taking`, and each return is one of its ends.
use Rattle.edits.proofs.Taking.{Taking}
use Rattle.edits.proofs.read_edits.Given as goal

abbrev pub invariant-loop-at : goal.invariant-loop-at
invariant-loop-at l =
    Taking l.job l.initial.at l.dim l.fn.complex l.fn.marks l.at l.complex l.marks l.left

abbrev pub decreases-loop-at : goal.decreases-loop-at
decreases-loop-at l =
    l.left
