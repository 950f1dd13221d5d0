-- `find` goes from key to key of one bucket: what lies below the place reached decides (`Hunt`), and the chain falls.
-- Assumes nothing.
use Rattle.keys.proofs.Hunt.{Hunt}
use Rattle.keys.proofs.find.Given as goal

abbrev pub invariant-loop-place : goal.invariant-loop-place
invariant-loop-place l = Hunt l.keys l.first l.next l.n l.key l.link

abbrev pub decreases-loop-place : goal.decreases-loop-place
decreases-loop-place l = l.link
