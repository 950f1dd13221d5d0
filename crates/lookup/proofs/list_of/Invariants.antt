-- `list_of` meets its contract: each turn puts in the simplex of the next number.
-- Assumes nothing.
use Rattle.lookup.specs.NumberedLaws.{Listing}
use Rattle.lookup.proofs.list_of.Given as goal

abbrev pub invariant-loop-rank : goal.invariant-loop-rank
invariant-loop-rank l = Listing l.width l.keys l.list.items l.rank
