-- `facet_ranks` meets its contract: the facets are looked up one by one, and each rank found is the next digit.
-- Assumes nothing.
use Rattle.lookup.specs.SidesLaws.{Siding}
use Rattle.lookup.proofs.facet_ranks.Given as goal

abbrev pub invariant-loop-skip : goal.invariant-loop-skip
invariant-loop-skip l = Siding l.keys l.n l.number l.width l.skip l.ranks
