-- `find_sides` meets its contract: the simplices' facets are looked up in rank order.
-- Assumes nothing.
use Rattle.lookup.specs.SidesLaws.{SidesFound}
use Rattle.lookup.proofs.find_sides.Given as goal

abbrev pub invariant-loop-rank : goal.invariant-loop-rank
invariant-loop-rank l = SidesFound l.face_keys l.m l.keys l.n l.width l.initial.sides l.sides l.rank
