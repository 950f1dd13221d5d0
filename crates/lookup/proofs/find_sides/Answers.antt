-- `find_sides` meets its contract: the simplices' facets are looked up in rank order.
-- Assumes nothing.
use native.Mathlib.Omega.{arith}
use Rattle.lookup.specs.SidesLaws.{finding-on, finding-end}
use Rattle.lookup.proofs.find_sides.Goals as goal

pub loop-rank-preserved : goal.loop-rank-preserved
loop-rank-preserved c =
    finding-on c.loop-rank.invariant c.loop-rank-test.true _ c.facet_ranks-found.ensures
    c.in_ok-sides.ensures.ok_part c.requires.width_bound.3

pub returns-clause-sides : goal.returns-clause-sides
returns-clause-sides c = finding-end c.loop-rank.invariant (omega arith)
