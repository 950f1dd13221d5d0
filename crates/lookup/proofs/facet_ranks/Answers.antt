-- `facet_ranks` meets its contract: the facets are looked up one by one, and each rank found is the next digit.
-- Assumes nothing.
use mathlib.Core.Path.{refl}
use native.Mathlib.Omega.{arith}
use Rattle.lookup.specs.SidesLaws.{siding-start, siding-end, siding-lacks, siding-on}
use Rattle.lookup.proofs.facet_ranks.Goals as goal

pub loop-skip-init : goal.loop-skip-init
loop-skip-init c = siding-start _ _ _ _

pub returns-in_err-rank : goal.returns-in_err-rank
returns-in_err-rank c = λ s own size faces proper keyed.
    rw c.from_residual.ensures
    (siding-lacks c.loop-skip.invariant c.loop-skip-test.true c.requires.width_bound.0
    c.facet_number.ensures c.in_err-rank.ensures.rank s own size faces proper keyed refl)

pub loop-skip-preserved : goal.loop-skip-preserved
loop-skip-preserved c =
    siding-on c.loop-skip.invariant c.loop-skip-test.true c.requires.width_bound.0
    c.facet_number.ensures c.in_ok-rank.ensures.rank refl (omega (arith, c.requires.width_bound.1, c.in_ok-rank.ensures.below))

pub returns : goal.returns
returns c = λ s own size faces proper keyed. siding-end c.loop-skip.invariant c.loop-skip-test.false s own size faces proper keyed
