-- `facet_number` meets its contract: one digit is left out, and those behind it move up.
-- Assumes nothing.
use native.Mathlib.Omega.{arith}
use Rattle.lookup.specs.NumberedLaws.{skip_first, skip-second, skip-third, skip-fourth}
use Rattle.lookup.proofs.facet_number.Goals as goal

pub returns-in-0 : goal.returns-in-0
returns-in-0 c = λ s own few below. skip_first s own below c.in-0.is

pub returns-in-1 : goal.returns-in-1
returns-in-1 c = λ s own few below. skip-second s own below c.in-1.is

pub returns-in-2 : goal.returns-in-2
returns-in-2 c = λ s own few below. skip-third s own below c.in-2.is

pub returns-in_default : goal.returns-in_default
returns-in_default c = λ s own few below. skip-fourth s own below few (omega (arith, c.in_default))
