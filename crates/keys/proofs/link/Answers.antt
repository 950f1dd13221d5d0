-- `link` chains one key more: the three stores are those of the law `linked`.
-- Assumes nothing.
use native.Mathlib.Numerals.{add-one}
use native.Mathlib.Omega.{arith}
use Rattle.keys.specs.Chained.{linked}
use Rattle.keys.proofs.link.Goals as goal

pub returns : goal.returns
returns c = linked _ c.requires.chained (omega arith) (omega arith) (add-one _)
