-- Laws of the reasons' numbers.
use Rattle.std.specs.Prelude.{◌≡◌}
use Rattle.std.proofs.Common.{arith}
use Rattle.refusals.specs.Meaning.{number_of}
use Rattle.refusals.specs.declared.Reason.{Reason}
use Rattle.refusals.specs.declared.Reason.TheVariants.{TooLong, Cut, Kind, Shape, Head, Vertex, Twice, Face, ChainItem, Stale, Target, RimOpen, NoFilling, Room}

-- no reason has the number 0, which tells that there is none
pub number-some : (r : Reason) → number_of r ≡ 0 → ⊥
number-some TooLong e = omega arith
number-some Cut e = omega arith
number-some Kind e = omega arith
number-some Shape e = omega arith
number-some Head e = omega arith
number-some Vertex e = omega arith
number-some Twice e = omega arith
number-some Face e = omega arith
number-some ChainItem e = omega arith
number-some Stale e = omega arith
number-some Target e = omega arith
number-some RimOpen e = omega arith
number-some NoFilling e = omega arith
number-some Room e = omega arith
