-- `chosen::read_positions` meets its contract: the loop keeps `Marking`, and each return is one of its ends.
use Prim.Native.Nat.{◌*◌}
use Rattle.chosen.proofs.Positions.{Marking}
use Rattle.chosen.proofs.read_positions.Given as goal

abbrev pub invariant-loop-i : goal.invariant-loop-i
invariant-loop-i l = Marking l.p l.base l.count l.marks.on l.least (2 * l.i)
