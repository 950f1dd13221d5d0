-- `add` leaves the sum of the two columns: at byte i the first i bytes of src have been added.
-- Assumes nothing.
use Rattle.std.proofs.Common.{◌≡◌, take}
use Rattle.columns.specs.Column.{xor_bytes}
use Rattle.columns.proofs.add.Given as goal

abbrev pub invariant-loop-i : goal.invariant-loop-i
invariant-loop-i l = l.dst ≡ xor_bytes l.initial.dst (take l.i l.src)
