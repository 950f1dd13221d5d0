-- `sound_at` meets its contract: the vertices not yet judged decide, from the least number that may stand next.
-- Assumes nothing.
use Prim.Native.Nat.{◌-◌}
use lib.ListN.{take, drop}
use Rattle.reading_lists.proofs.Soundness.{Sounding}
use Rattle.reading_lists.proofs.sound_at.Given as goal

abbrev pub invariant-loop-i : goal.invariant-loop-i
invariant-loop-i l = Sounding l.v (take l.width (drop l.at l.p)) l.width l.least l.i

abbrev pub decreases-loop-i : goal.decreases-loop-i
decreases-loop-i l = l.width - l.i
