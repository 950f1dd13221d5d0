-- `lists::simplex_at` meets its contract: the bytes passed stand in the first places.
use mathlib.Core.Path.{◌≡◌}
use lib.ListN.{length, take}
use Rattle.lists.proofs.simplex_at.Given as goal

abbrev pub invariant-loop-place : goal.invariant-loop-place
invariant-loop-place l = (length l.vertices ≡ 4) × (take l.place l.vertices ≡ take l.place l.byte-items)
