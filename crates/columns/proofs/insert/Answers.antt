-- `insert` stores what `settle` leaves, in the slot of the row at which it is stuck, and says that this slot is taken.
-- Assumes nothing.
use Prim.Native.Nat.{◌<◌}
use native.Mathlib.Omega.{arith}
use Rattle.columns.proofs.Settling.{stuck-below}
use Rattle.columns.proofs.insert.Goals.{In-Some}
use Rattle.columns.proofs.insert.Goals as goal

-- the row at which it is stuck is one of the slots'
module _ (c : In-Some) where
  below : c.in-Some.r < c.args.rows
  below = stuck-below c.settle-found.ensures c.in-Some.is

pub store_slot-requires-clause-r_bound : goal.store_slot-requires-clause-r_bound
store_slot-requires-clause-r_bound c = omega (arith, below (goal.at.store_slot-requires-clause-r_bound c).In-Some, c.requires.rows_bound)

pub bounds-taken-r : goal.bounds-taken-r
bounds-taken-r c =
    omega (arith, below (goal.at.bounds-taken-r c).In-Some, c.requires.rows_in_bounds, c.store_slot.auto.work)
