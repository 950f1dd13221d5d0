-- `lists::move_item` meets its contract: with the item at place `i` the list is that of the move there.
-- Assumes nothing.
use Rattle.std.proofs.Common.{◌≡◌, ◌≤◌}
use Rattle.format.specs.Reading.{moved}
use Rattle.lists.proofs.move_item.Given as goal

abbrev pub invariant-loop-i : goal.invariant-loop-i
invariant-loop-i g l = l.items ≡ moved l.seen l.i l.initial.items

abbrev pub invariant-loop-i-else-seen-new : goal.invariant-loop-i-else-seen-new
invariant-loop-i-else-seen-new g l = (l.items ≡ moved l.seen l.i l.initial.items) × (l.new ≤ l.i)
