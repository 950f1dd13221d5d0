-- `lists::Marks::moved` meets its contract: a mark that has both places is moved.
-- Assumes nothing.
use Rattle.std.proofs.Common.{rules}
use Rattle.lists.proofs.Moving.{no-mark-there, no-mark-place, moved_marks}
use Rattle.lists.proofs.Marks.moved.Goals.{else-seen-lt-LIMIT-via-then-seen-lt-LIMIT+else-new-lt-LIMIT, else-seen-lt-LIMIT-via-else-seen-lt-LIMIT}
use Rattle.lists.proofs.Marks.moved.Goals as goal

pub returns-then-new-lt-LIMIT : goal.returns-then-new-lt-LIMIT
returns-then-new-lt-LIMIT c = moved_marks _ _ _ (search rules) _ c.move_item.ensures c.if-new-lt-LIMIT.true

pub returns-else-seen-lt-LIMIT : goal.returns-else-seen-lt-LIMIT
returns-else-seen-lt-LIMIT c =
    elim c.else-seen-lt-LIMIT.branch [
      | else-seen-lt-LIMIT-via-then-seen-lt-LIMIT+else-new-lt-LIMIT w ↦ no-mark-place _ _ _ (search rules) w.if-new-lt-LIMIT.false
      | else-seen-lt-LIMIT-via-else-seen-lt-LIMIT w ↦ no-mark-there _ _ _ (search rules) w.if-seen-lt-LIMIT.false
    ]
