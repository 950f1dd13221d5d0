-- `lists::SimplexList::moved` meets its contract: a simplex that has both places is moved.
-- Assumes nothing.
use mathlib.Core.Path.{◌≡◌, refl}
use lib.ListN.{length}
use Rattle.std.proofs.Common.{rules}
use Rattle.lists.specs.Meaning.{simplices_of}
use Rattle.lists.specs.Items.{length-mapped, counted}
use Rattle.lists.proofs.Moving.{none-there, no_place, moved-simplices}
use Rattle.lists.proofs.SimplexList.moved.Goals.{After-min-n, else-seen-n-via-then-seen-n+else-new-n, else-seen-n-via-else-seen-n}
use Rattle.lists.proofs.SimplexList.moved.Goals as goal

-- `n` is the number of simplices
size : (c : After-min-n) → c.min-n.result ≡ length (simplices_of c.args.self)
size c = counted _ _ (search (rules, length-mapped)) c.min-n.ensures

pub returns-then-new-n : goal.returns-then-new-n
returns-then-new-n c =
    moved-simplices _ _ _ _ (size (goal.at.returns-then-new-n c).After-min-n) _ c.move_item.ensures refl c.if-seen-n.true c.if-new-n.true

pub returns-else-seen-n : goal.returns-else-seen-n
returns-else-seen-n c =
    let n = size (goal.at.returns-else-seen-n c).After-min-n in
    elim c.else-seen-n.branch [
      | else-seen-n-via-then-seen-n+else-new-n w ↦ no_place _ _ _ _ n w.if-new-n.false
      | else-seen-n-via-else-seen-n w ↦ none-there _ _ _ _ n w.if-seen-n.false
    ]
