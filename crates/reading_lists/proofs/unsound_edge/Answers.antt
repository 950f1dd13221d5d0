-- `unsound_edge` meets its contract: what has more than two vertices is no edge.
-- Assumes nothing.
use mathlib.Core.Path.{ap}
use mathlib.Core.Bool.{not}
use borrow.Author.Tests.{le-leb, lt-leb}
use Rattle.reading_lists.proofs.unsound_edge.Goals as goal

pub returns-then-width-gt2 : goal.returns-then-width-gt2
returns-then-width-gt2 c = rw (lt-leb _ 2 c.if-width-gt2.true)

pub returns : goal.returns
returns c = rw (le-leb _ 2 c.if-width-gt2.false) (ap not c.sound_at.ensures)
