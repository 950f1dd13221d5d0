-- `take_edits` meets its contract: without edits nothing moves; else the complex that the arrays hold is edited by value, and
-- what is left of it is put into the arrays again.
-- Assumes nothing.
use mathlib.Core.Path.{refl}
use Rattle.lent_lists.proofs.Editing.{editing-none, editing-room, editing-done}
use Rattle.lent_lists.proofs.take_edits.Goals as goal

pub returns-then-job-at : goal.returns-then-job-at
returns-then-job-at c = editing-none c.if-job-at.true c.requires

pub hold-counts_after-requires : goal.hold-counts_after-requires
hold-counts_after-requires c =
    editing-room c.complex_of-complex.ensures c.read_edits.ensures c.in_ok-edited.was
    c.requires.room

pub returns : goal.returns
returns c =
    editing-done c.complex_of-complex.ensures c.read_edits.ensures c.in_ok-edited.was refl
    c.requires.sound c.hold-counts_after.ensures
