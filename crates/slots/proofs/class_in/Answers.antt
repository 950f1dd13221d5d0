-- `class_in` reduces the chain by all slots, which leaves the smallest of its class.
-- Assumes nothing.
use Rattle.slots.specs.Laws.{classes-in}
use Rattle.slots.proofs.class_in.Goals as goal

pub returns : goal.returns
returns c =
    classes-in c.requires.rows_bound c.requires.h_in_bounds c.requires.cur_len c.reduce.ensures
