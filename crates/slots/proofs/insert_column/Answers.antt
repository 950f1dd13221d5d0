-- `insert_column` is the insertion of crate `columns`, read as one turn of the loop over the columns.
-- Assumes nothing.
use Rattle.slots.specs.Laws.{puts-in}
use Rattle.slots.proofs.insert_column.Goals as goal

pub returns : goal.returns
returns c = λ m le low held.
    puts-in low c.requires.h_in_bounds c.requires.cur_len c.requires.top_in_bounds le held c.insert.ensures
