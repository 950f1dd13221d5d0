-- `fill_in` answers by where the reduction settled: through with all rows, or stuck.
-- Assumes nothing.
use Rattle.std.proofs.Common.{sym, ap, ◌∙◌, not}
use Rattle.std.proofs.Math.Bool.{not-not}
use Rattle.slots.specs.Laws.{fills-in}
use Rattle.slots.proofs.fill_in.Goals as goal

pub returns : goal.returns
returns c =
    fills-in c.requires.rows_bound c.requires.h_in_bounds c.requires.cur_len c.settle.ensures
    (sym (ap not c.is_none.ensures ∙ not-not c.is_none.result))
