-- `fill` loads the slots, which leaves the pair in hand as long as it was, marks the chain in it, and asks what the slots make of it.
-- Assumes nothing.
use mathlib.Core.Path.{◌∙◌}
use Rattle.solver.proofs.Solving.{prepared, fill_told}
use Rattle.solver.proofs.fill.Goals as goal

pub returns : goal.returns
returns c = λ k.
    fill_told _ _ _ _
    (prepared _ _ _ _ k.few_rows (c.load.auto.cur ∙ c.requires.cur_len) (c.load.ensures k) c.mark.ensures)
    c.fill_in.ensures
