-- `class` loads the slots, which leaves the pair in hand as long as it was, marks the chain in it, and reduces it by all slots.
-- Assumes nothing.
use mathlib.Core.Path.{◌∙◌}
use Rattle.solver.proofs.Solving.{prepared, class_told}
use Rattle.solver.proofs.class.Goals as goal

pub returns : goal.returns
returns c = λ k.
    class_told _ _ _ _
    (prepared _ _ _ _ k.few_rows (c.load.auto.cur ∙ c.requires.cur_len) (c.load.ensures k) c.mark.ensures)
    c.class_in.ensures
