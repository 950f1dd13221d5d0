-- `chosen::step_at` meets its contract: whether there is a next vertex is the definition's own test.
use native.Mathlib.Omega.{arith}
use Rattle.chosen.proofs.Steps.{step-on, step-home}
use mathlib.Core.Path.{sym, ◌∙◌}
use Rattle.chosen.proofs.step_at.Goals as goal

pub returns-then-next-p : goal.returns-then-next-p
returns-then-next-p c = c.edge_between.ensures ∙ sym (step-on c.args.p.now c.args.i (omega arith))

pub returns-else-next-p : goal.returns-else-next-p
returns-else-next-p c = c.edge_between-else-next-p.ensures ∙ sym (step-home c.args.p.now c.args.i (omega arith))
