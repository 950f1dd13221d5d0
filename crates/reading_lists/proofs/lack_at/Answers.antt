-- `lack_at` meets its contract: 6 comes before 8.
-- Assumes nothing.
use mathlib.Core.Path.{sym, ap, ◌∙◌}
use mathlib.Core.Bool.{Bool, cond}
use Prim.Native.Nat.{ℕ}
use Rattle.format.specs.Numbers.{vertex, face}
use Rattle.reading_lists.specs.Items.{lack_of}
use Rattle.reading_lists.proofs.lack_at.Goals as goal

pub returns-then-sound_at : goal.returns-then-sound_at
unfolding lack_of
returns-then-sound_at c = ap (λ (sound : Bool). cond {A = ℕ} sound face vertex) (sym c.if-sound_at.true ∙ c.sound_at.ensures)

pub returns : goal.returns
unfolding lack_of
returns c = ap (λ (sound : Bool). cond {A = ℕ} sound face vertex) (sym c.if-sound_at.false ∙ c.sound_at.ensures)
