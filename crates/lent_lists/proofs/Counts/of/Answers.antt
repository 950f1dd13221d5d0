-- `Counts::of` meets its contract: there are as many vertices as they are numbered. The other dimensions have a list.
-- Assumes nothing.
use mathlib.Core.Path.{sym, ◌∙◌}
use Rattle.format.specs.Simplex.{simplices}
use Rattle.format.specs.Vertices.{length-vertices}
use Rattle.lent_lists.proofs.Counts.of.Goals as goal

pub returns-then-dim-eq0 : goal.returns-then-dim-eq0
unfolding simplices
returns-then-dim-eq0 c = λ X k. rw c.if-dim-eq0.true (sym (length-vertices X.v ∙ k.vertices))
