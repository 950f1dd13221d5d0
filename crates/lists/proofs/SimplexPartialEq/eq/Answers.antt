-- `==` of simplices meets its contract: vertices that are equal one by one are the same.
use mathlib.Core.Path.{◌≡◌, ◌∙◌}
use lib.Dec.{eqb}
use Rattle.std.proofs.Common.{rules}
use Rattle.std.specs.Cmp.Lexicographic.{pointwise}
use Rattle.lists.specs.Same.{pointwise-same}
use Rattle.lists.proofs.SimplexPartialEq.eq.Goals as goal

pub returns : goal.returns
returns c =
    let e : c.eq.result ≡ pointwise eqb c.vertices.result.now c.vertices-2.result.now = search rules in
    rw (← c.vertices.ensures, ← c.vertices-2.ensures) (e ∙ pointwise-same _ _)
