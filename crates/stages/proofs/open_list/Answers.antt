-- `stages::open_list` meets its contract: each return stands behind the tests that lead to its case of the definition.
-- Assumes nothing.
use native.Mathlib.Omega.{arith}
use mathlib.Core.Path.{ap, sym, ◌∙◌}
use Rattle.refusals.specs.Readings.{refused_by, told, handed_up}
use Rattle.stages.specs.Meaning.{opened_of}
use Rattle.stages.proofs.Laws.{list-refused, list-uneven, list-long}
use Rattle.stages.proofs.open_list.Goals as goal

pub returns-in_err-size : goal.returns-in_err-size
returns-in_err-size c =
    rw (handed_up c.from_residual.result c.from_residual.ensures.1)
    (λ v faces. list-refused _ _ _ v faces _ _ (told opened_of _ _ _ c.open.ensures c.in_err-size.was))

pub returns-then-size-width-ne0 : goal.returns-then-size-width-ne0
returns-then-size-width-ne0 c = λ v faces.
    list-uneven _ _ _ v faces _ (told opened_of _ _ _ c.open.ensures c.in_ok-size.was) c.if-size-width-ne0.true ∙ ap refused_by (sym c.at.ensures)

pub returns-then-width-size : goal.returns-then-width-size
returns-then-width-size c = λ v faces.
    list-long _ _ _ v faces _ (told opened_of _ _ _ c.open.ensures c.in_ok-size.was) (omega (arith, c.if-width-size.true))
    ∙ ap refused_by (sym c.at-then-width-size.ensures)
