-- `edits::read_edit` meets its contract: each return stands behind the tests that lead to its case of the definition.
use mathlib.Core.Path.{◌≡◌, sym, ◌∙◌}
use mathlib.Core.Bool.{true}
use native.Mathlib.Omega.{arith}
use lib.Dec.{eqb}
use Rattle.format.specs.Reading.{accepted, edit_fits}
use Rattle.format.specs.Opened.{opened, opened_inside}
use Rattle.refusals.specs.Readings.{told, handed_up}
use Rattle.stages.specs.Meaning.{opened_of}
use Rattle.edits.proofs.Taking.{record-refused, one-too-many, misshapen, edit-named}
use Rattle.edits.proofs.read_edit.Goals.{Else-not-edit_fits, In_ok-size}
use Rattle.edits.proofs.read_edit.Goals as goal

pub returns-in_err-size : goal.returns-in_err-size
returns-in_err-size c =
    rw (handed_up c.from_residual.result c.from_residual.ensures.1)
    (record-refused c.requires _ (told opened_of _ _ _ c.open.ensures c.in_err-size.was))

-- a whole edit record stands here
found : (c : In_ok-size) → opened (eqb 7) c.args.job.now c.args.at ≡ accepted c.in_ok-size.size
found c = told opened_of _ _ _ c.open.ensures c.in_ok-size.was

pub returns-then-left-eq0 : goal.returns-then-left-eq0
returns-then-left-eq0 c =
    one-too-many c.requires (found (goal.at.returns-then-left-eq0 c).In_ok-size) c.at.result c.at.ensures c.if-left-eq0.true

pub returns-then-not-edit_fits : goal.returns-then-not-edit_fits
returns-then-not-edit_fits c =
    let at = c.at-then-not-edit_fits in
    misshapen c.requires (found (goal.at.returns-then-not-edit_fits c).In_ok-size) (omega arith) c.payload-p.ensures at.result at.ensures
    (sym c.edit_fits.ensures ∙ c.if-not-edit_fits.true)

-- past the test of its shape the payload has it
fits : (c : Else-not-edit_fits) → edit_fits c.payload-p.result.now ≡ true
fits c = sym c.edit_fits.ensures ∙ c.if-not-edit_fits.false

pub overflow_add-result-2 : goal.overflow_add-result-2
overflow_add-result-2 c =
    let a = c.args in
    omega (arith, opened_inside (eqb 7) a.job.now a.at _ (found (goal.at.overflow_add-result-2 c).In_ok-size))

pub returns : goal.returns
returns c =
    edit-named c.requires (found (goal.at.returns c).In_ok-size) (omega arith) c.payload-p.ensures (fits (goal.at.returns c).Else-not-edit_fits) c.edit_of-edit.ensures
