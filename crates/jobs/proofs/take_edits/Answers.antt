-- `jobs::take_edits` meets its contract: what the edits leave of a job that was read up to them is the job, and where they are
-- refused, so is it.
-- Assumes nothing.
use Rattle.refusals.specs.Readings.{handed_up}
use Rattle.jobs.proofs.Laws.{edits-refused, edits-told}
use Rattle.jobs.proofs.take_edits.Goals as goal

pub returns-in_err-edited : goal.returns-in_err-edited
returns-in_err-edited c = λ r unedited.
    rw (handed_up c.from_residual.result c.from_residual.ensures.1)
    (edits-refused unedited c.chain_dimension-dim.ensures c.take_edits.ensures _ c.in_err-edited.was)

pub returns : goal.returns
returns c = λ r unedited.
    edits-told unedited c.chain_dimension-dim.ensures c.take_edits.ensures _ _ c.in_ok-edited.was
