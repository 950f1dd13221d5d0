-- `answering::answer_in` meets its contract: what the reading refuses, what the edits' reading refuses, or the answer to the job.
-- Assumes nothing.
use mathlib.Core.Path.{subst}
use Rattle.format.specs.Numbers.{small}
use Rattle.format.specs.Reading.{reading}
use Rattle.jobs.specs.Meaning.{Unedited, Told}
use Rattle.jobs.specs.Known.{unedited-told, told_asking}
use Rattle.answering.proofs.Told.{file-answered}
use Rattle.answering.proofs.answer_in.Goals.{In-Ok-take_edits}
use Rattle.answering.proofs.answer_in.Goals as goal

-- no edits stand behind what was read
pub answer_job-requires-clause-asking : goal.answer_job-requires-clause-asking
answer_job-requires-clause-asking c = told_asking _ _ _ (unedited-told c.read_unedited.ensures c.in-Ok.is c.if-job-read.true) c.in-Ok.is

pub returns-then-job-read : goal.returns-then-job-read
returns-then-job-read c =
    file-answered (unedited-told c.read_unedited.ensures c.in-Ok.is c.if-job-read.true) c.in-Ok.is c.answer_job.ensures

-- or they were taken
module _ (c : In-Ok-take_edits) where
  edited-told :
      Told (reading small c.args.job.now) c.take_edits.new.e_keys c.take_edits.new.t_keys
      c.take_edits.new.s_keys c.take_edits.new.t_sides c.take_edits.new.s_sides c.take_edits.result
  edited-told = c.take_edits.ensures _ (subst (Unedited _ _ _ _ _ _ _) c.in-Ok.is c.read_unedited.ensures)

pub answer_job-requires-in-Ok-take_edits-clause-asking : goal.answer_job-requires-in-Ok-take_edits-clause-asking
answer_job-requires-in-Ok-take_edits-clause-asking c =
    told_asking _ _ _ (edited-told (goal.at.answer_job-requires-in-Ok-take_edits-clause-asking c).In-Ok-take_edits) c.in-Ok-take_edits.is

pub returns-in-Ok-take_edits : goal.returns-in-Ok-take_edits
returns-in-Ok-take_edits c =
    file-answered (edited-told (goal.at.returns-in-Ok-take_edits c).In-Ok-take_edits) c.in-Ok-take_edits.is c.answer_job-in-Ok-take_edits.ensures
