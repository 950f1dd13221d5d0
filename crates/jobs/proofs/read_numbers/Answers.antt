-- `jobs::read_numbers` meets its contract: what is read up to the edits, and then edited, is the job.
-- Assumes nothing.
use mathlib.Core.Path.{subst}
use Rattle.jobs.specs.Meaning.{Unedited}
use Rattle.jobs.proofs.read_numbers.Goals as goal

pub returns : goal.returns
returns c = c.take_edits.ensures _ (subst (Unedited _ _ _ _ _ _ _) c.in_ok-unedited.was c.read_unedited.ensures)
