-- `jobs::after_head` meets its contract: the lists are read, and then what is asked about.
-- Assumes nothing.
use Rattle.heads.specs.Meaning.{head_of}
use Rattle.refusals.specs.Readings.{handed_up}
use Rattle.jobs.proofs.Laws.{unedited-refused, unedited-same, lists-refused, lists-fine}
use Rattle.jobs.proofs.after_head.Goals as goal

pub returns-in_err-lists : goal.returns-in_err-lists
returns-in_err-lists c =
    let a = c.args in
    rw (handed_up c.from_residual.result c.from_residual.ensures.1)
    (unedited-refused _ (lists-refused a.job.now a.at (head_of a.head) c.read_lists.ensures _ c.in_err-lists.was))

pub returns : goal.returns
returns c =
    let a = c.args in
    unedited-same c.after_lists.result
    (lists-fine a.job.now a.at (head_of a.head) c.read_lists.ensures _ c.in_ok-lists.was)
    c.after_lists.ensures
