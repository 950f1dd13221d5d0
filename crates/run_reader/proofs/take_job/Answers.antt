-- `run_reader::take_job` is safe: a job file that is no longer than the buffer is a part of it, of just its length.
use native.Mathlib.Omega.{arith}
use mathlib.Core.Path.{sym}
use lib.Seq.{length-take-le}
use Rattle.run_reader.proofs.take_job.Goals as goal

pub slice_bounds-fill_and_judge-end : goal.slice_bounds-fill_and_judge-end
slice_bounds-fill_and_judge-end c = sym (length-take-le _ _ (omega arith))
