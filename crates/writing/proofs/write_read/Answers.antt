-- `writing::write_read` meets its contract: the length is the normal form's, so the test of the room is the promise's, and
-- what is put out at the front is the normal form.
use mathlib.Core.Path.{◌≡◌, ◌∙◌, ap, subst}
use native.Mathlib.Omega.{arith}
use lib.ListN.{length}
use Rattle.format.specs.Promise.{two_numbers, WrittenJob}
use Rattle.format.specs.Reading as reader
use Rattle.writing.specs.Meaning.{chosen_from}
use Rattle.writing.proofs.Laws.{all-chosen, job-too-short, job-written, by_value, same-job}
use Rattle.writing.proofs.write_read.Goals.{After-count-n}
use Rattle.writing.proofs.write_read.Goals as goal

-- as many as the dimension of A has simplices may be chosen
all : (c : After-count-n) → c.count-n.result ≡ length (chosen_from c.job_by_value-job.result)
all c = all-chosen c.job_by_value-job.result _ _ c.count-n.ensures.0 c.chain_dimension.ensures

pub returns-then-out-total : goal.returns-then-out-total
unfolding by_value
returns-then-out-total c = λ k.
    let value = c.job_by_value-job in
    let out = c.args.out.now in
    subst (λ (j : reader.Job). WrittenJob j out c.two_numbers.result out) (same-job k value.ensures)
    (job-too-short value.result (by_value k value.ensures) _ (all (goal.at.returns-then-out-total c).After-count-n) out c.two_numbers.result (omega arith)
    (c.two_numbers.ensures ∙ ap (λ n. two_numbers n 0) c.from.ensures))

pub returns : goal.returns
unfolding by_value
returns c = λ k.
    let value = c.job_by_value-job in
    let out = c.args.out.now in
    let put = c.put_job in
    subst (λ (j : reader.Job). WrittenJob j out c.normal_length-total.result put.new.out) (same-job k value.ensures)
    (job-written value.result (by_value k value.ensures) _ (all (goal.at.returns c).After-count-n) out put.new.out c.normal_length-total.result put.result (omega arith)
    c.normal_length-total.ensures.0 c.put_job.ensures)
