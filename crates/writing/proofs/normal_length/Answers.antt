-- `writing::normal_length` meets its contract: each record's length is six bytes and its items', so the counts give the sum.
use native.Mathlib.Omega.{arith}
use Rattle.writing.proofs.Laws.{chosen-few, marks-few, length-counted}
use Rattle.writing.proofs.normal_length.Goals as goal

pub count_marks-a-requires : goal.count_marks-a-requires
count_marks-a-requires c =
    chosen-few c.args.job.now c.requires.readable c.args.n c.requires.n_value

pub overflow_mul-result-4 : goal.overflow_mul-result-4
overflow_mul-result-4 c =
    omega (arith, marks-few c.args.job.now c.requires.readable c.args.n c.requires.n_value c.count_marks-a.result c.count_marks-a.ensures)

pub overflow_add-result-4 : goal.overflow_add-result-4
overflow_add-result-4 c =
    omega (arith, marks-few c.args.job.now c.requires.readable c.args.n c.requires.n_value c.count_marks-a.result c.count_marks-a.ensures)

pub returns : goal.returns
returns c =
    length-counted c.args.job.now c.requires.readable c.args.n c.requires.n_value _ _ _ _
    c.count_of-e.ensures.0 c.count_of-t.ensures.0 c.count_of-s.ensures.0 c.count_marks-a.ensures
