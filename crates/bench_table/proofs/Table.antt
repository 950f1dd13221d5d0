-- Each bench job's record is the one and only record that the promise allows. Why: the answer of a file can be computed
-- (crate format, Outcome), the computed one is compared with the table's byte by byte, and no file has two answers.
use Rattle.std.specs.Prelude.{◌≡◌, refl, Bool, true, false, ◌&&◌, List, [], ◌∷◌, T}
use Rattle.std.proofs.Common.{subst}
use Rattle.format.specs.Numbers.{small}
use Rattle.format.specs.Simplex.{same}
use Rattle.format.specs.Reading.{reading}
use Rattle.format.specs.Answer.{Answered}
use Rattle.format.specs.Outcome.{answer_of}
use Rattle.format.specs.Worked.{reads_to}
use Rattle.format.specs.Unique.{answered-unique}
use Rattle.format.specs.Listed.{same-equal}
use Rattle.bench_table.specs.Jobs.{Entry, bench_jobs}
use Rattle.bench_table.specs.Table.{Every, Right, test, test_all}

-- the law that turns the test into the statement
pub tested : (e : Entry) → T (test e) → Right e
unfolding test
tested e t =
    let it : (answer_of (reading small e.job)).0 ≡ e.answer = same-equal _ _ (is_true _ t) in
    let allowed : Answered (reading small e.job) e.answer = subst (Answered (reading small e.job)) it (answer_of (reading small e.job)).1 in
    record { allowed = allowed; only = λ other x. answered-unique (reading small e.job) other e.answer x allowed }
  where
    is_true : (b : Bool) → T b → b ≡ true
    is_true true t = refl
    is_true false t = absurd t

pub every : (l : List Entry) → T (test_all l) → Every Right l
unfolding test_all
every [] t = tt
every (e ∷ l) t = both (test e) (tested e) t (every l)
  where
    both : (b : Bool) → (T b → Right e) → T (b && test_all l) → (T (test_all l) → Every Right l) → Right e × Every Right l
    both true here t rest = (here tt, rest t)
    both false here t rest = absurd t

-- P1 TO P12, by one computation.
pub table : Every Right bench_jobs
unfolding test_all test same reads_to answer_of
table = every bench_jobs tt
