-- What is shown of each bench job: its record is the one and only one that the promise allows. Proved in proofs/Table.
use Rattle.std.specs.Prelude.{ℕ, ◌≡◌, Bool, true, ◌&&◌, List, [], ◌∷◌}
use Rattle.format.specs.Numbers.{small}
use Rattle.format.specs.Simplex.{same}
use Rattle.format.specs.Reading.{reading}
use Rattle.format.specs.Answer.{Answered}
use Rattle.format.specs.Outcome.{answer_of}
use Rattle.bench_table.specs.Jobs.{Entry}

-- what is to be shown of an entry
pub record Right (e : Entry) : Type 0 where
  pub allowed : Answered (reading small e.job) e.answer
  pub only : (other : List ℕ) → Answered (reading small e.job) other → other ≡ e.answer

-- the computed test: is the answer that is found for the job the one in the table?
unfoldable pub test : Entry → Bool
test e = same (answer_of (reading small e.job)).0 e.answer

-- the same of every entry of a table
unfoldable pub test_all : List Entry → Bool
test_all [] = true
test_all (e ∷ l) = test e && test_all l

abbrev pub Every : (Entry → Type 0) → List Entry → Type 0
Every P [] = Unit {0}
Every P (e ∷ l) = P e × Every P l
