-- What the two public calls promise: for every job, every lent byte before, and every outcome.
use Rattle.std.specs.Prelude.{ℕ, ◌+◌, ◌*◌, ◌^◌, ◌≤◌, ◌<◌, ◌≡◌, ◌⊎◌, List, ◌++◌, length, drop, replicate}
use Rattle.format.specs.Numbers.{Limits, room}
use Rattle.format.specs.Reading.{Job, Reading, accepted, refused, reading}
use Rattle.format.specs.Answer.{Answered}
use Rattle.format.specs.Writing.{normal_form}

-- bytes written at the front of lent memory: "Output bytes past the record keep their values."
abbrev pub over : List ℕ → List ℕ → List ℕ
over written lent = written ++ drop (length written) lent

-- THE ANSWER CALL. 14: "fewer than 2,055 output bytes or 65,536 bytes of work memory are lent", and "none is written";
-- otherwise the one record is written over the front of the output, its length is returned, and "work memory may
-- hold anything before and is all zero after".
pub data AnswerPromise (L : Limits) (job out work : List ℕ) (count : ℕ) (out' work' : List ℕ) : Type 0 where
  no_room : (length out < L.out_bytes) ⊎ (length work < L.work_bytes) → count ≡ 0 → out' ≡ out → work' ≡ work → AnswerPromise L job out work count out' work'
  answered : L.out_bytes ≤ length out → L.work_bytes ≤ length work → (answer : List ℕ) → Answered (reading L job) answer →
      count ≡ length answer → out' ≡ over answer out → work' ≡ replicate (length work) 0 → AnswerPromise L job out work count out' work'

-- THE WRITE CALL. Its one result holds two numbers: the refusal's in the upper 32 bits, 0 where the job was written;
-- below it the length written, or the refusal's place.
abbrev pub two_numbers : ℕ → ℕ → ℕ
two_numbers upper lower = upper * 2 ^ 32 + lower

-- "after them 14, place 0, exactly when less output is lent than the normal form's length", else the normal form
pub data WrittenJob (j : Job) (out : List ℕ) (result : ℕ) (out' : List ℕ) : Type 0 where
  too_short : length out < length (normal_form j) → result ≡ two_numbers room 0 → out' ≡ out → WrittenJob j out result out'
  written : length (normal_form j) ≤ length out → result ≡ two_numbers 0 (length (normal_form j)) → out' ≡ over (normal_form j) out → WrittenJob j out result out'

-- "1 to 11 as above", "and a refusal writes nothing"
abbrev pub Written : Reading Job → (out : List ℕ) (result : ℕ) (out' : List ℕ) → Type 0
Written (accepted j) out result out' = WrittenJob j out result out'
Written (refused number place) out result out' = (result ≡ two_numbers number place) × (out' ≡ out)

abbrev pub WritePromise : Limits → (job out : List ℕ) (result : ℕ) (out' : List ℕ) → Type 0
WritePromise L job = Written (reading L job)
