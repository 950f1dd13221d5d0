-- What a caller can read off an outcome: the write call's result taken apart, and a refusal's record. Why nothing is lost: a
-- refusal's number is 1 to 14, and places and lengths are no more than the longest job's.
use Rattle.std.specs.Prelude.{ℕ, ◌^◌, ◌≤◌, ◌<◌, ◌≡◌, List, length}
use Rattle.std.proofs.Common.{arith, subst}
use Rattle.format.specs.Numbers.{small, room}
use Rattle.format.specs.Reading.{Job, accepted, refused, reading, u16_at, u32_at}
use Rattle.format.specs.Answer.{refusal_record}
use Rattle.format.specs.Writing.{normal_form}
use Rattle.format.specs.Promise.{two_numbers, WrittenJob, too_short, written, Written, WritePromise}
use Rattle.format.specs.Sound.{small-consistent}
use Rattle.format.proofs.Rewritten.{written-fits}
use Rattle.format.proofs.Places.{reading-refused}
use Rattle.format.specs.Results.{Holds}

apart : (result upper lower : ℕ) → lower < 2 ^ 32 → result ≡ two_numbers upper lower → Holds result upper lower
apart result upper lower low e = record { above = omega arith; below = omega arith }

-- THE WRITE CALL. Whatever it leaves behind, the upper number is the refusal's, 1 to 11 or 14, and 0 only where the normal form
-- was written, whose length is then the lower one.
module _ (job out : List ℕ) (result : ℕ) (out' : List ℕ) (kept : WritePromise small job out result out') where
  pub refusal-told : (n p : ℕ) → reading small job ≡ refused n p → Holds result n p × (1 ≤ n) × (n ≤ 11)
  refusal-told n p e =
      let told = reading-refused small job n p e in
      let is : Written (refused n p) out result out' = subst (λ r. Written r out result out') e kept in
      (apart result n p (omega (arith, told.within)) is.0, told.least, told.most)

  module _ (j : Job) (read : reading small job ≡ accepted j) where
    is-written : WrittenJob j out result out'
    is-written = subst (λ r. Written r out result out') read kept

    pub short-told : length out < length (normal_form j) → Holds result room 0
    short-told short = go is-written
      where
        go : WrittenJob j out result out' → Holds result room 0
        go (too_short l e f) = apart result room 0 (omega arith) e
        go (written l e f) = absurd (omega arith)

    pub length-told : length (normal_form j) ≤ length out → Holds result 0 (length (normal_form j))
    length-told fits = go is-written
      where
        go : WrittenJob j out result out' → Holds result 0 (length (normal_form j))
        go (too_short l e f) = absurd (omega arith)
        go (written l e f) = apart result 0 (length (normal_form j)) (omega (arith, written-fits small small-consistent job j read)) e

-- A REFUSAL'S RECORD, read as document 01 lays it out: the number behind the header, and then the place.
pub refusal-read : (n p : ℕ) → n < 65536 → p < 4294967296 → (u16_at (refusal_record n p) 6 ≡ n) × (u32_at (refusal_record n p) 8 ≡ p)
unfolding refusal_record
refusal-read n p number place = (omega arith, omega arith)
