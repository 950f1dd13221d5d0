-- Every file has its answer record, so the promises can be kept. Why: there are finitely many chains to look through,
-- and a class question's own chain lies in its class.
use Rattle.std.specs.Prelude.{ℕ, ◌<◌, ◌≡◌, refl, List, length}
use Rattle.std.proofs.Common.{inl, inr}
use Rattle.chains.specs.Chain.{Chain, empty, Under, boundary, SmallestInClass}
use Rattle.chains.specs.Sum.{under-empty}
use Rattle.chains.specs.Boundary.{boundary-under}
use Rattle.chains.proofs.Order.{top_of, same_or_not}
use Rattle.chains.specs.Search.{Found}
use Rattle.chains.proofs.Search.{search_all, found_same, filling_found, fills_or_not, smallest_in_class_exists}
use Rattle.format.specs.Numbers.{rim_open, no_filling}
use Rattle.format.specs.Simplex.{lower, columns, rank_from, at_rank, sum_over}
use Rattle.format.specs.Reading.{Job, Question, fill, class, Reading, accepted, refused}
use Rattle.format.specs.Answer.{row_dimension, rows, cols, matrix, asked_chain, rim, FillsJob, FillAnswer, open_rim, unfilled, patch, ClassAnswer, AnswerTo, Answered, chain_record, refusal_record, members_from, vertices_of}
use Rattle.format.specs.Matrix.{columns-under, chain-under}

module _ (j : Job) where
  -- the columns of the job's matrix are chains of its rows
  pub matrix-under : (i : ℕ) → i < length (cols j) → Under (length (rows j)) (matrix j i)
  matrix-under i _ = columns-under (rows j) (cols j) i

  pub asked-under : Under (length (rows j)) (asked_chain j)
  asked-under = chain-under (rows j) j.chain

  pub rim-under : Under (length (lower j.complex (row_dimension j))) (rim j)
  rim-under =
      boundary-under (columns (lower j.complex (row_dimension j)) (rows j)) (length (rows j))
      (length (lower j.complex (row_dimension j))) (asked_chain j)
      (λ i _. columns-under (lower j.complex (row_dimension j)) (rows j) i)

  -- whether the rim is closed can be told
  unfoldable pub rim_told : Dec (rim j ≡ empty)
  rim_told =
      same_or_not (length (lower j.complex (row_dimension j))) (rim j) empty rim-under
      (under-empty (length (lower j.complex (row_dimension j))))

  unfoldable pub filled : rim j ≡ empty → Found (FillsJob j) → (answer : List ℕ) × FillAnswer j answer
  filled closed (inl s) = (chain_record j.d (cols j) s.0, patch closed s.0 s.1 refl)
  filled closed (inr none) = (refusal_record no_filling 0, unfilled closed none refl)

  unfoldable pub fill_told : Dec (rim j ≡ empty) → (answer : List ℕ) × FillAnswer j answer
  fill_told (no gap) = (refusal_record rim_open 0, open_rim gap refl)
  fill_told (yes closed) =
      filled closed
      (filling_found (matrix j) (length (cols j)) (length (rows j)) matrix-under (asked_chain j) asked-under)

  unfoldable pub class_told : (answer : List ℕ) × ClassAnswer j answer
  class_told =
      let s : (s : Chain) × SmallestInClass (matrix j) (length (cols j)) (length (rows j)) (asked_chain j) s
      = smallest_in_class_exists (matrix j) (length (cols j)) (length (rows j)) matrix-under (asked_chain j) asked-under in
      (chain_record j.d (rows j) s.0, record { chain = s.0; smallest = s.1; is = refl })

  unfoldable pub answer_told : (q : Question) → (answer : List ℕ) × AnswerTo j q answer
  answer_told fill = fill_told rim_told
  answer_told class = class_told

-- The answer record of a file, read or refused, open to computation: who unfolds this unfolds all that it is made of.
unfoldable pub answer_of : (r : Reading Job) → (answer : List ℕ) × Answered r answer
unfolding
    answer_told
    fill_told
    filled
    class_told
    rim_told
    refusal_record
    chain_record
    members_from
    vertices_of
    rank_from
    at_rank
    sum_over
    lower
    boundary
    top_of
    same_or_not
    search_all
    found_same
    filling_found
    fills_or_not
    smallest_in_class_exists
answer_of (accepted j) = answer_told j j.question
answer_of (refused number place) = (refusal_record number place, refl)
