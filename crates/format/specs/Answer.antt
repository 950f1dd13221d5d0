-- The answer to a job: the smallest filling or the smallest chain of the class, as crate `chains` defines them over
-- the matrix of the job's lists, or refusal 12 or 13; and its record.
use Rattle.std.specs.Prelude.{ℕ, suc, ◌/◌, ◌%◌, ◌≡◌, cond, List, [], ◌∷◌, ◌++◌, length}
use Rattle.chains.specs.Chain.{Chain, empty, boundary, Fills, SmallestFilling, SmallestInClass}
use Rattle.format.specs.Numbers.{answer_kind, refusal_kind, rim_open, no_filling}
use Rattle.format.specs.Simplex.{Simplex, simplices, lower, columns, chain_in}
use Rattle.format.specs.Reading.{Job, Question, fill, class, Reading, accepted, refused, chain_dimension}

-- "all numbers little-endian"
abbrev pub u16_bytes : ℕ → List ℕ
u16_bytes n = n % 256 ∷ n / 256 % 256 ∷ []

abbrev pub u32_bytes : ℕ → List ℕ
u32_bytes n = u16_bytes (n % 65536) ++ u16_bytes (n / 65536)

-- "A record is a 4-byte length of its payload, a 2-byte kind, the payload."
abbrev pub record_of : ℕ → List ℕ → List ℕ
record_of kind payload = u32_bytes (length payload) ++ u16_bytes kind ++ payload

-- "A refusal: kind 17, payload the number in two bytes and the place in four, 12 bytes in all."
unfoldable pub refusal_record : ℕ → ℕ → List ℕ
refusal_record number place = record_of refusal_kind (u16_bytes number ++ u32_bytes place)

-- the members of a chain, "in rising rank": the simplices of a list at whose ranks it holds
unfoldable pub members_from : ℕ → Chain → List Simplex → List Simplex
members_from i c [] = []
members_from i c (s ∷ l) = cond (c i) (s ∷ members_from (suc i) c l) (members_from (suc i) c l)

abbrev pub members : Chain → List Simplex → List Simplex
members = members_from 0

unfoldable pub vertices_of : List Simplex → List ℕ
vertices_of [] = []
vertices_of (s ∷ l) = s ++ vertices_of l

-- "A chain: kind 16, payload d in one byte, then the vertices (d+1 bytes) of each member in rising rank"
unfoldable pub chain_record : ℕ → List Simplex → Chain → List ℕ
chain_record d l c = record_of answer_kind (d ∷ vertices_of (members c l))

-- A has the dimension of the rows, and the columns are one dimension higher: to fill, the columns are the d-simplices
-- and the answer is made of them; for a class, the rows are, and the answer is made of those.
module _ (j : Job) where
  abbrev pub row_dimension : ℕ
  row_dimension = chain_dimension j.question j.d

  abbrev pub rows : List Simplex
  rows = simplices j.complex row_dimension

  abbrev pub cols : List Simplex
  cols = simplices j.complex (suc row_dimension)

  -- the boundaries of the columns, and A, by ranks after all edits
  abbrev pub matrix : ℕ → Chain
  matrix = columns rows cols

  abbrev pub asked_chain : Chain
  asked_chain = chain_in rows j.chain

  -- the boundary of A
  abbrev pub rim : Chain
  rim = boundary (columns (lower j.complex row_dimension) rows) (length rows) asked_chain

  abbrev pub FillsJob : Chain → Type 0
  FillsJob = Fills matrix (length cols) asked_chain

  -- 12: "fill, and the boundary of A is not empty"; 13: "fill, the boundary of A is empty, no d-chain has boundary A"; else
  -- "the smallest d-chain with boundary A"
  pub data FillAnswer (answer : List ℕ) : Type 0 where
    open_rim : (rim ≡ empty → ⊥) → answer ≡ refusal_record rim_open 0 → FillAnswer answer
    unfilled : rim ≡ empty → ((c : Chain) → FillsJob c → ⊥) → answer ≡ refusal_record no_filling 0 → FillAnswer answer
    patch : rim ≡ empty → (c : Chain) → SmallestFilling matrix (length cols) asked_chain c → answer ≡ chain_record j.d cols c → FillAnswer answer

  -- "the smallest d-chain G for which G+A is the boundary of some (d+1)-chain"
  pub record ClassAnswer (answer : List ℕ) : Type 0 where
    pub chain : Chain
    pub smallest : SmallestInClass matrix (length cols) (length rows) asked_chain chain
    pub is : answer ≡ chain_record j.d rows chain

  abbrev pub AnswerTo : Question → List ℕ → Type 0
  AnswerTo fill answer = FillAnswer answer
  AnswerTo class answer = ClassAnswer answer

-- the answer record of a file that was read, or refused
abbrev pub Answered : Reading Job → List ℕ → Type 0
Answered (accepted j) answer = AnswerTo j j.question answer
Answered (refused number place) answer = answer ≡ refusal_record number place
