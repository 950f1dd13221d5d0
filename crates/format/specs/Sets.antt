-- Demand 3 said about sets of simplices, with no matrix and no reduction: what a boundary, a filling and a class are,
-- which of two sets is smaller, and which record answers a job. That the promise says the same is proved in `Demands`.
use Rattle.std.specs.Prelude.{ℕ, ◌<◌, ◌≡◌, Bool, true, false, ◌&&◌, cond, List, [], ◌∷◌, ◌⊎◌, length, get_or}
use Rattle.chains.specs.Chain.{differ}
use Rattle.format.specs.Numbers.{answer_kind, rim_open, no_filling}
use Rattle.format.specs.Simplex.{Simplex, SimplexSet, facets, listed}
use Rattle.format.specs.Reading.{Job, Question, fill, class}
use Rattle.format.specs.Answer.{record_of, vertices_of, refusal_record, rows, cols}
use Rattle.format.specs.Sound.{Within}

-- "The empty chain is a chain."
abbrev pub no_simplex : SimplexSet
no_simplex s = false

infixl 65 ◌△◌
-- "A chain is a set of simplices of one dimension. Addition is symmetric difference."
abbrev pub ◌△◌ : SimplexSet → SimplexSet → SimplexSet
S △ T = λ s. differ (S s) (T s)

-- "Its facets are got by leaving out one vertex"; of a vertex nothing is left, and no simplex has no vertex
unfoldable pub is_facet : Simplex → Simplex → Bool
is_facet [] s = false
is_facet (a ∷ f) s = listed (a ∷ f) (facets s)

-- "The boundary of a simplex is the sum of its facets, that of a vertex is empty; the boundary of a chain is the sum
-- over its members": f is in it exactly when it is a facet of an odd number of the list's members that S holds.
unfoldable pub boundary_set : List Simplex → SimplexSet → SimplexSet
boundary_set [] S f = false
boundary_set (s ∷ l) S f = differ (S s && is_facet f s) (boundary_set l S f)

-- "Chain P is smaller than Q when they differ and the highest-ranked simplex of P+Q is in Q": it stands at place `rank`
-- of the list, "The place in a list, counted from 0, is the rank", and no simplex of P+Q stands above it.
pub record SmallerSet (l : List Simplex) (P Q : SimplexSet) : Type 0 where
  pub rank : ℕ
  pub stands : rank < length l
  pub in_sum : (P △ Q) (get_or l rank []) ≡ true
  pub in_q : Q (get_or l rank []) ≡ true
  pub highest : (i : ℕ) → rank < i → i < length l → (P △ Q) (get_or l i []) ≡ false

-- the smallest set with a property: it has it, and every other set that has it is larger
pub record SmallestSet (l : List Simplex) (Has : SimplexSet → Type 0) (S : SimplexSet) : Type 0 where
  pub has : Has S
  pub least : (T : SimplexSet) → Has T → (S ≡ T) ⊎ SmallerSet l S T

-- "the vertices (d+1 bytes) of each member in rising rank": the simplices of a list that S holds, in its order
unfoldable pub members_of : SimplexSet → List Simplex → List Simplex
members_of S [] = []
members_of S (s ∷ l) = cond (S s) (s ∷ members_of S l) (members_of S l)

-- "A chain: kind 16, payload d in one byte, then the vertices"
unfoldable pub set_record : ℕ → List Simplex → SimplexSet → List ℕ
set_record d l S = record_of answer_kind (d ∷ vertices_of (members_of S l))

-- a refusal's record, whatever its number and place
abbrev pub IsRefusal : List ℕ → Type 0
IsRefusal answer = (number : ℕ) × (place : ℕ) × (answer ≡ refusal_record number place)

-- Of a job, `rows j` lists the simplices of A's dimension and `cols j` those one dimension higher, after all edits.
module _ (j : Job) where
  -- Fill: "given a (d-1)-chain A, the smallest d-chain with boundary A"; a set of listed d-simplices that has it
  pub record FillsSet (S : SimplexSet) : Type 0 where
    pub within : Within S (cols j)
    pub bounds : boundary_set (cols j) S ≡ j.chain

  -- Class: "given a d-chain A, the smallest d-chain G for which G+A is the boundary of some (d+1)-chain"; a set that is such a G
  pub record InClassSet (G : SimplexSet) : Type 0 where
    pub within : Within G (rows j)
    pub by : SimplexSet
    pub by_within : Within by (cols j)
    pub bounds : G △ j.chain ≡ boundary_set (cols j) by

  -- the boundary of A is empty
  abbrev pub RimClosed : Type 0
  RimClosed = boundary_set (rows j) j.chain ≡ no_simplex

  -- "no d-chain has boundary A"
  abbrev pub NoneFills : Type 0
  NoneFills = (S : SimplexSet) → FillsSet S → ⊥

  -- THE ANSWER to a boundary question. 12: "fill, and the boundary of A is not empty"; 13: "fill, the boundary of A is
  -- empty, no d-chain has boundary A", else "the smallest d-chain with boundary A"
  pub data FillSetAnswer (answer : List ℕ) : Type 0 where
    refused_open : (RimClosed → ⊥) → answer ≡ refusal_record rim_open 0 → FillSetAnswer answer
    refused_unfilled : RimClosed → NoneFills → answer ≡ refusal_record no_filling 0 → FillSetAnswer answer
    filled_by : (S : SimplexSet) → SmallestSet (cols j) FillsSet S → answer ≡ set_record j.d (cols j) S → FillSetAnswer answer

  -- THE ANSWER to a class question: "the smallest d-chain G for which G+A is the boundary of some (d+1)-chain"
  pub record ClassSetAnswer (answer : List ℕ) : Type 0 where
    pub set : SimplexSet
    pub smallest : SmallestSet (rows j) InClassSet set
    pub is : answer ≡ set_record j.d (rows j) set

  abbrev pub SetAnswerTo : Question → List ℕ → Type 0
  SetAnswerTo fill answer = FillSetAnswer answer
  SetAnswerTo class answer = ClassSetAnswer answer
