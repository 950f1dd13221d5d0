-- Simplices, facets, lists and complexes.
use Rattle.std.specs.Prelude.{ℕ, zero, suc, Bool, true, false, ◌&&◌, ◌||◌, cond, List, [], ◌∷◌, ◌++◌, map, get_or, eqb, leb, ltb}
use Rattle.chains.specs.Chain.{Chain, ◌⊕◌, empty, unit}

-- "A simplex is 1 to 4 vertex numbers in strictly rising order; its dimension is one less than their count."
abbrev pub Simplex : Type 0
Simplex = List ℕ

-- "strictly rising": each number is above the one before it, and the first is at least `least`
unfoldable pub rising_from : ℕ → List ℕ → Bool
rising_from least [] = true
rising_from least (a ∷ s) = leb least a && rising_from (suc a) s

-- no "vertex not below v"
unfoldable pub all_below : ℕ → List ℕ → Bool
all_below v [] = true
all_below v (a ∷ s) = ltb a v && all_below v s

-- what rule 6 asks of a listed simplex
unfoldable pub sound_simplex : ℕ → Simplex → Bool
sound_simplex v s = rising_from 0 s && all_below v s

-- "Its facets are got by leaving out one vertex", here in dictionary order.
unfoldable pub facets : Simplex → List Simplex
facets [] = []
facets (a ∷ s) = map (◌∷◌ a) (facets s) ++ (s ∷ [])

-- the same vertices
unfoldable pub same : Simplex → Simplex → Bool
same [] [] = true
same [] (b ∷ t) = false
same (a ∷ s) [] = false
same (a ∷ s) (b ∷ t) = eqb a b && same s t

-- "The place in a list, counted from 0, is the rank": the first place, where the simplex is listed.
pub data Rank : Type 0 where
  ranked : ℕ → Rank
  unlisted : Rank

unfoldable pub rank_from : ℕ → Simplex → List Simplex → Rank
rank_from i s [] = unlisted
rank_from i s (t ∷ l) = cond (same s t) (ranked i) (rank_from (suc i) s l)

abbrev pub rank : Simplex → List Simplex → Rank
rank = rank_from 0

unfoldable pub listed : Simplex → List Simplex → Bool
listed s [] = false
listed s (t ∷ l) = same s t || listed s l

unfoldable pub all_listed : List Simplex → List Simplex → Bool
all_listed [] l = true
all_listed (s ∷ r) l = listed s l && all_listed r l

-- "vertices rank by number": 0 to v-1
unfoldable pub vertex_list : ℕ → List Simplex
vertex_list zero = []
vertex_list (suc n) = vertex_list n ++ ((n ∷ []) ∷ [])

-- "A complex has vertices 0 to v-1 and three lists: edges, triangles, tetrahedra."
pub record Complex : Type 0 where
  pub v : ℕ
  pub edges : List Simplex
  pub triangles : List Simplex
  pub tetrahedra : List Simplex

-- the simplices of one dimension, in rank order
unfoldable pub simplices : Complex → ℕ → List Simplex
simplices X zero = vertex_list X.v
simplices X (suc zero) = X.edges
simplices X (suc (suc zero)) = X.triangles
simplices X (suc (suc (suc zero))) = X.tetrahedra
simplices X (suc (suc (suc (suc k)))) = []

-- the list one dimension lower; below the vertices there is none
unfoldable pub lower : Complex → ℕ → List Simplex
lower X zero = []
lower X (suc k) = simplices X k

-- The chain of one simplex, by its rank in a list.
unfoldable pub at_rank : Rank → Chain
at_rank (ranked i) = unit i
at_rank unlisted = empty

-- the sum of the chains that simplices stand for
unfoldable pub sum_over : (Simplex → Chain) → List Simplex → Chain
sum_over chain [] = empty
sum_over chain (s ∷ l) = chain s ⊕ sum_over chain l

-- "The boundary of a simplex is the sum of its facets, that of a vertex is empty" (no list holds its facet).
abbrev pub simplex_boundary : List Simplex → Simplex → Chain
simplex_boundary rows s = sum_over (λ f. at_rank (rank f rows)) (facets s)

-- the boundaries of a list's simplices, by rank: the matrix that crate `chains` speaks of
abbrev pub columns : List Simplex → List Simplex → ℕ → Chain
columns rows cols i = simplex_boundary rows (get_or cols i [])

-- A set of simplices.
abbrev pub SimplexSet : Type 0
SimplexSet = Simplex → Bool

-- a set of simplices as a chain of a list
abbrev pub chain_in : List Simplex → SimplexSet → Chain
chain_in l A i = get_or (map A l) i false
