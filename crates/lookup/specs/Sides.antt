-- A simplex by its facets: their ranks are the digits of one number, its sides, in dictionary order, so that the facet
-- without the last vertex is the lowest digit. An edge's own number is its sides, since vertices rank by number.
use Rattle.std.specs.Prelude.{ℕ, suc, ◌/◌, ◌%◌, ◌<◌, ◌≡◌, true, false, Option, Some, None, Result, Ok, Err, List, [], length, get_or}
use Rattle.format.specs.Simplex.{Simplex, ranked, rank, facets, all_listed}
use Rattle.format.specs.Reading.{without}
use Rattle.keys.specs.Number.{digit}

-- the lowest digits of k are the ranks of the facets of s that leave out one of the first `left` vertices
pub data Sides (faces : List Simplex) (s : Simplex) : (left k : ℕ) → Type 0 where
  none : {k : ℕ} → Sides faces s 0 k
  more : {left k : ℕ} → rank (without left s) faces ≡ ranked (k % digit) → Sides faces s left (k / digit) → Sides faces s (suc left) k

-- the first n numbers are the sides of a list's simplices, by rank
pub record Sided (faces l : List Simplex) (sides : List ℕ) (n : ℕ) : Type 0 where
  pub own : (i : ℕ) → i < n → Sides faces (get_or l i []) (length (get_or l i [])) (get_or sides i 0)

-- what looking up the facets of s comes to: all are listed and their ranks are its sides, or one is not
abbrev pub FacetsTold : List Simplex → Simplex → Option ℕ → Type 0
FacetsTold faces s (Some k) = (all_listed (facets s) faces ≡ true) × Sides faces s (length s) k
FacetsTold faces s None = all_listed (facets s) faces ≡ false

-- the first r simplices of a list have all of their facets listed, and their sides found
pub record SidesUpTo (faces l : List Simplex) (sides : List ℕ) (r : ℕ) : Type 0 where
  pub listed : (i : ℕ) → i < r → all_listed (facets (get_or l i [])) faces ≡ true
  pub sided : Sided faces l sides r

-- what looking up the facets of a list's n simplices comes to: all have theirs, or the first that lacks one is told by its rank
abbrev pub SidesTold : (faces l : List Simplex) → List ℕ → ℕ → Result (Unit {0}) ℕ → Type 0
SidesTold faces l sides n (Ok done) = SidesUpTo faces l sides n
SidesTold faces l sides n (Err r) = (r < n) × SidesUpTo faces l sides r × (all_listed (facets (get_or l r [])) faces ≡ false)
