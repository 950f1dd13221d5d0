-- A list of simplices as an index: the first n keys are the simplices' own numbers, and crate `keys` chains them. A list
-- whose simplices have as many vertices each, none of them twice, is looked up by numbers alone.
use Rattle.std.specs.Prelude.{ℕ, suc, ◌≤◌, ◌<◌, ◌≡◌, List, [], length, get_or, set, replicate}
use Rattle.format.specs.Simplex.{Simplex}
use Rattle.format.specs.Marks.{Once}
use Rattle.keys.specs.Chained.{Chained, buckets}
use Rattle.keys.specs.Number.{number, Digits}

-- the simplices of a list have as many vertices each, and none stands twice
pub record Proper (width : ℕ) (l : List Simplex) : Type 0 where
  pub wide : (i : ℕ) → i < length l → length (get_or l i []) ≡ width
  pub once : Once l

-- k is the simplex's own number
pub record NumberOf (s : Simplex) (k : ℕ) : Type 0 where
  pub is : k ≡ number s
  pub digits : Digits s

-- the first n keys are the numbers of a list's simplices, by rank
pub record Keyed (l : List Simplex) (keys : List ℕ) (n : ℕ) : Type 0 where
  pub count : n ≡ length l
  pub own : (i : ℕ) → i < n → NumberOf (get_or l i []) (get_or keys i 0)

-- and they are chained, so that the list can be looked up
pub record Indexed (l : List Simplex) (keys first next : List ℕ) (n : ℕ) : Type 0 where
  pub chained : Chained keys first next n
  pub keyed : Keyed l keys n

-- links that chain nothing yet, with room for a whole list
pub record Blank (first next : List ℕ) : Type 0 where
  pub room : 512 ≤ length next
  pub none : first ≡ replicate buckets 0

-- what `enter` leaves: the simplex's number stands at n, and the first n + 1 keys are chained
pub record Entered (s : Simplex) (keys keys' first' next' : List ℕ) (n : ℕ) : Type 0 where
  pub put : keys' ≡ set keys n (number s)
  pub digits : Digits s
  pub chained : Chained keys' first' next' (suc n)
