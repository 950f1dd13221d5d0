-- What the theorems on boundaries of sets (proofs/SetBoundary) speak of: two lists, one a dimension below the other.
use Rattle.std.specs.Prelude.{◌≡◌, true, List, []}
use Rattle.format.specs.Simplex.{Simplex, rising_from, listed}
use Rattle.format.specs.Marks.{Once}
use Rattle.format.specs.Sets.{is_facet}

-- What is known of two lists of a sound complex, one a dimension below the other.
pub record Layers (rows cols : List Simplex) : Type 0 where
  pub rows_once : Once rows
  pub cols_once : Once cols
  pub rising : (s : Simplex) → listed s cols ≡ true → rising_from 0 s ≡ true
  pub solid : (s : Simplex) → listed s rows ≡ true → s ≡ [] → ⊥
  pub closed : (s f : Simplex) → listed s cols ≡ true → is_facet f s ≡ true → listed f rows ≡ true
