-- A list in memory is the numbers of its simplices, by rank. A number's digits are the vertices, so the numbers and their
-- width say what the simplices are.
use Rattle.std.specs.Prelude.{ℕ, List, map, take}
use Rattle.format.specs.Simplex.{Simplex}
use Rattle.keys.specs.Number.{digits_of}

-- the simplices of the first n numbers, of so many vertices each
unfoldable pub simplices_in : (width : ℕ) → List ℕ → ℕ → List Simplex
simplices_in width keys n = map (digits_of width) (take n keys)
