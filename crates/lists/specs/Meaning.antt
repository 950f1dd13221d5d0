-- The meaning of the structs and enums, for every contract of this crate and of the readers above it.
use Rattle.std.specs.Prelude.{ℕ, suc, Option, Some, None, List, [], map, take}
use Rattle.format.specs.Simplex.{Rank, ranked, unlisted}
use Rattle.format.specs.Simplex as format
use Rattle.lists.specs.declared.Simplex.{Simplex}
use Rattle.lists.specs.declared.SimplexList.{SimplexList}

-- what stands at a place outside an array of simplices
abbrev pub none : Simplex
none = record { vertices = []; dim = 0 }

-- "its dimension is one less than their count": the vertices that count, of the four places
abbrev pub vertices_of : Simplex → format.Simplex
vertices_of s = take (suc s.dim) s.vertices

-- the simplices that count, in the order of their ranks
abbrev pub simplices_of : SimplexList → List format.Simplex
simplices_of l = map vertices_of (take l.count l.items)

-- the place where a look-up found the simplex is its rank
abbrev pub rank_of : Option ℕ → Rank
rank_of (Some i) = ranked i
rank_of None = unlisted
