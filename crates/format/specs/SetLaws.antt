-- What the theorems on sets and chains (proofs/SetLaws) speak of: the set of a chain.
use Rattle.std.specs.Prelude.{Bool, false, List}
use Rattle.chains.specs.Chain.{Chain}
use Rattle.format.specs.Simplex.{Simplex, SimplexSet, Rank, ranked, unlisted, rank}

-- THE SET OF A CHAIN: a simplex is in it whose rank the chain holds.
unfoldable pub held_at : Chain → Rank → Bool
held_at c (ranked i) = c i
held_at c unlisted = false

abbrev pub set_of : List Simplex → Chain → SimplexSet
set_of l c s = held_at c (rank s l)
