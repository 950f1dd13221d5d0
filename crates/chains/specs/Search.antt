-- What the search for a smallest chain (proofs/Search) comes to.
use Rattle.std.specs.Prelude.{◌⊎◌}
use Rattle.chains.specs.Chain.{Chain, Smallest}

-- The outcome of a search: the smallest chain with the property, or that no chain has it.
abbrev pub Found : (Chain → Type 0) → Type 0
Found Has = ((s : Chain) × Smallest Has s) ⊎ ((c : Chain) → Has c → ⊥)
