-- Marks by rank, as the places that a chain record names and as the edges that a walk uses.
use Rattle.std.specs.Prelude.{ℕ, ◌+◌, ◌<◌, ◌≡◌, true, false, cond, List, [], length, get_or, ltb, Result}
use Rattle.std.proofs.Common.{Ok}
use Rattle.format.specs.Simplex.{Simplex, all_below}
use Rattle.format.specs.Reading.{rising_below, positions_of, read_steps, steps, edge_between, walk_chain}
use Rattle.format.specs.Marks.{among, Once}
use Rattle.refusals.specs.Readings.{reading_of}
use Rattle.refusals.specs.declared.Refusal.{Refusal}
use Rattle.lists.specs.declared.Marks.{Marks}

-- the positions of a payload, read: the reading is the definition's, and where none is refused the marks are the positions
pub record PositionsRead (p : List ℕ) (base count : ℕ) (r : Result Marks Refusal) : Type 0 where
  pub reading : rising_below count base 0 (positions_of p) ≡ reading_of (λ _. positions_of p) r
  pub below : (m : Marks) → r ≡ Ok m → all_below count (positions_of p) ≡ true
  pub marks : (m : Marks) → r ≡ Ok m → (i : ℕ) → get_or m.on i false ≡ among i (positions_of p)

-- the step from place i of a walk: to the next vertex, and from the last back to the first
abbrev pub step_at : List ℕ → ℕ → Simplex
step_at p i = edge_between (get_or p i 0) (cond (ltb (i + 1) (length p)) (get_or p (i + 1) 0) (get_or p 0 0))

-- a walk, read: where no step is refused the marks are the edges that some step uses
pub record WalkRead (p : List ℕ) (base : ℕ) (edges : List Simplex) (r : Result Marks Refusal) : Type 0 where
  pub reading : read_steps edges base (steps p) ≡ reading_of (λ _. steps p) r
  pub marks : (m : Marks) → r ≡ Ok m → Once edges → (i : ℕ) → i < length edges → get_or m.on i false ≡ walk_chain (steps p) (get_or edges i [])
