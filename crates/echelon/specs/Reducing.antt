-- A reduction under way, with the columns collected. Its start and its turns are in proofs/Reducing.
use Rattle.std.specs.Prelude.{ℕ, ◌≡◌}
use Rattle.chains.specs.Chain.{Chain, ◌⊕◌, empty, unit, Under, boundary}
use Rattle.chains.specs.Smallest.{Free}
use Rattle.chains.specs.Homology.{Cycle}

-- The chain `start` was reduced down to row i, and `now` is left of it. In `cols`, which was `first` at the start, the
-- columns of the slots that were added were collected; the slots are made of the first k columns.
pub record Reducing (D : ℕ → Chain) (n k : ℕ) (start first : Chain) (i : ℕ) (now cols : Chain) : Type 0 where
  pub left : Under i now
  pub under : Under k (cols ⊕ first)
  pub free : Free (Cycle D n) (cols ⊕ first)
  pub bounds : boundary D n (cols ⊕ first) ≡ now ⊕ start

-- Column k is put in.
abbrev pub Inserting : (ℕ → Chain) → ℕ → ℕ → ℕ → Chain → Chain → Type 0
Inserting D n k i now cols = Reducing D n k (D k) (unit k) i now cols

-- The chain A is filled.
abbrev pub Filling : (ℕ → Chain) → ℕ → Chain → ℕ → Chain → Chain → Type 0
Filling D n A i now cols = Reducing D n n A empty i now cols
