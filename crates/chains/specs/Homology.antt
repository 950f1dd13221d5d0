-- What the theorems on fillings and classes (proofs/Homology) speak of: cycles and boundaries.
use Rattle.std.specs.Prelude.{ℕ, ◌≡◌}
use Rattle.chains.specs.Chain.{Chain, empty, Under, boundary}

-- a chain of the n columns whose boundary is empty
pub record Cycle (D : ℕ → Chain) (n : ℕ) (c : Chain) : Type 0 where
  pub under : Under n c
  pub closed : boundary D n c ≡ empty

-- "the boundary of some (d+1)-chain": b is the boundary of a chain of the n columns
pub record Bounds (D : ℕ → Chain) (n : ℕ) (b : Chain) : Type 0 where
  pub by : Chain
  pub by_under : Under n by
  pub bounds : boundary D n by ≡ b
