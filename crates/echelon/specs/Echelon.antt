-- The slots after some columns were put in, as a record of facts. What follows from them is in proofs/Echelon.
use Rattle.std.specs.Prelude.{ℕ, ◌<◌, ◌≡◌, false}
use Rattle.chains.specs.Chain.{Chain, empty, Under, boundary}
use Rattle.chains.specs.Smallest.{Free}
use Rattle.chains.specs.Homology.{Cycle}
use Rattle.echelon.specs.Reduce.{reduce, Low}

-- The slots after the first k of n columns of m rows were put in. Slot r holds a reduced column R r, whose highest row
-- is r, and in W r the columns of which it is the sum; document 001 calls the two matrices R and V.
pub record Echelon (D : ℕ → Chain) (n m k : ℕ) (R W : ℕ → Chain) : Type 0 where
  -- no slot holds a row above its own
  pub low : Low m R
  -- a slot that does not hold its own row is vacant
  pub vacant : (r : ℕ) → r < m → R r r ≡ false → R r ≡ empty
  pub under : (r : ℕ) → r < m → Under k (W r)
  pub sums : (r : ℕ) → r < m → boundary D n (W r) ≡ R r
  -- no column that a slot is made of is the highest of a cycle
  pub free : (r : ℕ) → r < m → Free (Cycle D n) (W r)
  -- nothing is left of a column that was put in
  pub complete : (i : ℕ) → i < k → reduce R m (D i) ≡ empty
