-- A chain on its way to the smallest of its class. Where both questions end is in proofs/Answer.
use Rattle.std.specs.Prelude.{ℕ, ◌≡◌}
use Rattle.chains.specs.Chain.{Chain}
use Rattle.echelon.specs.Reduce.{reduce}

-- The chain A was reduced down to row i, and `now` is left: from here on the two have the same reduction.
pub record Classing (R : ℕ → Chain) (m : ℕ) (A : Chain) (i : ℕ) (now : Chain) : Type 0 where
  pub same : reduce R i now ≡ reduce R m A
