-- What the loops as functions on chains (proofs/Run) speak of.
use Rattle.std.specs.Prelude.{ℕ, cond}
use Rattle.chains.specs.Chain.{Chain, unit}
use Rattle.echelon.specs.Echelon.{Echelon}

-- the slots R with c put into slot r
abbrev pub put : (ℕ → Chain) → ℕ → Chain → ℕ → Chain
put R r c = λ j. cond (unit r j) c (R j)

-- some slots after the first k columns
abbrev pub Slots : (ℕ → Chain) → ℕ → ℕ → ℕ → Type 0
Slots D n m k = (R : ℕ → Chain) × (W : ℕ → Chain) × Echelon D n m k R W
