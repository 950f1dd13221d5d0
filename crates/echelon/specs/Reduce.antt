-- The reduction of one chain by slots. Its laws are in proofs/Reduce.
use Rattle.std.specs.Prelude.{ℕ, zero, suc, ◌<◌, ◌≡◌, false}
use Rattle.chains.specs.Chain.{Chain, ◌⊕◌, only}

-- what is left of c after the rows below r were gone through, with the slots R
unfoldable pub reduce : (ℕ → Chain) → ℕ → Chain → Chain
reduce R zero c = c
reduce R (suc r) c = reduce R r (c ⊕ only (c r) (R r))

-- no slot of the first m holds a row above its own
abbrev pub Low : ℕ → (ℕ → Chain) → Type 0
Low m R = (r j : ℕ) → r < m → r < j → R r j ≡ false
