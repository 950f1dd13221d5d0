-- A column that is put into its slot. That the slots then make one column more is in proofs/Insert.
use Rattle.std.specs.Prelude.{ℕ, ◌<◌, ◌≡◌, ◌≢◌}
use Rattle.chains.specs.Chain.{Chain}

-- The slots S are the first m slots R with c put into slot r.
pub record Put (m : ℕ) (R : ℕ → Chain) (r : ℕ) (c : Chain) (S : ℕ → Chain) : Type 0 where
  pub here : S r ≡ c
  pub others : (j : ℕ) → j < m → j ≢ r → S j ≡ R j
