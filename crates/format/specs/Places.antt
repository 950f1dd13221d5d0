-- What the theorems on refusals (proofs/Places) speak of: a number of 1 to 11 and a place within the file.
use Rattle.std.specs.Prelude.{ℕ, ◌≤◌, ◌≡◌}
use Rattle.format.specs.Reading.{Reading, refused}

-- what a refusal of a file may be: "1 to 11 as above", with a place up to k
pub record OfFile (k number place : ℕ) : Type 0 where
  pub least : 1 ≤ number
  pub most : number ≤ 11
  pub within : place ≤ k

-- every refusal of a reading is one
abbrev pub RefusedUpTo : ℕ → {A : Type 0} → Reading A → Type 0
RefusedUpTo k r = (n p : ℕ) → r ≡ refused n p → OfFile k n p
