-- What a caller reads off the write call's result: it is taken apart. That nothing is lost is in proofs/Results.
use Rattle.std.specs.Prelude.{ℕ, ◌/◌, ◌%◌, ◌^◌, ◌≡◌}

-- the two numbers that a result holds
abbrev pub upper_of : ℕ → ℕ
upper_of result = result / 2 ^ 32

abbrev pub lower_of : ℕ → ℕ
lower_of result = result % 2 ^ 32

pub record Holds (result upper lower : ℕ) : Type 0 where
  pub above : upper_of result ≡ upper
  pub below : lower_of result ≡ lower
