-- A word is eight bytes of a column as one number, the first byte lowest, so that a search looks at 64 ranks at once.
use Rattle.std.specs.Prelude.{ℕ, ◌+◌, ◌*◌, ◌<◌, ◌≡◌, List}
use Rattle.columns.specs.Column.{bit, bit_at}

-- the word of the bytes from `at` on holds the same ranks as the column: its bit k is rank 8·at + k
pub record WordAt (col : List ℕ) (at word : ℕ) : Type 0 where
  pub holds : (k : ℕ) → k < 64 → bit word k ≡ bit_at col (8 * at + k)
