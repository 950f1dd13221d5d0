-- The code's answer about a record's header, as the definitions' answer.
use Rattle.std.specs.Prelude.{ℕ, ◌<◌, ◌≡◌}
use Rattle.format.specs.Reading.{ended, broken, whole}
use Rattle.format.specs.Reading as format
use Rattle.records.specs.declared.Header.{Header}
use Rattle.records.specs.declared.Header.TheVariants.{Ended, Broken, Whole}

abbrev pub header_of : Header → format.Header
header_of Ended = ended
header_of Broken = broken
header_of (Whole kind size) = whole kind size

-- a number that was read: its value, and a bound that its bytes give it
pub record Reads (value bound r : ℕ) : Type 0 where
  pub is : r ≡ value
  pub below : r < bound
