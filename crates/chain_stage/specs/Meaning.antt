-- The stage's answers as the definitions' readings, and its marks as a set of simplices.
use Rattle.std.specs.Prelude.{ℕ, ◌+◌, ◌≡◌, List, Result}
use Rattle.std.proofs.Common.{Ok}
use Rattle.format.specs.Numbers.{small, header_bytes, chain_kind, walk_kind}
use Rattle.format.specs.Simplex.{SimplexSet, Complex, simplices}
use Rattle.format.specs.Reading.{Record, payload_at, read_chain}
use Rattle.format.specs.Marks.{Once}
use Rattle.refusals.specs.Readings.{reading_of}
use Rattle.refusals.specs.declared.Refusal.{Refusal}
use Rattle.complexes.specs.Meaning.{Marked}
use Rattle.chosen.specs.declared.ChainRecord.{ChainRecord}
use Rattle.chosen.specs.declared.ChainRecord.TheVariants.{Positions, Walk}
use Rattle.chain_stage.specs.declared.ChainStage.{ChainStage}

abbrev pub record_of_kind : ℕ → List ℕ → ℕ → ℕ → Record
record_of_kind kind b at size = record { kind = kind; payload = payload_at b at size; next = at + header_bytes + size }

-- a chain record or a walk of the right shape, as it stands in the file
abbrev pub chain_opened : List ℕ → ℕ → ChainRecord → Record
chain_opened b at (Positions size) = record_of_kind chain_kind b at size
chain_opened b at (Walk size) = record_of_kind walk_kind b at size

-- The stage's outcome: the set A that the record names, and where nothing is refused its members as marks by rank.
pub record ChainStageRead (b : List ℕ) (at dim : ℕ) (X : Complex) (r : Result ChainStage Refusal) : Type 0 where
  pub set : SimplexSet
  pub reading : read_chain small b at dim X ≡ reading_of (λ asked. record { chain = set; next = asked.next }) r
  pub marks : (asked : ChainStage) → r ≡ Ok asked → Once (simplices X dim) → Marked asked.marks.on (simplices X dim) set
