-- The code's head, and its answer about a head's payload, as the definitions have them.
use Rattle.std.specs.Prelude.{ℕ, ◌≡◌, ◌⊎◌, List, Result}
use Rattle.std.proofs.Common.{Ok}
use Rattle.format.specs.Numbers.{small}
use Rattle.format.specs.Reading.{question_of, read_head}
use Rattle.format.specs.Reading as format
use Rattle.refusals.specs.Readings.{reading_of}
use Rattle.refusals.specs.declared.Refusal.{Refusal}
use Rattle.heads.specs.declared.Head.{Head}

abbrev pub head_of : Head → format.Head
head_of h = record { question = question_of h.question; d = h.d; v = h.v }

-- The payload's reading, and that a sound head asks one of the two questions, by its own number.
pub record HeadKnown (p : List ℕ) (r : Result Head Refusal) : Type 0 where
  pub reading : reading_of head_of r ≡ read_head small p
  pub asks : (h : Head) → r ≡ Ok h → (h.question ≡ 1) ⊎ (h.question ≡ 2)
