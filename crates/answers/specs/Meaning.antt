-- The members of a chain, as the bytes that are put out: those of the first simplices of a list.
use Rattle.std.specs.Prelude.{ℕ, List, ◌∷◌}
use Rattle.chains.specs.Chain.{Chain}
use Rattle.format.specs.Simplex.{Simplex}
use Rattle.format.specs.Numbers.{answer_kind}
use Rattle.format.specs.Answer.{members, record_of}
use Rattle.writer.specs.Meaning.{list_bytes}

abbrev pub member_bytes : Chain → List Simplex → List ℕ
member_bytes c l = list_bytes (members c l)

-- the record of a chain, as it is put out
abbrev pub chain_bytes : ℕ → Chain → List Simplex → List ℕ
chain_bytes d c l = record_of answer_kind (d ∷ member_bytes c l)
