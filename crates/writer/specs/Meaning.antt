-- The bytes that the writer puts out, piece by piece.
use Rattle.std.specs.Prelude.{ℕ, ◌+◌, ◌%◌, ◌≡◌, Bool, List, [], ◌∷◌, ◌++◌, map, length, take}
use Rattle.format.specs.Simplex.{Simplex}
use Rattle.format.specs.Numbers.{head_kind, edges_kind, triangles_kind, tetrahedra_kind, chain_kind}
use Rattle.format.specs.Answer.{u16_bytes, u32_bytes, record_of}
use Rattle.format.specs.Writing.{places_from, position_bytes}
use Rattle.heads.specs.declared.Head.{Head}
use Rattle.lists.specs.Meaning.{simplices_of}
use Rattle.complexes.specs.declared.Job.{Job}
use Rattle.writer.specs.Splice.{splice}

-- a vertex number as the byte that is written; below 256 it is the number itself
abbrev pub vertex_byte : ℕ → ℕ
vertex_byte a = a % 256

abbrev pub simplex_bytes : Simplex → List ℕ
simplex_bytes s = map vertex_byte s

unfoldable pub list_bytes : List Simplex → List ℕ
list_bytes [] = []
list_bytes (s ∷ l) = simplex_bytes s ++ list_bytes l

abbrev pub header_of_size : ℕ → ℕ → List ℕ
header_of_size kind size = u32_bytes size ++ u16_bytes kind

-- the positions of the first n marks that are on
abbrev pub mark_bytes : ℕ → List Bool → List ℕ
mark_bytes n on = position_bytes (places_from 0 (take n on))

-- bytes put out at a place, and the place behind them
pub record Put (before : List ℕ) (at : ℕ) (bytes : List ℕ) (after : List ℕ) (reached : ℕ) : Type 0 where
  pub lent : after ≡ splice before at bytes
  pub next : reached ≡ at + length bytes

-- the head's record: question, d, and v in two bytes
abbrev pub head_record : Head → List ℕ
head_record h = record_of head_kind (h.question ∷ h.d ∷ u16_bytes h.v)

-- the whole normal form, as the code has the job: A is the marks of the first n ranks
abbrev pub job_bytes : Job → ℕ → List ℕ
job_bytes j n =
    head_record j.head ++
    record_of edges_kind (list_bytes (simplices_of j.complex.edges)) ++
    record_of triangles_kind (list_bytes (simplices_of j.complex.triangles)) ++
    record_of tetrahedra_kind (list_bytes (simplices_of j.complex.tetrahedra)) ++
    record_of chain_kind (mark_bytes n j.marks.on)
