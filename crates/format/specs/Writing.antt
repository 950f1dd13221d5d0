-- The normal form: "kinds 1 to 5 only: lists as they stand after the edits, A as positions in them".
use Rattle.std.specs.Prelude.{ℕ, suc, Bool, true, false, List, [], ◌∷◌, ◌++◌, map}
use Rattle.format.specs.Numbers.{head_kind, edges_kind, triangles_kind, tetrahedra_kind, chain_kind}
use Rattle.format.specs.Reading.{Job, question_byte}
use Rattle.format.specs.Answer.{u16_bytes, record_of, vertices_of, rows}

-- the places of what is chosen, rising
unfoldable pub places_from : ℕ → List Bool → List ℕ
places_from i [] = []
places_from i (true ∷ marks) = i ∷ places_from (suc i) marks
places_from i (false ∷ marks) = places_from (suc i) marks

unfoldable pub position_bytes : List ℕ → List ℕ
position_bytes [] = []
position_bytes (p ∷ ps) = u16_bytes p ++ position_bytes ps

unfoldable pub normal_form : Job → List ℕ
normal_form j =
    record_of head_kind (question_byte j.question ∷ j.d ∷ u16_bytes j.complex.v) ++
    record_of edges_kind (vertices_of j.complex.edges) ++
    record_of triangles_kind (vertices_of j.complex.triangles) ++
    record_of tetrahedra_kind (vertices_of j.complex.tetrahedra) ++
    record_of chain_kind (position_bytes (places_from 0 (map j.chain (rows j))))
