-- "Vertices rank by number": the list of vertices, place by place.
use Rattle.std.specs.Prelude.{ℕ, zero, suc, ◌<◌, ◌≡◌, refl, [], ◌∷◌, ◌++◌, length, get_or}
use Rattle.std.proofs.Common.{◌∙◌, ap, arith, length-append}
use Rattle.std.proofs.Math.Decide.{dec_lt}
use Rattle.std.proofs.Math.ListN.{get_or-append}
use Rattle.std.proofs.lemmas.List.{get_or_at}
use Rattle.format.specs.Simplex.{vertex_list}

pub length-vertices : (v : ℕ) → length (vertex_list v) ≡ v
unfolding vertex_list
length-vertices zero = refl
length-vertices (suc v) = length-append (vertex_list v) ((v ∷ []) ∷ []) ∙ (omega (arith, length-vertices v))

-- the vertex of rank i is i
pub vertex-at : (v i : ℕ) → i < v → get_or (vertex_list v) i [] ≡ i ∷ []
unfolding vertex_list
vertex-at zero i h = absurd (omega arith)
vertex-at (suc v) i h = go (dec_lt i v) (vertex-at v i)
  where
    go : Dec (i < v) → (i < v → get_or (vertex_list v) i [] ≡ i ∷ []) → get_or (vertex_list v ++ ((v ∷ []) ∷ [])) i [] ≡ i ∷ []
    go (yes lt) ih = get_or-append (vertex_list v) ((v ∷ []) ∷ []) [] i (omega (arith, length-vertices v)) ∙ ih lt
    go (no ge) ih =
        let last : v ≡ i = omega arith in
        get_or_at (vertex_list v) (v ∷ []) [] [] i (length-vertices v ∙ last) ∙ ap (λ n. n ∷ []) last
