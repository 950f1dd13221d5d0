-- What has a filling has a closed rim. Why: on a sound complex every facet of a listed simplex is listed, so the boundary of a
-- boundary is empty.
use Rattle.std.specs.Prelude.{ℕ, zero, suc, ◌<◌, ◌≡◌, refl, true, ◌&&◌, ◌||◌, [], ◌∷◌, length, get_or, ltb}
use Rattle.std.proofs.Common.{sym, ◌∙◌, ap, arith, ltb-true}
use Rattle.std.proofs.Math.Bool.{or-true}
use Rattle.std.proofs.Math.Decide.{ℕ_discrete}
use Rattle.chains.specs.Chain.{Chain, empty, boundary}
use Rattle.format.specs.Numbers.{Limits}
use Rattle.format.specs.Simplex.{Simplex, Complex, sound_simplex, all_below, rising_from, facets, listed, all_listed, simplices, lower, vertex_list, columns}
use Rattle.format.specs.Reading.{Job}
use Rattle.format.specs.Answer.{row_dimension, rows, cols, rim, FillsJob}
use Rattle.format.specs.Listed.{and-true, same_refl}
use Rattle.format.specs.Lookup.{listed-append, stands-listed}
use Rattle.format.specs.Matrix.{Closed, closed-boundary}
use Rattle.format.specs.Sound.{SoundComplex, SoundJob}

-- a vertex below v is listed
vertex-listed : (v a : ℕ) → a < v → listed (a ∷ []) (vertex_list v) ≡ true
unfolding vertex_list listed
vertex-listed zero a h = absurd (omega arith)
vertex-listed (suc v) a h = listed-append (a ∷ []) (vertex_list v) ((v ∷ []) ∷ []) ∙ go (ℕ_discrete a v) (vertex-listed v a)
  where
    go : Dec (a ≡ v) → (a < v → listed (a ∷ []) (vertex_list v) ≡ true) → (listed (a ∷ []) (vertex_list v) || listed (a ∷ []) ((v ∷ []) ∷ [])) ≡ true
    go (yes e) ih = rw (e, same_refl (v ∷ []), or-true)
    go (no n) ih = rw (ih (omega arith))

-- an edge's facets are its two vertices
edge-closed : (v : ℕ) (s : Simplex) → length s ≡ 2 → sound_simplex v s ≡ true → all_listed (facets s) (vertex_list v) ≡ true
unfolding facets all_listed sound_simplex all_below
edge-closed v [] two sound = absurd (omega arith)
edge-closed v (a ∷ []) two sound = absurd (omega arith)
edge-closed v (a ∷ b ∷ []) two sound =
    let below = and-true (ltb a v) (ltb b v && true) (and-true (rising_from 0 (a ∷ b ∷ [])) (ltb a v && (ltb b v && true)) sound).1 in
    rw (vertex-listed v a (ltb-true a v below.0), vertex-listed v b (ltb-true b v (and-true (ltb b v) true below.1).0))
edge-closed v (a ∷ b ∷ c ∷ s) two sound = absurd (omega arith)

-- every facet of a listed simplex is listed, in each dimension
pub complex-closed : (L : Limits) (X : Complex) → SoundComplex L X → (k : ℕ) → Closed (simplices X k) (simplices X (suc k))
unfolding simplices
complex-closed L X sound zero i h =
    let here : listed (get_or X.edges i []) X.edges ≡ true = stands-listed (get_or X.edges i []) X.edges i (record { below = h; here = refl }) in
    edge-closed X.v (get_or X.edges i []) (sound.edges.wide _ here) (sound.edges.sound _ here)
complex-closed L X sound (suc zero) i h =
    sound.triangles.closed (get_or X.triangles i []) (stands-listed _ X.triangles i (record { below = h; here = refl }))
complex-closed L X sound (suc (suc zero)) i h =
    sound.tetrahedra.closed (get_or X.tetrahedra i []) (stands-listed _ X.tetrahedra i (record { below = h; here = refl }))
complex-closed L X sound (suc (suc (suc k))) i h = absurd (omega arith)

module _ (L : Limits) (j : Job) (sound : SoundJob L j) where
  pub job-closed : Closed (rows j) (cols j)
  job-closed = complex-closed L j.complex sound.complex (row_dimension j)

  -- what has a filling has a closed rim
  pub filled-closed : (c : Chain) → FillsJob j c → rim j ≡ empty
  filled-closed c f =
      ap (boundary (columns (lower j.complex (row_dimension j)) (rows j)) (length (rows j))) (sym f.bounds) ∙
      closed-boundary (lower j.complex (row_dimension j)) (rows j) (cols j) job-closed c
