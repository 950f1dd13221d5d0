-- The facets of a simplex by the number of the vertex that each leaves out. Dictionary order leaves the last vertex out
-- first: why, a facet that keeps the first vertex comes before the one that leaves it out.
use Prim.Native.Nat.{ℕ, zero, suc, ◌-◌, ◌≤◌, ◌<◌}
use Rattle.std.proofs.Common.{not-suc-le-zero, sym, ap, ◌∙◌}
use native.Mathlib.Omega.{arith}
use Rattle.std.specs.Prelude.{◌≡◌, List, [], ◌∷◌, ◌++◌, map, true, false, ◌&&◌, length}
use Rattle.std.proofs.Math.Path.{refl}
use Rattle.std.proofs.lemmas.List.{map-append}
use Rattle.std.proofs.lemmas.Simd.{map-map}
use Rattle.format.specs.Simplex.{Simplex, facets, ranked, unlisted, rank, all_listed}
use Rattle.format.specs.Listed.{is_ranked, listed-ranked}
use Rattle.format.specs.Reading.{without}

-- the numbers below n, falling
unfoldable pub falling : ℕ → List ℕ
falling zero = []
falling (suc n) = n ∷ falling n

falling-up : (n : ℕ) → falling (suc n) ≡ map suc (falling n) ++ (0 ∷ [])
unfolding falling
falling-up zero = refl
falling-up (suc n) = ap (◌∷◌ (suc n)) (falling-up n)

-- the facets that leave out one of the first n vertices, the last of them first
abbrev pub facets_below : ℕ → Simplex → List Simplex
facets_below n s = map (λ (k : ℕ). without k s) (falling n)

pub facets-below : (s : Simplex) → facets s ≡ facets_below (length s) s
unfolding facets
facets-below [] = unfold falling in refl
facets-below (a ∷ s) =
    let leave : ℕ → Simplex = λ k. without k (a ∷ s) in
    let below : List ℕ = falling (length s) in
    ap (λ (l : List Simplex). map (◌∷◌ a) l ++ (s ∷ [])) (facets-below s) ∙
    ap (λ (l : List Simplex). l ++ (s ∷ [])) (map-map (◌∷◌ a) (λ (k : ℕ). without k s) below ∙ sym (map-map leave suc below)) ∙
    sym (map-append leave (map suc below) (0 ∷ [])) ∙ ap (map leave) (sym (falling-up (length s)))

-- Facet by facet, from n on downwards: one that has no rank among the faces is missing, one that has a rank leaves the
-- others to be judged.
module _ (s : Simplex) (faces : List Simplex) where
  judged-next : (n : ℕ) → 0 < n → all_listed (facets_below n s) faces ≡ (is_ranked (rank (without (n - 1) s) faces) && all_listed (facets_below (n - 1) s) faces)
  unfolding falling all_listed
  judged-next zero h = absurd (not-suc-le-zero h)
  judged-next (suc k) h =
      let last : suc k - 1 ≡ k = omega arith in
      rw (last, listed-ranked 0 (without k s) faces)

  pub facet-missing : (n : ℕ) → 0 < n → rank (without (n - 1) s) faces ≡ unlisted → all_listed (facets_below n s) faces ≡ false
  unfolding is_ranked
  facet-missing n h e = rw (judged-next n h, e)

  pub facet-found : (n i : ℕ) → 0 < n → rank (without (n - 1) s) faces ≡ ranked i → all_listed (facets_below n s) faces ≡ all_listed (facets_below (n - 1) s) faces
  unfolding is_ranked
  facet-found n i h e = rw (judged-next n h, e)

  pub facets-none : (n : ℕ) → n ≤ 0 → all_listed (facets_below n s) faces ≡ true
  unfolding falling all_listed
  facets-none zero h = refl
  facets-none (suc n) h = absurd (not-suc-le-zero h)
