-- A simplex of three vertices or more whose facets are all listed is sound where the listed ones are: of any two neighbours one
-- facet holds both.
use Prim.Native.Nat.{ℕ, suc, ◌≤◌}
use native.Mathlib.Omega.{arith}
use mathlib.Core.Path.{◌≡◌, sym, ap, ◌∙◌}
use mathlib.Core.Bool.{true}
use mathlib.Core.List.{List, [], ◌∷◌, ◌++◌, map, map-append}
use lib.ListN.{length}
use lib.Dec.{leb, ltb}
use Rattle.format.specs.Simplex.{Simplex, rising_from, all_below, sound_simplex, facets, listed, all_listed}
use Rattle.format.specs.Listed.{and-true}
use Rattle.format.specs.Lookup.{all_listed-append}
use Rattle.format.specs.Sound.{AllSound}

module _ (faces : List Simplex) where
  parts : (r q : List Simplex) → all_listed (r ++ q) faces ≡ true → (all_listed r faces ≡ true) × (all_listed q faces ≡ true)
  parts r q e = and-true (all_listed r faces) (all_listed q faces) (sym (all_listed-append r q faces) ∙ e)

  last : (r : List Simplex) (s : Simplex) → all_listed (r ++ (s ∷ [])) faces ≡ true → listed s faces ≡ true
  unfolding all_listed
  last r s e = (and-true (listed s faces) true (parts r (s ∷ []) e).1).0

  -- the facets without the first and without the third vertex are among them
  without-first : (a : ℕ) (s : Simplex) → all_listed (facets (a ∷ s)) faces ≡ true → listed s faces ≡ true
  unfolding facets
  without-first a s e = last (map (◌∷◌ a) (facets s)) s e

  under : (a : ℕ) (r q : List Simplex) → all_listed (map (◌∷◌ a) (r ++ q)) faces ≡ true
      → (all_listed (map (◌∷◌ a) r) faces ≡ true) × (all_listed (map (◌∷◌ a) q) faces ≡ true)
  under a r q e =
      parts (map (◌∷◌ a) r) (map (◌∷◌ a) q) (ap (λ (l : List Simplex). all_listed l faces) (sym (map-append (◌∷◌ a) r q)) ∙ e)

  without-third : (a b c : ℕ) (r : Simplex) → all_listed (facets (a ∷ b ∷ c ∷ r)) faces ≡ true → listed (a ∷ b ∷ r) faces ≡ true
  unfolding facets all_listed
  without-third a b c r e =
      let others : List Simplex = map (◌∷◌ c) (facets r) in
      let with-a = (parts (map (◌∷◌ a) (facets (b ∷ c ∷ r))) ((b ∷ c ∷ r) ∷ []) e).0 in
      let with-b = (under a (map (◌∷◌ b) (facets (c ∷ r))) ((c ∷ r) ∷ []) with-a).0 in
      let apart : all_listed (map (◌∷◌ a) (map (◌∷◌ b) others ++ ((b ∷ r) ∷ []))) faces ≡ true =
      ap (λ (l : List Simplex). all_listed (map (◌∷◌ a) l) faces) (sym (map-append (◌∷◌ b) others (r ∷ []))) ∙ with-b in
      (and-true (listed (a ∷ b ∷ r) faces) true (under a (map (◌∷◌ b) others) ((b ∷ r) ∷ []) apart).1).0

pub faced-sound : (v : ℕ) (faces : List Simplex) → AllSound v faces → (s : Simplex) → 3 ≤ length s
    → all_listed (facets s) faces ≡ true → sound_simplex v s ≡ true
unfolding sound_simplex rising_from all_below
faced-sound v faces sound [] l e = absurd (omega arith)
faced-sound v faces sound (a ∷ []) l e = absurd (omega arith)
faced-sound v faces sound (a ∷ b ∷ []) l e = absurd (omega arith)
faced-sound v faces sound (a ∷ b ∷ c ∷ r) l e =
    let tail : (rising_from 0 (b ∷ c ∷ r) ≡ true) × (all_below v (b ∷ c ∷ r) ≡ true) =
    and-true (rising_from 0 (b ∷ c ∷ r)) (all_below v (b ∷ c ∷ r)) (sound (b ∷ c ∷ r) (without-first faces a (b ∷ c ∷ r) e)) in
    let front : (rising_from 0 (a ∷ b ∷ r) ≡ true) × (all_below v (a ∷ b ∷ r) ≡ true) =
    and-true (rising_from 0 (a ∷ b ∷ r)) (all_below v (a ∷ b ∷ r)) (sound (a ∷ b ∷ r) (without-third faces a b c r e)) in
    let from-a : (leb 0 a ≡ true) × (rising_from (suc a) (b ∷ r) ≡ true) = and-true (leb 0 a) (rising_from (suc a) (b ∷ r)) front.0 in
    let a-below-b : leb (suc a) b ≡ true = (and-true (leb (suc a) b) (rising_from (suc b) r) from-a.1).0 in
    let from-b : rising_from (suc b) (c ∷ r) ≡ true = (and-true (leb 0 b) (rising_from (suc b) (c ∷ r)) tail.0).1 in
    let a-below-v : ltb a v ≡ true = (and-true (ltb a v) (all_below v (b ∷ r)) front.1).0 in
    rw (from-a.0, a-below-b, from-b, a-below-v, tail.1)
