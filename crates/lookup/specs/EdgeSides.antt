-- "Vertices rank by number", so an edge's own number, of which they are the digits, is its sides.
use Rattle.std.specs.Prelude.{ℕ, ◌+◌, ◌*◌, ◌/◌, ◌%◌, ◌<◌, ◌≡◌, refl, true, List, [], ◌∷◌, length, get_or, ltb}
use Rattle.std.proofs.Common.{arith, sym, ap, ◌∙◌, ltb-true}
use Rattle.format.specs.Simplex.{Simplex, ranked, rank, vertex_list, sound_simplex, rising_from, all_below}
use Rattle.format.specs.Listed.{and-true}
use Rattle.format.specs.Lookup.{first-ranked, stands-listed}
use Rattle.format.specs.Sound.{SoundList}
use Rattle.format.specs.Vertices.{length-vertices, vertex-at}
use Rattle.keys.specs.Number.{digit, Digits, more, number-none, number_more}
use Rattle.lookup.specs.Indexed.{NumberOf, Keyed}
use Rattle.lookup.specs.Sides.{Sides, Sided}
use Rattle.lookup.specs.Sides as sides

-- the vertex that stands at place i is i
vertex-place : (v k i : ℕ) → i < v → get_or (vertex_list v) i [] ≡ k ∷ [] → i ≡ k
vertex-place v k i lt here = ap (λ (s : Simplex). get_or s 0 0) (sym (vertex-at v i lt) ∙ here)

vertex-ranked : (v k : ℕ) → k < v → rank (k ∷ []) (vertex_list v) ≡ ranked k
vertex-ranked v k lt =
    first-ranked (k ∷ []) (vertex_list v) k
    (record { below = omega (arith, length-vertices v); here = vertex-at v k lt })
    (λ j below here. omega (arith, vertex-place v k j (omega arith) here))

edge-sides : (v : ℕ) (s : Simplex) {k : ℕ} → length s ≡ 2 → sound_simplex v s ≡ true → NumberOf s k
    → Sides (vertex_list v) s (length s) k
unfolding sound_simplex all_below
edge-sides v [] two fit own = absurd (omega arith)
edge-sides v (a ∷ []) two fit own = absurd (omega arith)
edge-sides v (a ∷ b ∷ []) {k} two fit own = go own.digits
  where
    below : (ltb a v ≡ true) × (all_below v (b ∷ []) ≡ true)
    below = and-true (ltb a v) (all_below v (b ∷ [])) (and-true (rising_from 0 (a ∷ b ∷ [])) (all_below v (a ∷ b ∷ [])) fit).1

    go : Digits (a ∷ b ∷ []) → Sides (vertex_list v) (a ∷ b ∷ []) 2 k
    go (more p (more q d)) =
        let whole : k ≡ a + digit * (b + digit * 0) =
        own.is ∙ number_more a (b ∷ []) ∙ ap (λ (x : ℕ). a + digit * x) (number_more b [] ∙ ap (λ (x : ℕ). b + digit * x) number-none) in
        let low : a ≡ k % digit = omega arith in
        let rest : k / digit ≡ b = omega arith in
        let high : b ≡ k / digit % digit = let one : b ≡ b % digit = omega arith in one ∙ ap (λ (x : ℕ). x % digit) (sym rest) in
        sides.more (vertex-ranked v a (ltb-true a v below.0) ∙ ap ranked low)
        (sides.more (vertex-ranked v b (ltb-true b v (and-true (ltb b v) true below.1).0) ∙ ap ranked high) sides.none)
edge-sides v (a ∷ b ∷ e ∷ s) two fit own = absurd (omega arith)

pub edges-sided : {v : ℕ} {faces l : List Simplex} {keys : List ℕ} {n : ℕ} → SoundList 2 v faces l → Keyed l keys n
    → Sided (vertex_list v) l keys n
edges-sided {v} {l = l} sound keyed = record {
  own = λ i lt.
      let at = stands-listed (get_or l i []) l i (record { below = omega (arith, keyed.count); here = refl }) in
      edge-sides v (get_or l i []) (sound.wide (get_or l i []) at) (sound.sound (get_or l i []) at) (keyed.own i lt);
}
