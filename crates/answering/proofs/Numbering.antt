-- The loop that numbers the vertices: each is its own number, so the first i numbers stand for the first i vertices.
use Prim.Native.Nat.{ℕ, ◌+◌, ◌<◌}
use native.Mathlib.Nat.{mod-eq_of_lt}
use native.Mathlib.Numerals.{add-one}
use native.Mathlib.Omega.{arith}
use mathlib.Core.Path.{◌≡◌, refl, ap, ap₂, ◌∙◌, sym}
use mathlib.Core.List.{List, [], ◌∷◌, ◌++◌, map, map-append}
use lib.ListN.{length, take, set, length-set}
use lib.Seq.{take-suc-set}
use Rattle.format.specs.Simplex.{Simplex, vertex_list}
use Rattle.keys.specs.Number.{digit, digits_of}
use Rattle.lookup.specs.Numbered.{simplices_in}
use Rattle.lookup.specs.NumberedLaws.{none_in}

pub record Numbering (keys₀ keys : List ℕ) (i : ℕ) : Type 0 where
  pub listed : simplices_in 1 keys i ≡ vertex_list i
  pub long : length keys ≡ length keys₀

pub numbering_start : (keys : List ℕ) → Numbering keys keys 0
unfolding vertex_list
numbering_start keys = record { listed = none_in 1 keys; long = refl }

pub numbering-on : {keys₀ keys : List ℕ} {i : ℕ} → Numbering keys₀ keys i → i < length keys₀ → i < digit → Numbering keys₀ (set keys i i) (i + 1)
unfolding simplices_in vertex_list digits_of
numbering-on {keys₀} {keys} {i} a room below = record {
  listed =
      ap (λ (n : ℕ). map (digits_of 1) (take n (set keys i i))) (add-one i)
      ∙ ap (map (digits_of 1)) (take-suc-set keys i i (omega (arith, a.long)))
      ∙ map-append (digits_of 1) (take i keys) (i ∷ [])
      ∙ ap₂ (λ (l : List Simplex) (n : ℕ). l ++ ((n ∷ []) ∷ [])) a.listed (mod-eq_of_lt below)
      ∙ ap vertex_list (sym (add-one i));
  long = length-set keys i i ∙ a.long;
}
