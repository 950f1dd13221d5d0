-- The items of a payload, one by one: while a whole item is left, it is the next, and then come those of the rest.
use Rattle.std.specs.Prelude.{ℕ, ◌≤◌, ◌<◌, ◌≡◌, List, [], ◌∷◌, length, take, drop}
use Rattle.std.proofs.Math.Nat.{div-eq_of_lt, div-eq-sub-div}
use Rattle.std.proofs.Math.Numerals.{add-one}
use Rattle.std.proofs.Math.ListN.{length-drop}
use Rattle.format.specs.Reading.{items, items_of}

module _ (width : ℕ) (p : List ℕ) where
  pub items-next : 0 < width → width ≤ length p → items_of width p ≡ take width p ∷ items_of width (drop width p)
  unfolding items
  items-next h enough = rw (div-eq-sub-div h enough, add-one, length-drop width p)

  pub items-none : length p < width → items_of width p ≡ []
  unfolding items
  items-none short = rw (div-eq_of_lt short)
