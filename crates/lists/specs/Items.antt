-- Laws of the simplices of a list, item by item. They hold since `simplices_of` reads each item by itself.
use Rattle.std.specs.Prelude.{ℕ, ◌+◌, ◌<◌, min, ◌≡◌, List, [], ◌∷◌, ◌++◌, map, length, take, set, get_or}
use Rattle.std.proofs.Common.{add-one, sym, ap, ◌∙◌, length-take, get_or-take, take-suc-set}
use Rattle.std.proofs.lemmas.List.{map-append, length-map}
use Rattle.std.proofs.Math.ListN.{get_or-map}
use Rattle.lists.specs.Meaning.{none, vertices_of, simplices_of}
use Rattle.lists.specs.declared.Simplex.{Simplex}
use Rattle.lists.specs.declared.SimplexList.{SimplexList}

-- The length of an array of structs, as `search` finds it: from the length of the same array in another form.
pub length-mapped : (X Y : Type 0) (f : X → Y) (l : List X) (n : ℕ) → length (map f l) ≡ n → length l ≡ n
length-mapped X Y f l n e = sym (length-map l f) ∙ e

module _ (l : SimplexList) where
  pub length-simplices : length (simplices_of l) ≡ min l.count (length l.items)
  length-simplices = length-map (take l.count l.items) vertices_of ∙ length-take l.count l.items

  -- a full array has as many as the count says, if it has so many
  pub counted : (n : ℕ) → length l.items ≡ 512 → n ≡ min l.count 512 → n ≡ length (simplices_of l)
  counted n full e = e ∙ rw (← full) (sym length-simplices)

  pub simplex-at : (i : ℕ) → i < l.count → get_or (simplices_of l) i (vertices_of none) ≡ vertices_of (get_or l.items i none)
  simplex-at i h =
      get_or-map vertices_of (take l.count l.items) i none ∙
      ap vertices_of (get_or-take l.count l.items i none h)

  -- an item that is written behind the others, and counted
  pub appended : (s : Simplex) → l.count < length l.items →
      simplices_of (record { items = set l.items l.count s; count = l.count + 1 }) ≡ simplices_of l ++ (vertices_of s ∷ [])
  appended s room =
      rw (add-one, take-suc-set l.items l.count s room)
      (map-append vertices_of (take l.count l.items) (s ∷ []))
