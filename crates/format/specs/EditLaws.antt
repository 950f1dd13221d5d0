-- What the laws of the edits (proofs/EditLaws) speak of: an edit of one list.
use Prim.Native.Nat.{ℕ, ◌+◌, ◌≤◌, ◌<◌}
use Rattle.std.proofs.Math.Path.{◌≡◌}
use Rattle.std.specs.Prelude.{not, List, length, leb}
use Rattle.format.specs.Numbers.{stale, target}
use Rattle.format.specs.Simplex.{Simplex}
use Rattle.format.specs.Reading.{Reading, accepted, refuse_if, moved, list_kind_of, stands_at}

-- ONE LIST. An edit of it: 10 stale, then 11 target, else the list with one simplex moved.
unfoldable pub edited_list : (at seen new : ℕ) → Simplex → List Simplex → Reading (List Simplex)
edited_list at seen new s l =
    refuse_if (not (stands_at s seen l)) stale at
    (refuse_if (leb (length l) new) target at
    (accepted (moved seen new l)))

-- what is known of a list after an edit that was accepted
pub record MovedWithin (seen new : ℕ) (before after : List Simplex) : Type 0 where
  pub seen_below : seen < length before
  pub new_below : new < length before
  pub is : after ≡ moved seen new before

-- what is known of a payload that has the shape
pub record FitsEdit (p : List ℕ) : Type 0 where
  pub least : 2 ≤ list_kind_of p
  pub most : list_kind_of p ≤ 4
  pub long : length p ≡ 6 + list_kind_of p
