-- Moving an item place by place. Why it comes out right: one step towards the new place is one exchange of neighbours, which is
-- what moving one place further means.
use Prim.Native.Nat.{ℕ, suc, ◌≤◌, ◌<◌}
use native.Mathlib.Omega.{arith}
use mathlib.Core.Path.{◌≡◌, refl, sym, ap, ap₂, ◌∙◌}
use mathlib.Core.List.{List, [], ◌∷◌, ◌++◌, map}
use lib.ListN.{length, take, drop, get_or, length-map}
use lib.Seq.{length-take-le, drop-cons, append_snoc, get_or-append_seam}
use Rattle.std.specs.List.{swap}
use Rattle.std.proofs.lemmas.List.Edits.{swap_is}
use Rattle.format.specs.Reading.{without, moved}
use Rattle.format.specs.Moves.{length_without, moved_up, moved_down, length_moved, moved_out, take-moved, map-moved}
use Rattle.lists.specs.Meaning.{vertices_of, simplices_of}
use Rattle.lists.specs.Moved.{MovedList, MovedMarks}
use Rattle.lists.specs.declared.Simplex.{Simplex}
use Rattle.lists.specs.declared.SimplexList.{SimplexList}
use Rattle.lists.specs.declared.Marks.{Marks}

-- One step of a move: the item, at place i by now or at the next, changes places with its neighbour.
module _ {A : Type 0} (seen i next : ℕ) (one : next ≡ suc i) where
  pub step_up : (l m : List A) → m ≡ moved seen i l → seen < length l → next < length l → swap m i next ≡ moved seen next l
  step_up [] m e from room = absurd (omega arith)
  step_up (d ∷ l) m e from room =
      let long = length_moved seen i (d ∷ l) in
      rw (e, one)
      (sym (swap_is (moved seen i (d ∷ l)) i (suc i) d (omega (arith, long)) (omega (arith, long)))
      ∙ moved_up d seen i (d ∷ l) from (omega arith))

  pub step_down : (l m : List A) → m ≡ moved seen next l → seen < length l → next < length l → swap m next i ≡ moved seen i l
  step_down [] m e from room = absurd (omega arith)
  step_down (d ∷ l) m e from room =
      let long = length_moved seen (suc i) (d ∷ l) in
      rw (e, one)
      (sym (swap_is (moved seen (suc i) (d ∷ l)) (suc i) i d (omega (arith, long)) (omega (arith, long)))
      ∙ moved_down d seen i (d ∷ l) from (omega arith))

-- The moved item stands at its new place.
pub moved-there : {A : Type 0} (d : A) (seen new : ℕ) (l : List A) → seen < length l → new < length l → get_or (moved seen new l) new d ≡ get_or l seen d
unfolding moved
moved-there d seen new l from to =
    let others = without seen l in
    let front : length (take new others) ≡ new = length-take-le new others (omega (arith, length_without seen l from)) in
    rw (drop-cons l seen d, append_snoc)
    (ap (λ (k : ℕ). get_or (take new others ++ get_or l seen d ∷ drop new others) k d) (sym front)
    ∙ get_or-append_seam (take new others) (get_or l seen d) (drop new others) d)

-- The list of simplices with its items moved, or left as they are.
module _ (l : SimplexList) (n seen new : ℕ) (size : n ≡ length (simplices_of l)) where
  pub none-there : n ≤ seen → MovedList l l seen new
  none-there out =
      record {
        simplices = λ h. sym (moved_out seen new (simplices_of l) (omega arith));
        otherwise = λ h. refl;
        count = refl;
      }

  pub no_place : n ≤ new → MovedList l l seen new
  no_place out = record { simplices = λ h. absurd (omega arith); otherwise = λ h. refl; count = refl }

  pub moved-simplices : (r : SimplexList) → r.items ≡ moved seen new l.items → r.count ≡ l.count → seen < n → new < n → MovedList l r seen new
  moved-simplices r items count from to =
      record {
        simplices = λ h.
            ap₂ (λ (k : ℕ) (s : List Simplex). map vertices_of (take k s)) count items ∙
            ap (map vertices_of) (take-moved l.count seen new l.items (within seen from) (within new to)) ∙
            map-moved vertices_of seen new (take l.count l.items);
        otherwise = λ h. absurd (omega arith);
        count = count;
      }
    where
      within : (i : ℕ) → i < n → i < length (take l.count l.items)
      within i h = omega (arith, length-map (take l.count l.items) vertices_of)

-- The same of marks, of which there are as many as places.
module _ (m : Marks) (seen new : ℕ) (full : length m.on ≡ 512) where
  pub no-mark-there : 512 ≤ seen → MovedMarks m m seen new
  no-mark-there out =
      record {
        whole = λ h. sym (moved_out seen new m.on (omega arith));
        front = λ k fits from to. absurd (omega arith);
        otherwise = λ h. refl;
      }

  pub no-mark-place : 512 ≤ new → MovedMarks m m seen new
  no-mark-place out =
      record {
        whole = λ h. absurd (omega arith);
        front = λ k fits from to. absurd (omega arith);
        otherwise = λ h. refl;
      }

  pub moved_marks : (r : Marks) → r.on ≡ moved seen new m.on → new < 512 → MovedMarks m r seen new
  moved_marks r on to =
      record {
        whole = λ h. on;
        front = λ k fits from below.
            let size : length (take k m.on) ≡ k = length-take-le k m.on (omega arith) in
            ap (take k) on ∙ take-moved k seen new m.on (omega arith) (omega arith);
        otherwise = λ h. absurd (omega arith);
      }
