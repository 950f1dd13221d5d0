-- Rule 8 over the items that were taken: where none lacks a facet it owes, what was told when they were taken stands, and the
-- first that does is refused at its own place. So the rule may wait until all of them are taken.
use Prim.Native.Nat.{ℕ, zero, suc, ◌+◌, ◌*◌, ◌≤◌, ◌<◌}
use native.Mathlib.Nat.{mul-zero, mul-suc}
use native.Mathlib.Omega.{arith}
use mathlib.Core.Path.{◌≡◌, refl, sym, ap, ◌∙◌, subst}
use mathlib.Core.Bool.{Bool, true, false, not, cond, ◌||◌, false≢true}
use mathlib.Core.List.{List, [], ◌∷◌, ◌++◌}
use lib.ListN.{length, get_or}
use lib.Dec.{leb}
use borrow.Author.Tests.{le-leb, lt-leb, leb-false}
use Rattle.format.specs.Simplex.{Simplex, sound_simplex, same, listed, all_listed, facets}
use Rattle.format.specs.Listed.{same-equal}
use Rattle.format.specs.Reading.{Reading, refused, refuse_if, owed_facets}
use Rattle.format.specs.Sound.{AllSound}
use Rattle.reading_lists.specs.Items.{lack_of, faces_judged}
use Rattle.reading_lists.proofs.Faced.{faced-sound}

-- what rule 8 asks of an edge is nothing, and of the others each facet
pub edge-owes-none : (width : ℕ) (s : Simplex) (faces : List Simplex) → width ≤ 2 → all_listed (owed_facets width s) faces ≡ true
unfolding all_listed
edge-owes-none width s faces edge = rw (le-leb width 2 edge)

pub others-owe : (width : ℕ) (s : Simplex) (faces : List Simplex) (b : Bool) → 2 < width → all_listed (facets s) faces ≡ b
    → all_listed (owed_facets width s) faces ≡ b
others-owe width s faces b wide e = rw (lt-leb width 2 wide, e)

module _ (width v : ℕ) (faces : List Simplex) where
  -- an item none of whose owed facets is missing
  abbrev pub Paid : Simplex → Type 0
  Paid s = all_listed (owed_facets width s) faces ≡ true

  -- rule 8 refuses none of the items, or the first that lacks a facet
  pub faces-listed : (at : ℕ) (l : List Simplex) (behind : Reading (List Simplex)) → ((i : ℕ) → i < length l → Paid (get_or l i []))
      → faces_judged width v faces at l behind ≡ behind
  unfolding faces_judged
  faces-listed at [] behind paid = refl
  faces-listed at (s ∷ l) behind paid =
      let first : Paid s = paid 0 (omega arith) in
      rw first (faces-listed (at + width) l behind (λ i lt. paid (suc i) (omega arith)))

  pub first-lacks : (at : ℕ) (l : List Simplex) (behind : Reading (List Simplex)) (r : ℕ) → r < length l
      → ((i : ℕ) → i < r → Paid (get_or l i [])) → all_listed (owed_facets width (get_or l r [])) faces ≡ false
      → faces_judged width v faces at l behind ≡ refused (lack_of v (get_or l r [])) (at + width * r)
  unfolding faces_judged
  first-lacks at [] behind r lt paid lacks = absurd (omega arith)
  first-lacks at (s ∷ l) behind zero lt paid lacks =
      let place : at ≡ at + width * 0 = omega (arith, mul-zero width) in
      rw lacks (ap (refused (lack_of v s)) place)
  first-lacks at (s ∷ l) behind (suc r) lt paid lacks =
      let first : Paid s = paid 0 (omega arith) in
      let place : at + width + width * r ≡ at + width * suc r = omega (arith, mul-suc width r) in
      rw first (first-lacks (at + width) l behind r (omega arith) (λ i lt. paid (suc i) (omega arith)) lacks ∙ ap (refused (lack_of v (get_or l r []))) place)

  -- an item more is judged behind the others, at its own place
  pub faces-more : (at : ℕ) (l : List Simplex) (s : Simplex) (behind : Reading (List Simplex))
      → faces_judged width v faces at (l ++ (s ∷ [])) behind
      ≡ faces_judged width v faces at l (refuse_if (not (all_listed (owed_facets width s) faces)) (lack_of v s) (at + width * length l) behind)
  unfolding faces_judged
  faces-more at [] s behind =
      let place : at ≡ at + width * 0 = omega (arith, mul-zero width) in
      ap (λ (a : ℕ). refuse_if (not (all_listed (owed_facets width s) faces)) (lack_of v s) a behind) place
  faces-more at (t ∷ l) s behind =
      let place : at + width + width * length l ≡ at + width * suc (length l) = omega (arith, mul-suc width (length l)) in
      ap (refuse_if (not (all_listed (owed_facets width t) faces)) (lack_of v t) at)
      (faces-more (at + width) l s behind
      ∙ ap (λ (a : ℕ). faces_judged width v faces (at + width) l (refuse_if (not (all_listed (owed_facets width s) faces)) (lack_of v s) a behind)) place)

  -- what stands behind the items matters only where none of them lacks a facet
  pub faces-same : (at : ℕ) (l : List Simplex) (behind other : Reading (List Simplex))
      → (((f : Simplex) → listed f l ≡ true → Paid f) → behind ≡ other) → faces_judged width v faces at l behind ≡ faces_judged width v faces at l other
  unfolding faces_judged listed
  faces-same at [] behind other h = h (λ f e. absurd (false≢true e))
  faces-same at (t ∷ l) behind other h = go (all_listed (owed_facets width t) faces) refl (faces-same (at + width) l behind other)
    where
      among : Paid t → ((f : Simplex) → listed f l ≡ true → Paid f) → (f : Simplex) (x : Bool) → same f t ≡ x → x || listed f l ≡ true → Paid f
      among p rest f true q e = subst Paid (sym (same-equal f t q)) p
      among p rest f false q e = rest f e

      go : (x : Bool) → all_listed (owed_facets width t) faces ≡ x
          → ((((f : Simplex) → listed f l ≡ true → Paid f) → behind ≡ other)
          → faces_judged width v faces (at + width) l behind ≡ faces_judged width v faces (at + width) l other)
          → faces_judged width v faces at (t ∷ l) behind ≡ faces_judged width v faces at (t ∷ l) other
      go true p later = rw p (later (λ rest. h (λ f e. among p rest f (same f t) refl e)))
      go false p later = rw p

  -- an item like one of which no facet is missing is sound, where the faces are
  pub paid-sound : AllSound v faces → (s : Simplex) → length s ≡ width → leb width 2 ≡ false → Paid s → sound_simplex v s ≡ true
  paid-sound sound s size wide p =
      let listed-all : all_listed (facets s) faces ≡ true = subst (λ (b : Bool). all_listed (cond b [] (facets s)) faces ≡ true) wide p in
      faced-sound v faces sound s (omega (arith, size, leb-false width 2 wide)) listed-all
