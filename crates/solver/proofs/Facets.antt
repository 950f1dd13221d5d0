-- What going through the facets of a simplex takes: the sum of those that are left, from which each step takes the last one,
-- and that no two facets of a simplex are the same.
use Prim.Native.Nat.{ℕ, zero, suc, ◌-◌, ◌≤◌, ◌<◌}
use native.Mathlib.Nat.{not-suc-le-zero}
use native.Mathlib.Omega.{arith}
use mathlib.Core.Path.{◌≡◌, sym, ap, ◌∙◌}
use mathlib.Core.Bool.{true, false}
use mathlib.Core.List.{List, [], ◌∷◌}
use lib.ListN.{length, get_or}
use lib.Dec.{leb}
use borrow.Author.Tests.{leb-true}
use Rattle.chains.specs.Chain.{Chain, ◌⊕◌, unit}
use Rattle.format.specs.Simplex.{Simplex, rising_from, ranked, rank, at_rank, sum_over, simplex_boundary}
use Rattle.format.specs.Reading.{without}
use Rattle.format.specs.Moves.{without-before, without-after}
use Rattle.format.specs.Listed.{and-true}
use Rattle.format.specs.Facets.{falling, facets_below, facets-below}

-- THE FACETS that are left, their sum.
abbrev pub left_over : List Simplex → Simplex → ℕ → Chain
left_over rows s left = sum_over (λ f. at_rank (rank f rows)) (facets_below left s)

module _ (rows : List Simplex) (s : Simplex) where
  pub all_left : (left : ℕ) → length s ≡ left → left_over rows s left ≡ simplex_boundary rows s
  all_left left e =
      ap (sum_over (λ f. at_rank (rank f rows))) (ap (λ n. facets_below n s) (sym e) ∙ sym (facets-below s))

  pub none_left : (left : ℕ) → left ≤ 0 → (j : ℕ) → left_over rows s left j ≡ false
  unfolding falling sum_over
  none_left left none j =
      let z : left ≡ 0 = omega arith in
      ap (λ n. left_over rows s n j) z

  -- the last of them, whose rank is i
  pub last-left : (left : ℕ) {i : ℕ} → 0 < left → rank (without (left - 1) s) rows ≡ ranked i
      → left_over rows s left ≡ unit i ⊕ left_over rows s (left - 1)
  unfolding falling sum_over at_rank
  last-left zero some own = absurd (not-suc-le-zero some)
  last-left (suc k) some own =
      let e : suc k - 1 ≡ k = omega arith in
      ap (λ j. at_rank (rank (without j s) rows) ⊕ left_over rows s j) (sym e)
      ∙ ap (λ r. at_rank r ⊕ left_over rows s (suc k - 1)) own

-- THE VERTICES RISE, so leaving out one of them is not leaving out another.
next-higher : (least : ℕ) (s : Simplex) → rising_from least s ≡ true → (j : ℕ) → suc j < length s → get_or s j 0 < get_or s (suc j) 0
unfolding rising_from
next-higher least [] up j lt = absurd (not-suc-le-zero lt)
next-higher least (a ∷ []) up j lt = absurd (omega arith)
next-higher least (a ∷ b ∷ s) up zero lt =
    let rest = (and-true (leb least a) (rising_from (suc a) (b ∷ s)) up).1 in
    leb-true (suc a) b (and-true (leb (suc a) b) (rising_from (suc b) s) rest).0
next-higher least (a ∷ b ∷ s) up (suc j) lt =
    next-higher (suc a) (b ∷ s) (and-true (leb least a) (rising_from (suc a) (b ∷ s)) up).1 j (omega arith)

pub facets-differ : (s : Simplex) → rising_from 0 s ≡ true → (j k : ℕ) → j < k → k < length s → without j s ≡ without k s → ⊥
facets-differ s up j k lt within same =
    let equal : get_or s (suc j) 0 ≡ get_or s j 0 =
    sym (without-after j s j 0 (omega arith)) ∙ ap (λ (f : Simplex). get_or f j 0) same ∙ without-before k s j 0 lt in
    let higher : get_or s j 0 < get_or s (suc j) 0 = next-higher 0 s up j (omega arith) in
    omega arith
