-- The highest side of a simplex, facet by facet from the last one on: above `top` the boundary is what is left of it, and at
-- `top` it is not, since one facet that was passed stands there, and no other facet does.
use Prim.Native.Nat.{ℕ, ◌-◌, ◌/◌, ◌%◌, ◌≤◌, ◌<◌, max}
use native.Mathlib.Omega.{arith}
use native.Mathlib.Decide.{dec_lt}
use mathlib.Core.Path.{◌≡◌, sym, ap, ◌∙◌, subst}
use mathlib.Core.Bool.{Bool, true, not}
use mathlib.Core.List.{List, []}
use lib.ListN.{length, get_or}
use Rattle.chains.specs.Chain.{Chain, differ, unit}
use Rattle.chains.specs.Boundary.{unit-here, unit-else}
use Rattle.format.specs.Simplex.{Simplex, rising_from, ranked, rank, simplex_boundary}
use Rattle.format.specs.Reading.{without}
use Rattle.format.specs.Listed.{rank-stands}
use Rattle.lookup.specs.Sides.{Sides}
use Rattle.lookup.specs.SidesLaws.{sides-last}
use Rattle.solver.specs.Columns.{HighestSide}
use Rattle.solver.proofs.Facets.{left_over, all_left, none_left, last-left, facets-differ}

-- `top` is the rank of a facet that was passed, and the highest of them
pub record Climbing (rows : List Simplex) (s : Simplex) (left sides top : ℕ) : Type 0 where
  pub sided : Sides rows s left sides
  pub facet : ℕ
  pub passed : left ≤ facet
  pub within : facet < length s
  pub own : rank (without facet s) rows ≡ ranked top
  pub once : simplex_boundary rows s top ≡ not (left_over rows s left top)
  pub above : (j : ℕ) → top < j → simplex_boundary rows s j ≡ left_over rows s left j

-- One facet, whose rank is the lowest digit of the sides.
module _ {rows : List Simplex} {s : Simplex} {left sides : ℕ} (some : 0 < left) (sided : Sides rows s left sides) where
  -- what is left at a place, by whether the facet stands there
  without-it : (j : ℕ) {b : Bool} → unit (sides % 65536) j ≡ b → left_over rows s left j ≡ differ b (left_over rows s (left - 1) j)
  without-it j e =
      ap (λ (c : Chain). c j) (last-left rows s left some (sides-last sided some).0)
      ∙ ap (λ (b : Bool). differ b (left_over rows s (left - 1) j)) e

  -- it is the highest so far
  to-facet : left ≤ length s → ((j : ℕ) → sides % 65536 ≤ j → simplex_boundary rows s j ≡ left_over rows s left j)
      → Climbing rows s (left - 1) (sides / 65536) (sides % 65536)
  to-facet within from = record {
    sided = (sides-last sided some).1;
    facet = left - 1;
    passed = omega arith;
    within = omega arith;
    own = (sides-last sided some).0;
    once = from (sides % 65536) (omega arith) ∙ without-it (sides % 65536) (unit-here (sides % 65536));
    above = λ j lt. from j (omega arith) ∙ without-it j (unit-else (sides % 65536) j (λ e. omega arith));
  }

  pub climbing-start : length s ≡ left → Climbing rows s (left - 1) (sides / 65536) (sides % 65536)
  climbing-start e = to-facet (omega (arith, e)) (λ j le. ap (λ (c : Chain). c j) (sym (all_left rows s left e)))

module _ {rows : List Simplex} {s : Simplex} {left sides top : ℕ} (a : Climbing rows s left sides top) where
  pub climbing-end : left ≤ 0 → HighestSide rows s top
  climbing-end none = record {
    below = (rank-stands _ rows top a.own).below;
    top = record {
      holds = a.once ∙ ap not (none_left rows s left none top);
      above = λ j lt. a.above j lt ∙ none_left rows s left none j;
    };
  }

  module _ (up : rising_from 0 s ≡ true) (some : 0 < left) where
    -- the facet at `top` is another one, since facets differ
    other_place : sides % 65536 ≡ top → ⊥
    other_place e =
        facets-differ s up (left - 1) a.facet (omega (arith, a.passed)) a.within
        (sym (rank-stands _ rows (sides % 65536) (sides-last a.sided some).0).here
        ∙ ap (λ (j : ℕ). get_or rows j []) e
        ∙ (rank-stands _ rows top a.own).here)

    stays : sides % 65536 ≤ top → Climbing rows s (left - 1) (sides / 65536) top
    stays le = record {
      sided = (sides-last a.sided some).1;
      facet = a.facet;
      passed = omega (arith, a.passed);
      within = a.within;
      own = a.own;
      once = a.once ∙ ap not (without-it some a.sided top (unit-else (sides % 65536) top other_place));
      above = λ j lt. a.above j lt ∙ without-it some a.sided j (unit-else (sides % 65536) j (λ e. omega arith));
    }

    pub climbing-on : {r : ℕ} → r ≡ max top (sides % 65536) → Climbing rows s (left - 1) (sides / 65536) r
    climbing-on {r} e = elim (dec_lt top (sides % 65536)) [
      | yes lt ↦
          let it : sides % 65536 ≡ r = omega arith in
          subst (Climbing rows s (left - 1) (sides / 65536)) it
          (to-facet some a.sided (omega (arith, a.passed, a.within)) (λ j le. a.above j (omega arith)))
      | no ge ↦
          let it : top ≡ r = omega arith in
          subst (Climbing rows s (left - 1) (sides / 65536)) it (stays (omega arith))
    ]
