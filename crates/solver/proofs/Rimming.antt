-- The loop over the marked rows: the boundaries of those gone through are added up. The sum is a chain of the lower
-- list, so it is empty where no rank of that list is found in it.
use Prim.Native.Nat.{ℕ, ◌+◌, ◌*◌, ◌≤◌, ◌<◌}
use native.Mathlib.Omega.{arith}
use native.Mathlib.Numerals.{add-one}
use native.Mathlib.Decide.{dec_lt}
use mathlib.Core.Path.{◌≡◌, refl, sym, ap, ◌∙◌, subst, fun_ext}
use mathlib.Core.Bool.{Bool, true, false, true≢false, false≢true}
use mathlib.Core.List.{List, []}
use lib.ListN.{length, get_or, replicate}
use Rattle.std.specs.Prelude.{Option, Some, None, is_none}
use Rattle.chains.specs.Chain.{◌⊕◌, only, boundary}
use Rattle.chains.specs.Sum.{sum-empty}
use Rattle.chains.specs.Boundary.{boundary-under}
use Rattle.format.specs.Simplex.{Simplex, columns}
use Rattle.format.specs.Matrix.{columns-under}
use Rattle.columns.specs.Column.{bit_at, chain_of}
use Rattle.columns.specs.Slot.{chain_r}
use Rattle.columns.specs.SlotLaws.{bit-half_r}
use Rattle.columns.specs.PairLaws.{half_r-zeros}
use Rattle.columns.specs.Search.{highest_below, HighestAt, highest-at, highest-nothing}
use Rattle.lists.specs.declared.Marks.{Marks}
use Rattle.solver.specs.Columns.{AddsBoundary}
use Rattle.solver.specs.Solved.{asked, rim_of, RimTold}
use Rattle.solver.proofs.Marking.{marked-below}

-- the first i rows were gone through
pub record Rimming (lower rows : List Simplex) (marks : Marks) (h i : ℕ) (cur : List ℕ) : Type 0 where
  pub whole : length cur ≡ 2 * h
  pub within : i ≤ length rows
  pub chain : chain_r h cur ≡ boundary (columns lower rows) i (asked rows marks)

module _ (lower rows : List Simplex) (marks : Marks) (h : ℕ) where
  pub rimming-start : (n : ℕ) (cur : List ℕ) → cur ≡ replicate n 0 → length cur ≡ 2 * h → Rimming lower rows marks h 0 cur
  unfolding boundary
  rimming-start n cur e whole = record { whole = whole; within = omega arith; chain = ap (chain_r h) e ∙ half_r-zeros h n }

  module _ {i : ℕ} {cur : List ℕ} (a : Rimming lower rows marks h i cur) where
    -- one row: its boundary is added where it is marked
    row_on : {after : List ℕ} (b : Bool) → i < length rows → get_or marks.on i false ≡ b → length after ≡ length cur
        → chain_r h after ≡ chain_r h cur ⊕ only b (columns lower rows i) → Rimming lower rows marks h (i + 1) after
    unfolding boundary
    row_on {after} b lt e long adds =
        subst (λ k. Rimming lower rows marks h k after) (sym (add-one i)) (
        record {
          whole = long ∙ a.whole;
          within = lt;
          chain =
              adds
              ∙ ap (λ c. c ⊕ only b (columns lower rows i)) a.chain
              ∙ ap (λ p. boundary (columns lower rows) i (asked rows marks) ⊕ only p (columns lower rows i))
              (sym (marked-below marks (length rows) i lt ∙ e));
        }
        )

    pub rimming-skip : {after : List ℕ} → i < length rows → get_or marks.on i false ≡ false → after ≡ cur
        → Rimming lower rows marks h (i + 1) after
    rimming-skip lt out same = row_on false lt out (ap length same) (ap (chain_r h) same ∙ sym (sum-empty (chain_r h cur)))

    pub rimming-add : {sum after : List ℕ} → i < length rows → get_or marks.on i false ≡ true
        → length lower ≤ 8 * h → AddsBoundary lower (get_or rows i []) cur sum → length sum ≡ length cur → after ≡ sum
        → Rimming lower rows marks h (i + 1) after
    rimming-add lt on small added long put =
        row_on true lt on (ap length put ∙ long) (ap (chain_r h) put ∙ added.adds h a.whole small)

    -- all rows were gone through, and the highest rank was asked for
    module _ (end : length rows ≤ i) (small : length lower ≤ 8 * h) {k : ℕ} (size : k ≡ length lower)
        {answer : Option ℕ} (searched : answer ≡ highest_below (chain_of cur) k) where
      rim-is : chain_r h cur ≡ rim_of lower rows marks
      rim-is =
          let e : i ≡ length rows = omega (arith, a.within) in
          a.chain ∙ ap (λ n. boundary (columns lower rows) n (asked rows marks)) e

      rim-bit : (j : ℕ) → j < k → rim_of lower rows marks j ≡ bit_at cur j
      rim-bit j lt = ap (λ c. c j) (sym rim-is) ∙ bit-half_r h cur j (omega (arith, size))

      rim-empty : answer ≡ None → RimTold lower rows marks true
      rim-empty none = record { is_closed = λ e. fun_ext λ j. go j (dec_lt j k); is_open = λ e. absurd (true≢false e) }
        where
          go : (j : ℕ) → Dec (j < k) → rim_of lower rows marks j ≡ false
          go j (yes lt) = rim-bit j lt ∙ highest-nothing (chain_of cur) k (sym searched ∙ none) j lt
          go j (no ge) =
              boundary-under (columns lower rows) (length rows) (length lower) (asked rows marks)
              (λ c l. columns-under lower rows c) j (omega (arith, size))

      rim-open : {r : ℕ} → answer ≡ Some r → RimTold lower rows marks false
      rim-open {r} found =
          let top : HighestAt (chain_of cur) k r = highest-at (chain_of cur) k r (sym searched ∙ found) in
          record {
            is_closed = λ e. absurd (false≢true e);
            is_open = λ e empty. true≢false (sym top.holds ∙ sym (rim-bit r top.below) ∙ ap (λ c. c r) empty);
          }

      -- it is told by whether a rank was found
      pub rim_told : {answered : Bool} → answered ≡ is_none answer → RimTold lower rows marks answered
      rim_told told = subst (RimTold lower rows marks) (sym told) (go answer refl)
        where
          go : (a : Option ℕ) → answer ≡ a → RimTold lower rows marks (is_none a)
          go None none = rim-empty none
          go (Some r) found = rim-open found
