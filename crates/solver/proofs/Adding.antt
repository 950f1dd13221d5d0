-- The facets of a simplex are added one by one: what is in hand, together with the facets that are left, is always what was
-- in hand with all facets. Each facet turns its rank over, which is the lowest digit of the sides of those that are left.
use Prim.Native.Nat.{ℕ, ◌-◌, ◌*◌, ◌/◌, ◌%◌, ◌≤◌, ◌<◌}
use native.Mathlib.Omega.{arith}
use mathlib.Core.Path.{◌≡◌, refl, sym, ap, ◌∙◌, subst, fun_ext}
use mathlib.Core.List.{List, []}
use lib.ListN.{length, get_or}
use Rattle.chains.specs.Chain.{Chain, ◌⊕◌}
use Rattle.chains.specs.Sum.{sum-assoc, sum-empty}
use Rattle.format.specs.Simplex.{Simplex, simplex_boundary}
use Rattle.format.specs.Reading.{without}
use Rattle.format.specs.Listed.{rank-stands}
use Rattle.columns.specs.Column.{flipped}
use Rattle.columns.specs.ColumnLaws.{length-flipped}
use Rattle.columns.specs.Slot.{chain_r, chain_v}
use Rattle.columns.specs.PairLaws.{flipped-r, flipped-r-keeps}
use Rattle.lookup.specs.Sides.{Sides}
use Rattle.lookup.specs.SidesLaws.{sides-last}
use Rattle.solver.specs.declared.Matrix.{Matrix}
use Rattle.solver.specs.Columns.{MatrixIn, SidesWithin, AddsBoundary}
use Rattle.solver.proofs.Facets.{left_over, all_left, none_left, last-left}

-- EACH COLUMN of a matrix has its sides, so what is said of all simplices with these sides is said of it.
pub column-sides : {h i : ℕ} {matrix : Matrix} (k : MatrixIn h matrix) → i < matrix.columns
    → Sides k.rows (get_or k.high i []) matrix.width (get_or matrix.sides.now i 0)
column-sides {i = i} {matrix = matrix} k lt =
    subst (λ (w : ℕ). Sides k.rows (get_or k.high i []) w (get_or matrix.sides.now i 0)) (k.wide i lt) (k.sided.own i lt)

-- and they lie within every column that has room for all rows
pub column-within : {h i room : ℕ} {matrix : Matrix} (k : MatrixIn h matrix) → i < matrix.columns → 8 * h ≤ room
    → SidesWithin room matrix.width (get_or matrix.sides.now i 0)
column-within {i = i} k lt fits = record {
  rows = k.rows;
  simplex = get_or k.high i [];
  sized = k.wide i lt;
  some = k.some;
  sided = column-sides k lt;
  few = omega (arith, k.few_rows);
}

pub record Adding (rows : List Simplex) (s : Simplex) (start cur : List ℕ) (left sides : ℕ) : Type 0 where
  pub long : length cur ≡ length start
  pub sided : Sides rows s left sides
  pub rest : (h : ℕ) → length start ≡ 2 * h → length rows ≤ 8 * h
      → chain_r h cur ⊕ left_over rows s left ≡ chain_r h start ⊕ simplex_boundary rows s
  pub keeps : (h : ℕ) → length start ≡ 2 * h → length rows ≤ 8 * h → chain_v h cur ≡ chain_v h start

pub adding-start : (rows : List Simplex) (s : Simplex) (start : List ℕ) (left sides : ℕ) → length s ≡ left → Sides rows s left sides
    → Adding rows s start start left sides
adding-start rows s start left sides e sided = record {
  long = refl;
  sided = sided;
  rest = λ h long fits. ap (λ c. chain_r h start ⊕ c) (all_left rows s left e);
  keeps = λ h long fits. refl;
}

module _ {rows : List Simplex} {s : Simplex} {start cur : List ℕ} {left sides : ℕ} (a : Adding rows s start cur left sides) where
  pub adding-end : left ≤ 0 → AddsBoundary rows s start cur
  adding-end none = record {
    adds = λ h long fits.
        sym (sum-empty (chain_r h cur))
        ∙ ap (λ (c : Chain). chain_r h cur ⊕ c) (sym (fun_ext (none_left rows s left none)))
        ∙ a.rest h long fits;
    keeps = a.keeps;
  }

  -- One facet, whose rank is the lowest digit of the sides: what stands in hand after it is the chain before it with that
  -- rank turned over.
  module _ (some : 0 < left) where
    pub rank_below : sides % 65536 < length rows
    rank_below = (rank-stands (without (left - 1) s) rows (sides % 65536) (sides-last a.sided some).0).below

    pub adding-on : {after : List ℕ} → after ≡ flipped cur (sides % 65536) → Adding rows s start after (left - 1) (sides / 65536)
    adding-on {after} put = record {
      long = ap length put ∙ length-flipped cur (sides % 65536) ∙ a.long;
      sided = (sides-last a.sided some).1;
      rest = λ h whole fits.
          ap (λ (l : List ℕ). chain_r h l ⊕ left_over rows s (left - 1)) put
          ∙ ap (λ (c : Chain). c ⊕ left_over rows s (left - 1))
          (flipped-r h cur (a.long ∙ whole) (sides % 65536) (omega (arith, rank_below)))
          ∙ sum-assoc (chain_r h cur) _ _
          ∙ ap (λ (c : Chain). chain_r h cur ⊕ c) (sym (last-left rows s left some (sides-last a.sided some).0))
          ∙ a.rest h whole fits;
      keeps = λ h whole fits.
          ap (chain_v h) put
          ∙ flipped-r-keeps h cur (a.long ∙ whole) (sides % 65536) (omega (arith, rank_below))
          ∙ a.keeps h whole fits;
    }
