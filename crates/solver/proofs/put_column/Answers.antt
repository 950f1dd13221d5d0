-- `put_column` inserts the column by way of `cur` where the slot of its highest row is taken, and else writes it there.
-- Assumes nothing.
use Prim.Native.Nat.{ℕ, ◌+◌, ◌-◌, ◌*◌, ◌^◌, ◌≤◌, ◌<◌}
use mathlib.Core.Path.{◌≡◌, refl, ◌∙◌}
use mathlib.Core.List.{List, []}
use lib.ListN.{length, get_or, take, drop}
use native.Mathlib.Omega.{arith}
use Rattle.format.specs.Simplex.{Simplex}
use Rattle.columns.specs.SlotLaws.{slot-fits}
use Rattle.lookup.specs.Sides.{Sides}
use Rattle.solver.specs.Columns.{MatrixIn, HighestSide, HoldsColumn, WritesColumn}
use Rattle.solver.proofs.Adding.{column-sides}
use Rattle.solver.proofs.Loading.{length_part, part-stored, next-inserted, next-written, halves-fit}
use Rattle.solver.proofs.put_column.Goals.{After-highest_side-top}
use Rattle.solver.proofs.put_column.Goals as goal

-- what is known of the column once its highest row is
module _ (p : After-highest_side-top) where
  abbrev Matrix : Type 0
  Matrix = MatrixIn p.args.h p.args.matrix

  highest : (k : Matrix) → HighestSide k.rows (get_or k.high p.args.rank []) p.highest_side-top.result
  highest k =
      let lt = p.requires.rank_bound in
      p.highest_side-top.ensures k.rows _ (k.wide _ lt) k.some k.most (k.rising _ lt) (column-sides k lt)

  -- that row has a slot, and the slot its place among those that are taken
  row_low : p.highest_side-top.result < 8 * p.args.h
  row_low = omega (arith, (highest p.requires.matrix_in).below, p.requires.matrix_in.few_rows)

  row_listed : p.highest_side-top.result < length p.args.taken.now
  row_listed = omega (arith, (highest p.requires.matrix_in).below, p.requires.matrix_in.row_count, p.requires.rows_in_bounds)

  slot-within : p.highest_side-top.result * (2 * p.args.h) + 2 * p.args.h ≤ length p.args.work.now
  slot-within = slot-fits p.args.h _ (length p.args.work.now) row_low p.requires.h_in_bounds

  -- the rank is one of a column, and all ranks of columns are bits of the second half
  in-half : p.args.rank < 8 * p.args.h
  in-half = omega (arith, p.requires.rank_bound, p.requires.matrix_in.count, p.requires.matrix_in.few_columns)

  bits-low : 8 * p.args.h + 8 * p.args.h < 2 ^ 64
  bits-low =
      let some : 0 < p.args.h = omega (arith, in-half) in
      omega (arith, p.well_formed.0.0, halves-fit p.args.h (length p.args.work.now) some p.requires.h_in_bounds)

  -- a pair of columns that it was written over holds it
  holds-column : (k : Matrix) {before after : List ℕ}
      → ((rows : List Simplex) (s : Simplex) → length s ≡ p.args.matrix.width → 0 < p.args.matrix.width → p.args.matrix.width ≤ 4
      → Sides rows s p.args.matrix.width (get_or p.args.matrix.sides.now p.args.rank 0)
      → WritesColumn rows s (8 * p.args.h + p.args.rank) before after)
      → length before ≡ 2 * p.args.h
      → HoldsColumn p.args.h k.rows (get_or k.high p.args.rank []) p.args.rank after
  holds-column k written whole =
      let lt = p.requires.rank_bound in
      (written k.rows _ (k.wide _ lt) k.some k.most (column-sides k lt)).column _ _ whole k.few_rows in-half refl

  -- the part of the memory that is the slot of that row is a whole pair
  abbrev slot-size : ℕ
  slot-size =
      p.highest_side-top.result * (2 * p.args.h) + 2 * p.args.h - p.highest_side-top.result * (2 * p.args.h)

  same_size : slot-size ≡ 2 * p.args.h
  same_size = omega arith

  part-whole : length (take slot-size (drop (p.highest_side-top.result * (2 * p.args.h)) p.args.work.now))
      ≡ 2 * p.args.h
  part-whole =
      length_part p.args.h p.args.work.now p.highest_side-top.result _ same_size row_low p.requires.h_in_bounds

pub overflow_mul-own : goal.overflow_mul-own
overflow_mul-own c = omega (arith, bits-low c)

pub overflow_add-own : goal.overflow_add-own
overflow_add-own c = omega (arith, in-half c, bits-low c)

pub overflow_mul-from-else-taken-top : goal.overflow_mul-from-else-taken-top
overflow_mul-from-else-taken-top c = omega (arith, slot-within (goal.at.overflow_mul-from-else-taken-top c).After-highest_side-top)

pub overflow_add-to : goal.overflow_add-to
overflow_add-to c = omega (arith, slot-within (goal.at.overflow_add-to c).After-highest_side-top)

pub slice_bounds-write_column-end : goal.slice_bounds-write_column-end
slice_bounds-write_column-end c = slot-within (goal.at.slice_bounds-write_column-end c).After-highest_side-top

pub returns-then-taken-top : goal.returns-then-taken-top
returns-then-taken-top c = λ k.
    let p = (goal.at.returns-then-taken-top c).After-highest_side-top in
    next-inserted k.rows k.high (omega (arith, c.requires.rank_bound, k.count)) k.few_rows
    (holds-column p k c.write_column.ensures c.requires.cur_len) (highest p k) c.insert_column.ensures

pub returns-else-taken-top : goal.returns-else-taken-top
returns-else-taken-top c = λ k.
    let p = (goal.at.returns-else-taken-top c).After-highest_side-top in
    let whole = c.write_column-else-taken-top.auto.col ∙ part-whole p in
    next-written k.rows k.high (omega (arith, c.requires.rank_bound, k.count)) k.few_rows
    (holds-column p k c.write_column-else-taken-top.ensures (part-whole p)) (highest p k) c.requires.h_in_bounds whole
    (row_listed p) c.if-taken-top.false
    (part-stored c.args.h c.args.work.now c.highest_side-top.result _ (same_size p) c.write_column-else-taken-top.new.col whole)
