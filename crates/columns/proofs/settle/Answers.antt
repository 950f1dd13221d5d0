-- `settle` stops where the definition does: the search in the word finds the highest row that is held, the rows above it are
-- passed over, and its slot is added, to the pair and to the word, if it is taken (`Scanning`).
-- Assumes nothing.
use Prim.Native.Nat.{ℕ, ◌+◌, ◌*◌, ◌<◌, ◌≤◌}
use native.Mathlib.Omega.{arith}
use lib.ListN.{length}
use Rattle.columns.specs.SlotLaws.{slot-fits}
use Rattle.columns.proofs.Settling.{scanning-end, scanning-down, scanning-stop, scanning-add, scan-low, scan-row-below, bit_below}
use Rattle.columns.proofs.settle.Goals.{In-Some}
use Rattle.columns.proofs.settle.Goals as goal

pub returns-then-at-eq0 : goal.returns-then-at-eq0
returns-then-at-eq0 c =
    scanning-end c.loop-at.invariant c.highest_in.ensures c.in-None.is c.if-at-eq0.true

pub loop-at-preserved-in-None : goal.loop-at-preserved-in-None
loop-at-preserved-in-None c =
    scanning-down c.loop-at.invariant c.highest_in.ensures c.in-None.is c.if-at-eq0.false
    c.word_at-word-in-None.result
    c.word_at-word-in-None.ensures

-- the row that the search found
abbrev row : In-Some → ℕ
row c = c.loop-at.at * 8 + c.in-Some.bit

-- is one of those asked, and so one of the slots'
below : (c : In-Some) → row c < c.args.rows
below c =
    scan-row-below c.loop-at.invariant c.highest_in.ensures c.in-Some.is

low : (c : In-Some) → row c < 8 * c.args.h
low c = omega (arith, below c, c.requires.rows_bound)

-- the word of its slot is within the memory
within : (c : In-Some)
    → row c * (2 * c.args.h) + c.loop-at.at + 8 ≤ length c.args.work.now
within c =
    let slot = slot-fits c.args.h (row c) (length c.args.work.now) (low c) c.requires.h_in_bounds in
    omega (arith, slot, scan-low c.loop-at.invariant, c.requires.le_h)

pub overflow_add-r : goal.overflow_add-r
overflow_add-r c = omega (arith, below (goal.at.overflow_add-r c).In-Some, c.ranges.rows)

pub bounds-taken-r : goal.bounds-taken-r
bounds-taken-r c = omega (arith, below (goal.at.bounds-taken-r c).In-Some, c.requires.rows_in_bounds)

pub add_slot-requires-clause-r_bound : goal.add_slot-requires-clause-r_bound
add_slot-requires-clause-r_bound c = low (goal.at.add_slot-requires-clause-r_bound c).In-Some

pub overflow_mul-r-then-taken-r : goal.overflow_mul-r-then-taken-r
overflow_mul-r-then-taken-r c = omega (arith, within (goal.at.overflow_mul-r-then-taken-r c).In-Some)

pub overflow_add-r-then-taken-r : goal.overflow_add-r-then-taken-r
overflow_add-r-then-taken-r c = omega (arith, within (goal.at.overflow_add-r-then-taken-r c).In-Some)

pub word_at-word-requires-then-taken-r : goal.word_at-word-requires-then-taken-r
word_at-word-requires-then-taken-r c = within (goal.at.word_at-word-requires-then-taken-r c).In-Some

pub loop-at-smaller : goal.loop-at-smaller
loop-at-smaller c =
    omega (arith, bit_below c.loop-at.invariant c.highest_in.ensures c.in-Some.is)

pub loop-at-preserved : goal.loop-at-preserved
loop-at-preserved c =
    scanning-add c.loop-at.invariant c.highest_in.ensures c.in-Some.is c.word_at-word-then-taken-r.result
    c.requires.le_h
    c.requires.h_in_bounds
    c.requires.cur_len
    c.if-taken-r.true
    c.add_slot.ensures
    c.word_at-word-then-taken-r.ensures

pub returns-else-taken-r : goal.returns-else-taken-r
returns-else-taken-r c =
    scanning-stop c.loop-at.invariant c.highest_in.ensures c.in-Some.is c.if-taken-r.false
