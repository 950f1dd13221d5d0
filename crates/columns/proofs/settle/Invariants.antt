-- `settle` stops where the definition does: the search in the word finds the highest row that is held, the rows above it are
-- passed over, and its slot is added, to the pair and to the word, if it is taken (`Scanning`).
-- Assumes nothing.
use Prim.Native.Nat.{◌+◌, ◌*◌}
use Rattle.columns.proofs.Settling.{Scanning}
use Rattle.columns.proofs.settle.Given as goal

abbrev pub invariant-loop-at : goal.invariant-loop-at
invariant-loop-at l = Scanning l.h l.work l.taken l.rows l.initial.cur l.cur l.at l.left l.word

-- a word down is more than its 64 bits
abbrev pub decreases-loop-at : goal.decreases-loop-at
decreases-loop-at l = 9 * l.at + l.left
