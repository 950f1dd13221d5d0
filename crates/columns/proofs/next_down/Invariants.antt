-- `next_down` finds the highest rank: no rank from i up is held, so the answer below i is the answer below `from`.
-- Assumes nothing.
use Rattle.std.proofs.Common.{◌≡◌}
use Rattle.columns.specs.Column.{chain_of}
use Rattle.columns.specs.Search.{highest_below}
use Rattle.columns.proofs.next_down.Given as goal

abbrev pub invariant-loop-i : goal.invariant-loop-i
invariant-loop-i l = highest_below (chain_of l.col) l.from ≡ highest_below (chain_of l.col) l.i
