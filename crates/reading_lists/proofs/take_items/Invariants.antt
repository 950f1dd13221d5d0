-- `take_items` meets its contract: with the items taken left to rule 8, what the definition still has to read behind them stays
-- what it had to read at the start.
-- Assumes nothing.
use Prim.Native.Nat.{◌*◌}
use Rattle.reading_lists.proofs.Taking.{Taking}
use Rattle.reading_lists.proofs.take_items.Given as goal

abbrev pub invariant-loop-count : goal.invariant-loop-count
invariant-loop-count l =
    Taking l.p l.base l.v l.width l.count (l.width * l.count) l.initial.keys l.initial.first l.initial.next l.keys l.first l.next
