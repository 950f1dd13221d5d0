-- `writer::put_marks` meets its contract: what is left to put are the positions of the marks to come that are on.
use lib.ListN.{drop}
use Rattle.format.specs.Writing.{places_from, position_bytes}
use Rattle.writer.proofs.Runs.{Run}
use Rattle.writer.proofs.put_marks.Given as goal

abbrev pub invariant-loop-i : goal.invariant-loop-i
invariant-loop-i l =
    Run l.initial.out l.at (position_bytes (places_from 0 l.on-items)) l.out l.next (position_bytes (places_from l.i (drop l.i l.on-items)))
