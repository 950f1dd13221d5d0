-- `writer::put_list` meets its contract: what is left to put are the bytes of the simplices to come.
use lib.ListN.{drop}
use Rattle.lists.specs.Meaning.{simplices_of}
use Rattle.writer.specs.Meaning.{list_bytes}
use Rattle.writer.proofs.Runs.{Run}
use Rattle.writer.proofs.put_list.Given as goal

abbrev pub invariant-loop-s : goal.invariant-loop-s
invariant-loop-s l =
    Run l.initial.out l.at (list_bytes (simplices_of l.fn.list)) l.out l.next (list_bytes (drop l.s-index (simplices_of l.fn.list)))
