-- `index` meets its contract: the simplices are entered in rank order.
-- Assumes nothing.
use Rattle.lists.specs.Meaning.{simplices_of}
use Rattle.lookup.specs.IndexLaws.{Indexing}
use Rattle.lookup.proofs.index.Given as goal

abbrev pub invariant-loop-i : goal.invariant-loop-i
invariant-loop-i l = Indexing (simplices_of l.list) l.n l.initial.keys l.initial.next l.keys l.first l.next l.i
