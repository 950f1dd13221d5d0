-- `index` meets its contract: the simplices are entered in rank order.
-- Assumes nothing.
use Rattle.lists.specs.Meaning.{simplices_of}
use Rattle.lists.specs.Items.{length-mapped, counted, simplex-at}
use Rattle.lookup.specs.IndexLaws.{indexing-start, indexing-on}
use Rattle.std.proofs.Common.{rules}
use Rattle.lookup.proofs.index.Goals as goal

pub loop-i-init : goal.loop-i-init
loop-i-init c =
    indexing-start (simplices_of c.args.list) _ (counted _ _ (search (rules, length-mapped)) c.min-n.ensures) c.requires.blank.none

pub loop-i-preserved : goal.loop-i-preserved
loop-i-preserved c =
    indexing-on _ c.loop-i.invariant c.loop-i-test.true (search rules) (simplex-at c.args.list _ (search rules))
    c.enter.ensures c.enter.auto.keys c.enter.auto.next
