-- `chosen::edge_between` meets its contract: the test is the definition's.
use borrow.Author.Tests.{lt-ltb, le-ltb}
use Rattle.chosen.proofs.edge_between.Goals as goal

pub returns-then-a-b : goal.returns-then-a-b
returns-then-a-b c = rw (lt-ltb c.args.a c.args.b c.if-a-b.true)

pub returns-else-a-b : goal.returns-else-a-b
returns-else-a-b c = rw (le-ltb c.args.a c.args.b c.if-a-b.false)
