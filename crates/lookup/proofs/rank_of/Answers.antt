-- `rank_of` meets its contract: the last place that holds the number is the rank.
-- Assumes nothing.
use Rattle.lookup.specs.IndexLaws.{number-ranked, place-below}
use Rattle.lookup.proofs.rank_of.Goals as goal

pub returns-clause-below : goal.returns-clause-below
returns-clause-below c = rw c.find.ensures (place-below _ _ _)

pub returns-clause-rank : goal.returns-clause-rank
returns-clause-rank c = λ s own l proper keyed. rw c.find.ensures (number-ranked proper keyed own)
