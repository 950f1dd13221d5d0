-- `entered` meets its contract: what has a rank is listed.
-- Assumes nothing.
use mathlib.Core.Path.{◌∙◌}
use Rattle.reading_lists.proofs.Judging.{entered-told}
use Rattle.reading_lists.proofs.entered.Goals as goal

pub returns : goal.returns
returns c = λ s own l proper keyed. c.is_some.ensures ∙ entered-told s l _ (c.rank_of.ensures.rank s own l proper keyed)
