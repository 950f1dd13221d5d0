-- `simplex_of` meets its contract: it takes the digits off one by one.
-- Assumes nothing.
use Rattle.lookup.specs.NumberedLaws.{four-digits}
use Rattle.lookup.proofs.simplex_of.Goals as goal

pub returns : goal.returns
returns c = four-digits _ c.args.number c.requires.0 c.requires.1
