-- `number` meets its contract: four digits of 16 bits.
-- Assumes nothing.
use Rattle.lookup.specs.IndexLaws.{number-told}
use Rattle.lookup.proofs.number.Goals as goal

pub returns : goal.returns
returns c = λ s few places. number-told s c.args.vertices few places c.element_fits.fits c.element_fits2.fits c.element_fits3.fits c.element_fits4.fits
