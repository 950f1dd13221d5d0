-- Two worked jobs on which wrong readings of document 01 differ from the right one, computed from their bytes.
use Rattle.std.specs.Prelude.{◌≡◌, refl}
use Rattle.format.specs.Numbers.{stale}
use Rattle.format.specs.Reading.{refused}
use Rattle.format.specs.Worked.{ChainOfFile, chosen, reads_to, same_edit_twice}

-- An edit is judged "at that moment, after all earlier edits": the second is stale, though in the file's order the simplex
-- stands where it says.
pub second-is-stale : reads_to same_edit_twice ≡ refused stale 79
unfolding reads_to
second-is-stale = refl

pub chain-of-file : ChainOfFile
unfolding reads_to chosen
chain-of-file = (refl, refl)
