-- `writing::write` meets its contract: a refusal's number and place are the reading's, and both fit; a job that was read is
-- written as its normal form.
use native.Mathlib.Omega.{arith}
use Rattle.format.specs.Numbers.{small}
use Rattle.format.proofs.Places.{reading-refused}
use Rattle.jobs.specs.Known.{told-refusal}
use Rattle.writing.proofs.Laws.{writable, write-accepted}
use Rattle.std.proofs.Common.{rules}
use Rattle.writing.proofs.write.Goals as goal

pub two_numbers-requires : goal.two_numbers-requires
two_numbers-requires c =
    let told = reading-refused small _ _ _ (told-refusal c.read_numbers-read.ensures c.in-Err.is) in
    (search rules, omega (arith, told.within))

pub write_read-requires : goal.write_read-requires
write_read-requires c = writable _ c.read_numbers-read.ensures _ c.in-Ok.is

pub returns-in-Ok : goal.returns-in-Ok
returns-in-Ok c = write-accepted _ c.read_numbers-read.ensures _ _ _ _ c.in-Ok.is c.write_read.ensures
