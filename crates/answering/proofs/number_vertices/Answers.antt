-- `answering::number_vertices` meets its contract: one number a turn.
-- Assumes nothing.
use native.Mathlib.Omega.{arith}
use Rattle.answering.proofs.Numbering.{numbering_start, numbering-on}
use Rattle.answering.proofs.number_vertices.Goals as goal

pub loop-i-init : goal.loop-i-init
loop-i-init c = numbering_start _

pub loop-i-preserved : goal.loop-i-preserved
loop-i-preserved c =
    numbering-on c.loop-i.invariant (omega (arith, c.loop-i-test.true, c.requires.0)) (omega (arith, c.loop-i-test.true, c.requires.1))
