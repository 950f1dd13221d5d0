-- `chosen::read_walk` meets its contract: the loop keeps `Walking`, and each return is one of its ends.
use Rattle.lookup.specs.Numbered.{simplices_in}
use Rattle.chosen.proofs.Steps.{Walking}
use Rattle.chosen.proofs.read_walk.Given as goal

abbrev pub invariant-loop-i : goal.invariant-loop-i
invariant-loop-i l = Walking l.p l.base (simplices_in 2 l.keys l.edges) l.marks.on l.i
