-- `answering::number_vertices` meets its contract: one number a turn.
-- Assumes nothing.
use Rattle.answering.proofs.Numbering.{Numbering}
use Rattle.answering.proofs.number_vertices.Given as goal

abbrev pub invariant-loop-i : goal.invariant-loop-i
invariant-loop-i l = Numbering l.initial.keys l.keys l.i
