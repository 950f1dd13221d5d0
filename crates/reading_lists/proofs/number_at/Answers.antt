-- `number_at` meets its contract: past its last vertex an item has vertex 0.
-- Assumes nothing.
use native.Mathlib.Omega.{arith}
use lib.ListN.{take, drop}
use Rattle.lists.proofs.Four.{length_part}
use Rattle.lookup.specs.IndexLaws.{four_places}
use Rattle.reading_lists.proofs.number_at.Goals as goal

pub returns : goal.returns
returns c =
    let a = c.args in
    c.number.ensures (take a.width (drop a.at a.p.now))
    (omega (arith, length_part a.p.now a.at a.width c.requires.1, c.requires.0))
    (four_places _ c.vertex_at-a.ensures c.vertex_at-b.ensures c.vertex_at-c.ensures c.vertex_at-d.ensures)
