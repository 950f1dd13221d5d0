-- `number_of` meets its contract: past its last vertex a simplex has vertex 0.
-- Assumes nothing.
use Prim.Native.Nat.{suc}
use mathlib.Core.Path.{◌≡◌}
use native.Mathlib.Omega.{arith}
use lib.ListN.{length, length-take}
use Rattle.lists.specs.Meaning.{vertices_of}
use Rattle.lookup.specs.IndexLaws.{four_places}
use Rattle.std.proofs.Common.{rules}
use Rattle.lookup.proofs.number_of.Goals as goal

pub returns : goal.returns
returns c =
    let s = c.args.s in
    let four : length s.vertices ≡ 4 = search rules in
    c.number.ensures (vertices_of s) (omega (arith, four, length-take (suc s.dim) s.vertices))
    (four_places (vertices_of s) c.vertex.ensures c.vertex-2.ensures c.vertex-3.ensures c.vertex-4.ensures)
