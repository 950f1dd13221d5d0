-- `hold` meets its contract: each list is entered, so that the sides of the one above are found in it.
-- Assumes nothing.
use native.Mathlib.Omega.{arith}
use Rattle.lent_lists.proofs.Holding.{holding}
use Rattle.lent_lists.proofs.hold.Goals as goal

pub returns : goal.returns
returns c =
    holding c.args.complex.now c.find_sides.result c.find_sides-2.result (record {
      edges = omega (arith, c.requires.edges, c.index-edges.auto.keys);
      triangles = omega (arith, c.requires.triangles, c.index-triangles.auto.keys);
      tetrahedra = omega (arith, c.requires.tetrahedra, c.index-tetrahedra.auto.keys);
      triangle_sides = omega (arith, c.requires.triangle_sides, c.find_sides.auto.sides);
      tetrahedron_sides = omega (arith, c.requires.tetrahedron_sides, c.find_sides-2.auto.sides);
    })
    c.index-edges.ensures.0.keyed c.index-triangles.ensures.0.keyed c.index-tetrahedra.ensures.0.keyed
    c.find_sides.ensures.sides c.find_sides-2.ensures.sides
