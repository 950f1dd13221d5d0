-- `writer::put_list` meets its contract: what is left to put are the bytes of the simplices to come.
use Prim.Native.Nat.{◌+◌, ◌<◌}
use native.Mathlib.Omega.{arith}
use mathlib.Core.Path.{◌≡◌, ap, ◌∙◌, sym}
use mathlib.Core.List.{◌++◌}
use lib.ListN.{length, length-map, length-take, get_or, take, drop}
use lib.Seq.{get_or-take}
use Rattle.std.proofs.lemmas.List.{at_drop_all}
use Rattle.lists.specs.Meaning.{none, vertices_of, simplices_of}
use Rattle.lists.specs.Items.{simplex-at, length-simplices}
use Rattle.lists.specs.declared.Simplex.{Simplex}
use Rattle.writer.specs.Meaning.{vertex_byte, simplex_bytes, list_bytes}
use Rattle.writer.proofs.Runs.{run-starts, run-room, run-goes-on, run-ends, next-simplex}
use Rattle.writer.proofs.put_list.Goals.{In-loop-s}
use Rattle.writer.proofs.put_list.Goals as goal

-- the simplex at hand
module _ (c : In-loop-s) where
  abbrev s : Simplex
  s = get_or (take c.count_of-n.result c.args.list.items) c.loop-s.s-index none

  next : list_bytes (drop c.loop-s.s-index (simplices_of c.args.list)) ≡ simplex_bytes (vertices_of s) ++ list_bytes (drop (c.loop-s.s-index + 1) (simplices_of c.args.list))
  next =
      let here : c.loop-s.s-index < length (simplices_of c.args.list) = omega (arith, length-take c.count_of-n.result c.args.list.items) in
      next-simplex (simplices_of c.args.list) c.loop-s.s-index (vertices_of s) (vertices_of none) here
      (simplex-at c.args.list c.loop-s.s-index (omega (arith, length-simplices c.args.list)) ∙
      ap vertices_of (sym (get_or-take c.count_of-n.result c.args.list.items c.loop-s.s-index none (omega arith))))

pub loop-s-init : goal.loop-s-init
loop-s-init c = run-starts _ _ _

pub put_simplex-requires : goal.put_simplex-requires
put_simplex-requires c =
    let p = (goal.at.put_simplex-requires c).In-loop-s in
    omega (arith, run-room c.loop-s.invariant c.requires (simplex_bytes (vertices_of (s p))) _ (next p), length-map (vertices_of (s p)) vertex_byte)

pub loop-s-preserved : goal.loop-s-preserved
loop-s-preserved c =
    let p = (goal.at.loop-s-preserved c).In-loop-s in
    run-goes-on c.loop-s.invariant c.requires _ _ (next p)
    (record { lent = c.put_simplex.ensures; next = omega (arith, c.size-next.ensures, length-map (vertices_of (s p)) vertex_byte) })

pub returns : goal.returns
unfolding list_bytes
returns c =
    run-ends c.loop-s.invariant
    (at_drop_all list_bytes (simplices_of c.args.list) c.loop-s.s-index (omega (arith, length-take c.count_of-n.result c.args.list.items, length-simplices c.args.list)))
