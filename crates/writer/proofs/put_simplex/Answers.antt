-- `writer::put_simplex` meets its contract: what is left to put are the bytes of the vertices to come.
use Prim.Native.Nat.{◌+◌}
use native.Mathlib.Omega.{arith}
use native.Mathlib.Nat.{add-zero}
use mathlib.Core.Path.{◌≡◌, ap, ◌∙◌}
use lib.ListN.{length, length-map}
use Rattle.std.proofs.lemmas.List.{at_drop_all}
use Rattle.lists.specs.Meaning.{vertices_of}
use Rattle.writer.specs.Splice.{splice}
use Rattle.writer.specs.Meaning.{vertex_byte, simplex_bytes}
use Rattle.writer.proofs.Runs.{run-starts, run-goes-on, run-ends, next-vertex, put-byte}
use Rattle.writer.proofs.put_simplex.Goals as goal

pub loop-place-init : goal.loop-place-init
loop-place-init c = rw (add-zero c.args.at) (run-starts _ _ _)

pub loop-place-preserved : goal.loop-place-preserved
loop-place-preserved c =
    let s = c.vertices-vertex-items.result.now in
    let full : length s ≡ length (vertices_of c.args.s) = ap length c.vertices-vertex-items.ensures in
    let i = c.loop-place.place in
    run-goes-on c.loop-place.invariant (omega (arith, length-map s vertex_byte)) _ _ (next-vertex s i (omega arith))
    (put-byte _ (c.args.at + i) _ _ (omega arith) (omega arith))

pub returns : goal.returns
returns c =
    let s = c.vertices-vertex-items.result.now in
    (run-ends c.loop-place.invariant (at_drop_all simplex_bytes s c.loop-place.place (omega arith))).lent ∙
    ap (λ x. splice c.args.out.now c.args.at (simplex_bytes x)) c.vertices-vertex-items.ensures
