-- `writer::put_simplex` meets its contract: what is left to put are the bytes of the vertices to come.
use Prim.Native.Nat.{◌+◌}
use lib.ListN.{drop}
use Rattle.writer.specs.Meaning.{simplex_bytes}
use Rattle.writer.proofs.Runs.{Run}
use Rattle.writer.proofs.put_simplex.Given as goal

abbrev pub invariant-loop-place : goal.invariant-loop-place
invariant-loop-place l =
    Run l.initial.out l.at (simplex_bytes l.vertex-items) l.out (l.at + l.place) (simplex_bytes (drop l.place l.vertex-items))
