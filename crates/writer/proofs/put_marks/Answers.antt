-- `writer::put_marks` meets its contract: what is left to put are the positions of the marks to come that are on.
use native.Mathlib.Omega.{arith}
use mathlib.Core.Path.{refl}
use lib.ListN.{take}
use Rattle.std.proofs.lemmas.List.{at_drop_all}
use Rattle.format.specs.Answer.{u16_bytes}
use Rattle.format.specs.Writing.{places_from, position_bytes}
use Rattle.writer.proofs.Runs.{run-starts, run-room, run-goes-on, run-skips, run-ends, next-mark, no-mark}
use Rattle.writer.proofs.put_marks.Goals.{then-on, else-on}
use Rattle.writer.proofs.put_marks.Goals as goal

pub loop-i-init : goal.loop-i-init
loop-i-init c = run-starts _ _ _

pub put_u16-requires : goal.put_u16-requires
put_u16-requires c =
    let i = c.loop-i.i in
    run-room c.loop-i.invariant c.requires.1 (u16_bytes i) _ (next-mark (take c.args.n c.args.marks.on) i (omega arith) c.if-on.true)

pub loop-i-preserved : goal.loop-i-preserved
loop-i-preserved c =
    let on = take c.args.n c.args.marks.on in
    elim c.if-on.branch [
      | then-on w ↦ rw (w.out-is, w.next-is) (run-goes-on c.loop-i.invariant c.requires.1 _ _ (next-mark on c.loop-i.i (omega arith) w.if-on.true) (record { lent = w.put_u16.ensures; next = refl }))
      | else-on w ↦ rw (w.out-is, w.next-is) (run-skips c.loop-i.invariant _ (no-mark on c.loop-i.i (omega arith) w.if-on.false))
    ]

pub returns : goal.returns
unfolding places_from position_bytes
returns c =
    run-ends c.loop-i.invariant
    (at_drop_all (λ on. position_bytes (places_from c.loop-i.i on)) (take c.args.n c.args.marks.on) c.loop-i.i (omega arith))
