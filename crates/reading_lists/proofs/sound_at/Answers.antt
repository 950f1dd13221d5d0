-- `sound_at` meets its contract: the vertices not yet judged decide, from the least number that may stand next.
-- Assumes nothing.
use native.Mathlib.Omega.{arith}
use Prim.Native.Nat.{◌+◌}
use mathlib.Core.Path.{◌≡◌, sym}
use lib.ListN.{get_or, take, drop}
use Rattle.lists.proofs.Four.{byte_at, length_part}
use Rattle.reading_lists.proofs.Soundness.{sounding-start, sounding-on, sounding-end, too-low, too-high}
use Rattle.reading_lists.proofs.sound_at.Goals.{In-loop-i}
use Rattle.reading_lists.proofs.sound_at.Goals as goal

pub loop-i-init : goal.loop-i-init
loop-i-init c =
    let a = c.args in
    sounding-start _ _ _ (sym (length_part a.p.now a.at a.width c.requires))

pub overflow_cast-a : goal.overflow_cast-a
overflow_cast-a c =
    omega (arith, c.type_inv.p (c.args.at + c.loop-i.i))

-- the vertex of a turn is the byte that is read
here : (c : In-loop-i) → let a = c.args in
    get_or a.p.now (a.at + c.loop-i.i) 0 ≡ get_or (take a.width (drop a.at a.p.now)) c.loop-i.i 0
here c =
    let a = c.args in
    byte_at a.p.now a.at a.width c.loop-i.i c.loop-i-test.true

pub returns-then-a-least : goal.returns-then-a-least
returns-then-a-least c =
    too-low _ _ _ _ _ c.loop-i.invariant _ c.loop-i-test.true (here (goal.at.returns-then-a-least c).In-loop-i) c.if-a-least.true

pub returns-then-v-a : goal.returns-then-v-a
returns-then-v-a c =
    too-high _ _ _ _ _ c.loop-i.invariant _ c.loop-i-test.true (here (goal.at.returns-then-v-a c).In-loop-i) (omega (arith, c.if-v-a.true))

pub overflow_add-least : goal.overflow_add-least
overflow_add-least c =
    record {
      fits = omega (arith, c.type_inv.p (c.args.at + c.loop-i.i));
    }

pub loop-i-preserved : goal.loop-i-preserved
loop-i-preserved c =
    sounding-on _ _ _ _ _ c.loop-i.invariant _ c.loop-i-test.true (here (goal.at.loop-i-preserved c).In-loop-i) c.if-a-least.false c.if-v-a.false

pub returns : goal.returns
returns c = sounding-end _ _ _ _ _ c.loop-i.invariant c.loop-i-test.false
