-- `find` goes from key to key of one bucket: what lies below the place reached decides (`Hunt`), and the chain falls.
-- Assumes nothing.
use mathlib.Core.Path.{refl}
use native.Mathlib.Omega.{arith}
use Rattle.keys.proofs.Hunt.{hunt-start, hunt-found, hunt-on, hunt-falls, hunt-end}
use Rattle.keys.proofs.find.Goals as goal

pub loop-place-init : goal.loop-place-init
loop-place-init c = hunt-start c.requires refl

pub returns-then-keys-place : goal.returns-then-keys-place
returns-then-keys-place c = hunt-found c.loop-place.invariant (omega (arith, c.in-Some.ensures)) c.if-keys-place.true

pub loop-place-smaller : goal.loop-place-smaller
loop-place-smaller c = hunt-falls c.loop-place.invariant (omega (arith, c.in-Some.ensures))

pub loop-place-preserved : goal.loop-place-preserved
loop-place-preserved c = hunt-on c.loop-place.invariant (omega (arith, c.in-Some.ensures)) c.if-keys-place.false

pub returns : goal.returns
returns c = hunt-end c.loop-place.invariant (omega (arith, c.in_default.ensures))
