-- `flip` turns bit i over: it stores the byte's sum with the one-bit mask.
-- Assumes nothing.
use Prim.Native.Nat.{◌%◌}
use mathlib.Core.Path.{refl}
use native.Mathlib.Omega.{arith}
use Rattle.columns.proofs.Laws.{mask}
use Rattle.columns.specs.Column.{flipped}
use Rattle.columns.proofs.flip.Goals as goal

pub returns : goal.returns
unfolding flipped
returns c = rw (mask (c.args.i % 8) (omega arith)) refl
