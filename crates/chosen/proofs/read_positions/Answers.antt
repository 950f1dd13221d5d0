-- `chosen::read_positions` meets its contract: the loop keeps `Marking`, and each return is one of its ends.
use Prim.Native.Nat.{ℕ, ◌+◌}
use mathlib.Core.Path.{sym, ap, subst, ◌∙◌}
use mathlib.Core.Bool.{true}
use native.Mathlib.Omega.{arith}
use Rattle.std.specs.Prelude.{slice_set}
use Rattle.refusals.specs.Readings.{refused_by}
use Rattle.chosen.proofs.Positions.{Marking, marking-starts, marking-low, marking-high, marking-goes-on, positions-refused, positions-read}
use Rattle.chosen.proofs.read_positions.Goals as goal

pub loop-i-init : goal.loop-i-init
loop-i-init c = marking-starts _ _ _ _ c.none-marks.ensures

pub returns-then-position-least : goal.returns-then-position-least
returns-then-position-least c =
    positions-refused _ (marking-low c.loop-i.invariant (omega arith) (omega arith) ∙ ap refused_by (sym c.at.ensures))

pub returns-then-count-position : goal.returns-then-count-position
returns-then-count-position c =
    positions-refused _ (marking-high c.loop-i.invariant (omega arith) (omega arith) ∙ ap refused_by (sym c.at-then-count-position.ensures))

pub loop-i-preserved : goal.loop-i-preserved
loop-i-preserved c =
    let q = c.u16_at-position.result in
    subst (λ (at : ℕ). Marking c.args.p.now c.args.base c.args.count (slice_set c.loop-i.marks.on q true) (q + 1) at) (omega arith)
    (marking-goes-on c.loop-i.invariant (omega arith) q c.u16_at-position.ensures.is (omega arith) (omega arith) c.requires.0)

pub returns : goal.returns
returns c = positions-read c.loop-i.marks c.loop-i.invariant (omega arith)
