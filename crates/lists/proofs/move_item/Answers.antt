-- `lists::move_item` meets its contract: with the item at place `i` the list is that of the move there.
-- Assumes nothing.
use native.Mathlib.Omega.{arith}
use Rattle.std.proofs.Common.{◌≡◌, sym, ap, ◌∙◌, ◌+◌, ◌-◌}
use Rattle.format.specs.Reading.{moved}
use Rattle.format.specs.Moves.{moved-home}
use Rattle.lists.proofs.Moving.{step_up, step_down}
use Rattle.lists.proofs.move_item.Goals as goal

pub loop-i-init : goal.loop-i-init
loop-i-init g c = sym (moved-home c.args.seen c.args.items.now)

pub loop-i-preserved : goal.loop-i-preserved
loop-i-preserved g c =
    c.swap.ensures.after ∙ step_up _ _ _ (omega arith) _ _ c.loop-i.invariant c.requires.0 (omega arith)

pub loop-i-else-seen-new-init : goal.loop-i-else-seen-new-init
loop-i-else-seen-new-init g c = (sym (moved-home c.args.seen c.args.items.now), c.if-seen-new.false)

pub loop-i-else-seen-new-preserved : goal.loop-i-else-seen-new-preserved
loop-i-else-seen-new-preserved g c =
    let here : c.loop-i-else-seen-new.i - 1 + 1 ≡ c.loop-i-else-seen-new.i = omega arith in (
      c.swap-in-loop-i-else-seen-new.ensures.after
          ∙ step_down _ _ _ (omega arith) _ _ (c.loop-i-else-seen-new.invariant.0 ∙ ap (λ k. moved c.args.seen k c.args.items.now) (sym here)) c.requires.0 (omega arith),
      omega arith,
    )

pub returns-after-loop-i : goal.returns-after-loop-i
returns-after-loop-i g c =
    let there : c.loop-i.i ≡ c.args.new = omega arith in
    c.loop-i.invariant ∙ ap (λ k. moved c.args.seen k c.args.items.now) there

pub returns-after-loop-i-else-seen-new : goal.returns-after-loop-i-else-seen-new
returns-after-loop-i-else-seen-new g c =
    let there : c.loop-i-else-seen-new.i ≡ c.args.new = omega arith in
    c.loop-i-else-seen-new.invariant.0 ∙ ap (λ k. moved c.args.seen k c.args.items.now) there
