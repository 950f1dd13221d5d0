-- `add_slot` adds slot r: the part of the work memory that it hands to `add` is the slot.
-- Assumes nothing.
use Prim.Native.Nat.{ℕ, ◌+◌, ◌-◌, ◌*◌}
use mathlib.Core.List.{List}
use mathlib.Core.Path.{ap, ◌∙◌}
use native.Mathlib.Nat.{add-sub_cancel_left}
use native.Mathlib.Omega.{arith}
use lib.ListN.{take, drop, length-take}
use lib.Seq.{take_all}
use Rattle.columns.specs.Column.{xor_bytes}
use Rattle.columns.specs.Slot.{slot}
use Rattle.columns.proofs.add_slot.Goals.{Start}
use Rattle.columns.proofs.add_slot.Goals as goal

pub returns : goal.returns
unfolding slot
returns c =
    let at : ℕ = c.args.r * (2 * c.args.h) in
    let size : ℕ = 2 * c.args.h in
    let part : List ℕ = take (at + size - at) (drop at c.args.work.now) in
    c.add.ensures
    ∙ ap (λ (l : List ℕ). xor_bytes c.args.cur.now l)
    (take_all size part (omega (arith, length-take (at + size - at) (drop at c.args.work.now)))
    ∙ ap (λ (n : ℕ). take n (drop at c.args.work.now)) (add-sub_cancel_left at size))
