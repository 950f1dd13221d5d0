-- `store_slot` puts the pair into slot r: the part of the work memory that it copies to is the slot.
-- Assumes nothing.
use Rattle.std.proofs.Common.{◌≡◌, ℕ, ◌+◌, ◌*◌, List, ◌++◌, length, take, drop, sym, ap, ◌∙◌, le_of_eq, arith}
use Rattle.std.proofs.Math.Seq.{length-take-le, take_all}
use Rattle.std.proofs.lemmas.Slice.{put_mid-paste}
use Rattle.columns.specs.Slot.{store_slot}
use Rattle.columns.proofs.store_slot.Goals.{Start}
use Rattle.columns.proofs.store_slot.Goals as goal

pub returns : goal.returns
unfolding store_slot
returns c =
    let size : ℕ = 2 * c.args.h in
    let at : ℕ = c.args.r * size in
    let whole : length (take size c.args.cur.now) ≡ size = length-take-le size c.args.cur.now c.requires.h_in_bounds_2 in
    put_mid-paste _ _ _ _ (take size c.args.cur.now) size c.copy_from_slice.ensures.after (omega arith) (sym whole)
    ∙ ap (λ (t : List ℕ). take at c.args.work.now ++ t ++ drop (at + size) c.args.work.now) (take_all size _ (le_of_eq whole))
