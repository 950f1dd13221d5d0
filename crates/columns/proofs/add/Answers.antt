-- `add` leaves the sum of the two columns: at byte i the first i bytes of src have been added.
-- Assumes nothing.
use Rattle.std.proofs.Common.{sym, arith}
use Rattle.columns.specs.SlotLaws.{xor-nil}
use Rattle.columns.proofs.Laws.{added_more}
use Rattle.columns.proofs.add.Goals as goal

pub loop-i-init : goal.loop-i-init
loop-i-init c = sym (xor-nil c.args.dst.now)

pub loop-i-preserved : goal.loop-i-preserved
loop-i-preserved c = added_more _ _ c.loop-i.invariant (omega arith) (omega arith)
