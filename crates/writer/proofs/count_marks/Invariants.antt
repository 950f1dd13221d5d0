-- `writer::count_marks` meets its contract: the count is that of the marks passed.
use mathlib.Core.Path.{◌≡◌}
use lib.ListN.{take}
use Rattle.std.proofs.Common.{count_by}
use Rattle.writer.proofs.count_marks.Given as goal

abbrev pub invariant-loop-on : goal.invariant-loop-on
invariant-loop-on l = l.count ≡ count_by (λ on. on) (take l.on-index l.on-items)
