-- `writer::count_marks` meets its contract: there is a place for each mark that is on.
use native.Mathlib.Omega.{arith}
use mathlib.Core.Path.{◌∙◌, ap}
use lib.ListN.{take}
use lib.Seq.{take_all}
use Rattle.std.proofs.Common.{count_by}
use Rattle.writer.proofs.Runs.{count-places}
use Rattle.writer.proofs.count_marks.Goals as goal

pub returns : goal.returns
returns c =
    let on = take c.args.n c.args.marks.on in
    c.loop-on.invariant ∙ ap (count_by (λ on. on)) (take_all c.loop-on.on-index on (omega arith)) ∙ count-places 0 on
