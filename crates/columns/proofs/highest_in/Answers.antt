-- `highest_in` answers the bit just below `left` where the word holds it, and else the highest of those below that one.
-- Assumes nothing.
use Rattle.columns.proofs.Words.{none_at_all, last-held, none-held, some-held}
use Rattle.columns.proofs.highest_in.Goals as goal

pub returns-then-left-eq0 : goal.returns-then-left-eq0
returns-then-left-eq0 c = none_at_all c.args.word c.args.left c.if-left-eq0.true

pub returns-then-word-last-eq1 : goal.returns-then-word-last-eq1
returns-then-word-last-eq1 c =
    last-held c.args.word c.args.left c.requires c.if-left-eq0.false c.if-word-last-eq1.true

pub returns-then-below-eq0 : goal.returns-then-below-eq0
returns-then-below-eq0 c =
    none-held c.args.word c.args.left c.requires c.if-left-eq0.false c.if-word-last-eq1.false
    c.if-below-eq0.true

pub returns : goal.returns
returns c =
    some-held c.args.word c.args.left c.requires c.if-left-eq0.false
    c.if-word-last-eq1.false
    c.ilog2.result
    c.ilog2.ensures.power_le
    c.ilog2.ensures.next_power_gt
