-- `next_down` finds the highest rank: no rank from i up is held, so the answer below i is the answer below `from`.
-- Assumes nothing.
use Rattle.std.proofs.Common.{◌≡◌, sym, ap, ◌∙◌, arith}
use Rattle.columns.specs.Column.{chain_of}
use Rattle.columns.specs.Search.{highest_below}
use Rattle.columns.proofs.Laws.{found-bit, skip-bit}
use Rattle.columns.proofs.next_down.Goals as goal

pub returns-then-test : goal.returns-then-test
returns-then-test c =
    sym (c.loop-i.invariant ∙ found-bit c.args.col.now c.loop-i.i (omega arith) (sym c.test.ensures ∙ c.if-test.true))

pub loop-i-preserved : goal.loop-i-preserved
loop-i-preserved c =
    c.loop-i.invariant ∙ skip-bit c.args.col.now c.loop-i.i (omega arith) (sym c.test.ensures ∙ c.if-test.false)

pub returns : goal.returns
unfolding highest_below
returns c =
    let none : c.loop-i.i ≡ 0 = omega arith in
    sym (c.loop-i.invariant ∙ ap (highest_below (chain_of c.args.col.now)) none)
