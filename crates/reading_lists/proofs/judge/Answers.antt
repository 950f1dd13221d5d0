-- `judge` meets its contract: the tests stand in the order of document 01, and the first that holds decides.
-- Assumes nothing.
use mathlib.Core.Path.{◌≡◌, sym, ◌∙◌}
use lib.ListN.{length, take, drop}
use Rattle.lists.proofs.Four.{length_part}
use Rattle.reading_lists.proofs.Judging.{judged-unsound, judged-twice, judged-new}
use Rattle.reading_lists.proofs.judge.Goals.{After-entered}
use Rattle.reading_lists.proofs.judge.Goals as goal

pub returns-then-unsound_edge : goal.returns-then-unsound_edge
returns-then-unsound_edge c = λ before proper keyed. judged-unsound _ _ _ (sym c.unsound_edge.ensures ∙ c.if-unsound_edge.true) before

-- what is known of an item that is no unsound edge
module _ (c : After-entered) where
  wide : let a = c.args in length (take a.width (drop a.at a.p.now)) ≡ a.width
  wide = let a = c.args in length_part a.p.now a.at a.width c.requires.width_in_bounds

pub returns-then-entered : goal.returns-then-entered
returns-then-entered c = λ before proper keyed.
    judged-twice _ _ _ (wide (goal.at.returns-then-entered c).After-entered) c.requires.number_of (sym c.unsound_edge.ensures ∙ c.if-unsound_edge.false)
    c.entered.ensures before proper keyed c.if-entered.true

pub returns : goal.returns
returns c = λ before proper keyed.
    judged-new _ _ _ (wide (goal.at.returns c).After-entered) c.requires.number_of (sym c.unsound_edge.ensures ∙ c.if-unsound_edge.false)
    c.entered.ensures before proper keyed c.if-entered.false
