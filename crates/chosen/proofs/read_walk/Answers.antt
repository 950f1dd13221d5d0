-- `chosen::read_walk` meets its contract: the loop keeps `Walking`, and each return is one of its ends.
use mathlib.Core.Path.{◌≡◌, sym, ap, ◌∙◌}
use Rattle.refusals.specs.Readings.{refused_by}
use Rattle.format.specs.Simplex.{rank}
use Rattle.lists.specs.Meaning.{rank_of}
use Rattle.lookup.specs.Numbered.{simplices_in}
use Rattle.std.proofs.Common.{Option}
use Prim.Native.Nat.{ℕ}
use Rattle.chosen.specs.Meaning.{step_at}
use Rattle.chosen.proofs.Steps.{walking-starts, walking-astray, walking-goes-on, walk_refused, walk-read, rank-few, looked-up}
use Rattle.chosen.proofs.read_walk.Goals.{After-find-found}
use Rattle.chosen.proofs.read_walk.Goals as goal

pub loop-i-init : goal.loop-i-init
loop-i-init c = walking-starts _ _ _ _ c.none-marks.ensures

pub find-found-requires : goal.find-found-requires
find-found-requires c = c.requires.indexed.chained

-- what the look-up said of the step
module _ (c : After-find-found) (f : Option ℕ) (told : c.find-found.result ≡ f) where
  found-rank : rank (step_at c.args.p.now c.loop-i.i) (simplices_in 2 c.args.keys.now c.args.edges) ≡ rank_of f
  found-rank = looked-up c.args.p.now c.loop-i.i f c.step_at.ensures c.find-found.ensures c.requires.proper c.requires.indexed told

pub returns-in_default : goal.returns-in_default
returns-in_default c =
    walk_refused c.at.result
    (walking-astray c.loop-i.invariant c.loop-i-test.true (found-rank (goal.at.returns-in_default c).After-find-found _ c.in_default.is) ∙ ap refused_by (sym c.at.ensures))

pub bounds-marks-rank : goal.bounds-marks-rank
bounds-marks-rank c =
    rank-few _ c.requires.base_bound.1 c.requires.indexed (found-rank (goal.at.bounds-marks-rank c).After-find-found _ c.in-Some.is)

pub loop-i-preserved : goal.loop-i-preserved
loop-i-preserved c =
    let found = found-rank (goal.at.loop-i-preserved c).After-find-found _ c.in-Some.is in
    walking-goes-on c.loop-i.invariant c.loop-i-test.true c.in-Some.rank found
    (rank-few _ c.requires.base_bound.1 c.requires.indexed found)

pub returns : goal.returns
returns c = walk-read c.loop-i.marks c.loop-i.invariant c.loop-i-test.false
