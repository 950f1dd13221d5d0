-- `list_of` meets its contract: each turn puts in the simplex of the next number.
-- Assumes nothing.
use Prim.Native.Nat.{◌<◌}
use mathlib.Core.Path.{ap, ◌∙◌}
use native.Mathlib.Omega.{arith}
use lib.ListN.{length-take}
use Rattle.std.proofs.Common.{rules, get_or-take}
use Rattle.keys.specs.Number.{digits_of}
use Rattle.lists.specs.Items.{length-mapped}
use Rattle.lookup.specs.NumberedLaws.{listing_start, listing-on}
use Rattle.lookup.proofs.list_of.Goals as goal

pub loop-rank-init : goal.loop-rank-init
loop-rank-init c = listing_start _ _ _ (search (rules, length-mapped))

pub loop-rank-preserved : goal.loop-rank-preserved
loop-rank-preserved c =
    let keys = c.args.keys.now in
    let lt : c.loop-rank.rank < c.args.n = omega (arith, length-take c.args.n keys) in
    listing-on c.simplex_of.result c.loop-rank.invariant (omega arith) (omega arith)
    (c.simplex_of.ensures ∙ ap (digits_of c.args.width) (get_or-take c.args.n keys c.loop-rank.rank 0 lt))
