-- `add_boundary` takes the facets off the sides, from that without the last vertex on, and turns the rank of each over, until
-- there is none left: after four at most.
-- Assumes nothing.
use Prim.Native.Nat.{ℕ, ◌-◌, ◌/◌, ◌<◌}
use native.Mathlib.Omega.{arith}
use mathlib.Core.Path.{◌≡◌}
use mathlib.Core.List.{List}
use lib.ListN.{length}
use Rattle.format.specs.Simplex.{Simplex}
use Rattle.lookup.specs.Sides.{Sides}
use Rattle.solver.proofs.Adding.{Adding, adding-start, rank_below, adding-on, adding-end}
use Rattle.solver.proofs.add_boundary.Goals.{After-flip, After-flip-2, After-flip-3}
use Rattle.solver.proofs.add_boundary.Goals as goal

-- what is in hand when so many facets are left, with these sides
abbrev Added : (size sides : ℕ) (first cur : List ℕ) (left rest : ℕ) → Type 0
Added size sides first cur left rest =
    (rows : List Simplex) (s : Simplex) → length s ≡ size → 0 < size → Sides rows s size sides → Adding rows s first cur left rest

one : (p : After-flip) → Added p.args.size p.args.sides p.args.cur.now p.flip.new.col (p.args.size - 1) (p.args.sides / 65536)
one p rows s sized some sided = adding-on (adding-start rows s _ _ _ sized sided) some p.flip.ensures

two : (p : After-flip-2)
    → Added p.args.size p.args.sides p.args.cur.now p.flip.new.col (p.args.size - 1) (p.args.sides / 65536)
    → Added p.args.size p.args.sides p.args.cur.now p.flip-2.new.col (p.args.size - 1 - 1) (p.args.sides / 65536 / 65536)
two p before rows s sized some sided = adding-on (before rows s sized some sided) (omega (arith, p.if-size-le1.false)) p.flip-2.ensures

three : (p : After-flip-3)
    → Added p.args.size p.args.sides p.args.cur.now p.flip-2.new.col (p.args.size - 1 - 1) (p.args.sides / 65536 / 65536)
    → Added p.args.size p.args.sides p.args.cur.now p.flip-3.new.col (p.args.size - 1 - 1 - 1) (p.args.sides / 65536 / 65536 / 65536)
three p before rows s sized some sided = adding-on (before rows s sized some sided) (omega (arith, p.if-size-le2.false)) p.flip-3.ensures

pub flip-requires : goal.flip-requires
flip-requires c =
    let a = adding-start c.requires.rows c.requires.simplex c.args.cur.now c.args.size c.args.sides c.requires.sized c.requires.sided in
    omega (arith, rank_below a c.requires.some, c.requires.few)

pub returns-then-size-le1 : goal.returns-then-size-le1
returns-then-size-le1 c = λ rows s sized some most sided.
    adding-end (one (goal.at.returns-then-size-le1 c).After-flip rows s sized some sided) (omega (arith, c.if-size-le1.true))

pub flip-requires-2 : goal.flip-requires-2
flip-requires-2 c =
    let a = one (goal.at.flip-requires-2 c).After-flip c.requires.rows c.requires.simplex c.requires.sized c.requires.some c.requires.sided in
    omega (arith, rank_below a (omega (arith, c.if-size-le1.false)), c.requires.few, a.long)

pub returns-then-size-le2 : goal.returns-then-size-le2
returns-then-size-le2 c = λ rows s sized some most sided.
    adding-end (two (goal.at.returns-then-size-le2 c).After-flip-2 (one (goal.at.returns-then-size-le2 c).After-flip) rows s sized some sided) (omega (arith, c.if-size-le2.true))

pub flip-requires-3 : goal.flip-requires-3
flip-requires-3 c =
    let a = two (goal.at.flip-requires-3 c).After-flip-2 (one (goal.at.flip-requires-3 c).After-flip) c.requires.rows c.requires.simplex c.requires.sized c.requires.some c.requires.sided in
    omega (arith, rank_below a (omega (arith, c.if-size-le2.false)), c.requires.few, a.long)

pub returns-then-size-le3 : goal.returns-then-size-le3
returns-then-size-le3 c = λ rows s sized some most sided.
    adding-end (three (goal.at.returns-then-size-le3 c).After-flip-3 (two (goal.at.returns-then-size-le3 c).After-flip-2 (one (goal.at.returns-then-size-le3 c).After-flip)) rows s sized some sided) (omega (arith, c.if-size-le3.true))

pub flip-requires-4 : goal.flip-requires-4
flip-requires-4 c =
    let a = three (goal.at.flip-requires-4 c).After-flip-3 (two (goal.at.flip-requires-4 c).After-flip-2 (one (goal.at.flip-requires-4 c).After-flip)) c.requires.rows c.requires.simplex c.requires.sized c.requires.some c.requires.sided in
    omega (arith, rank_below a (omega (arith, c.if-size-le3.false)), c.requires.few, a.long)

pub returns : goal.returns
returns c = λ rows s sized some most sided.
    adding-end
    (adding-on (three (goal.at.returns c).After-flip-3 (two (goal.at.returns c).After-flip-2 (one (goal.at.returns c).After-flip)) rows s sized some sided) (omega (arith, c.if-size-le3.false)) c.flip-4.ensures)
    (omega (arith, most))
