-- `highest_side` takes the facets off the sides, from that without the last vertex on, and keeps the highest rank, until there
-- is none left: after four at most.
-- Assumes nothing.
use Prim.Native.Nat.{ℕ, ◌-◌, ◌/◌, ◌%◌, ◌<◌, max}
use native.Mathlib.Omega.{arith}
use mathlib.Core.Path.{◌≡◌}
use mathlib.Core.Bool.{true}
use mathlib.Core.List.{List}
use lib.ListN.{length}
use Rattle.format.specs.Simplex.{Simplex, rising_from}
use Rattle.lookup.specs.Sides.{Sides}
use Rattle.solver.proofs.Climbing.{Climbing, climbing-start, climbing-on, climbing-end}
use Rattle.solver.proofs.highest_side.Goals as goal

module _ (size sides : ℕ) where
  -- the highest rank when so many facets are left, with these sides
  abbrev Climbed : (left rest top : ℕ) → Type 0
  Climbed left rest top =
      (rows : List Simplex) (s : Simplex) → length s ≡ size → 0 < size → rising_from 0 s ≡ true → Sides rows s size sides
      → Climbing rows s left rest top

  one : Climbed (size - 1) (sides / 65536) (sides % 65536)
  one rows s sized some up sided = climbing-start some sided sized

  two : {top : ℕ} → 1 < size → top ≡ max (sides % 65536) (sides / 65536 % 65536)
      → Climbed (size - 1 - 1) (sides / 65536 / 65536) top
  two more e rows s sized some up sided = climbing-on (one rows s sized some up sided) up (omega arith) e

  three : {before top : ℕ} → 2 < size → Climbed (size - 1 - 1) (sides / 65536 / 65536) before
      → top ≡ max before (sides / 65536 / 65536 % 65536) → Climbed (size - 1 - 1 - 1) (sides / 65536 / 65536 / 65536) top
  three more first e rows s sized some up sided = climbing-on (first rows s sized some up sided) up (omega arith) e

pub returns-then-size-le1 : goal.returns-then-size-le1
returns-then-size-le1 c = λ rows s sized some most up sided.
    climbing-end (one c.args.size c.args.sides rows s sized some up sided) (omega (arith, c.if-size-le1.true))

pub returns-then-size-le2 : goal.returns-then-size-le2
returns-then-size-le2 c = λ rows s sized some most up sided.
    climbing-end
    (two c.args.size c.args.sides (omega (arith, c.if-size-le1.false)) c.max-top.ensures rows s sized some up sided)
    (omega (arith, c.if-size-le2.true))

pub returns-then-size-le3 : goal.returns-then-size-le3
returns-then-size-le3 c = λ rows s sized some most up sided.
    let first = two c.args.size c.args.sides (omega (arith, c.if-size-le1.false)) c.max-top.ensures in
    climbing-end
    (three c.args.size c.args.sides (omega (arith, c.if-size-le2.false)) first c.max-top-2.ensures rows s sized some up sided)
    (omega (arith, c.if-size-le3.true))

pub returns : goal.returns
returns c = λ rows s sized some most up sided.
    let of-two = two c.args.size c.args.sides (omega (arith, c.if-size-le1.false)) c.max-top.ensures in
    let of-three = three c.args.size c.args.sides (omega (arith, c.if-size-le2.false)) of-two c.max-top-2.ensures in
    climbing-end (climbing-on (of-three rows s sized some up sided) up (omega (arith, c.if-size-le3.false)) c.max.ensures)
    (omega (arith, most))
