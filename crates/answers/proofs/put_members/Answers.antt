-- `answers::put_members` meets its contract: what is left to put are the bytes of the members to come.
use Prim.Native.Nat.{ℕ, ◌<◌}
use native.Mathlib.Omega.{arith}
use mathlib.Core.Path.{◌≡◌, sym, ap, ◌∙◌}
use mathlib.Core.List.{List, []}
use lib.ListN.{length, get_or, take, length-map, length-take}
use lib.Seq.{get_or-take}
use Rattle.std.proofs.lemmas.List.{at_drop_all}
use Rattle.columns.specs.Column.{chain_of}
use Rattle.keys.specs.Number.{digits_of}
use Rattle.lists.specs.Meaning.{vertices_of}
use Rattle.format.specs.Simplex.{Simplex}
use Rattle.format.specs.Answer.{members_from}
use Rattle.lookup.specs.Numbered.{simplices_in}
use Rattle.lookup.specs.NumberedLaws.{length-in, simplex-in}
use Rattle.writer.specs.Meaning.{simplex_bytes, list_bytes, vertex_byte}
use Rattle.writer.proofs.Runs.{run-starts, run-room, run-goes-on, run-skips, run-ends}
use Rattle.answers.proofs.Members.{next-member, no-member}
use Rattle.answers.proofs.put_members.Goals.{In-loop-i, then-test, else-test}
use Rattle.answers.proofs.put_members.Goals as goal

-- the simplex at hand
module _ (c : In-loop-i) where
  abbrev list : List Simplex
  list = simplices_in c.args.size c.args.keys.now c.args.n

  abbrev key : ℕ
  key = get_or (take c.args.n c.args.keys.now) c.loop-i.i 0

  here : c.loop-i.i < length list
  here = omega (arith, length-take c.args.n c.args.keys.now, length-in c.args.size c.args.keys.now c.args.n c.requires.n_in_bounds)

  stands : get_or list c.loop-i.i [] ≡ digits_of c.args.size key
  stands =
      let within : c.loop-i.i < c.args.n = omega (arith, length-take c.args.n c.args.keys.now) in
      simplex-in c.args.size c.args.keys.now c.args.n c.requires.n_in_bounds c.loop-i.i within ∙
      ap (digits_of c.args.size) (sym (get_or-take c.args.n c.args.keys.now c.loop-i.i 0 within))

pub loop-i-init : goal.loop-i-init
loop-i-init c = run-starts _ _ _

pub put_simplex-requires : goal.put_simplex-requires
put_simplex-requires c =
    let p = (goal.at.put_simplex-requires c).In-loop-i in
    let s = vertices_of c.simplex_of-s.result in
    let next = next-member (chain_of c.args.col.now) (list p) c.loop-i.i s [] (here p) (stands p ∙ sym c.simplex_of-s.ensures) (sym c.test.ensures ∙ c.if-test.true) in
    omega (arith, run-room c.loop-i.invariant c.requires.n_in_bounds_2 (simplex_bytes s) _ next, length-map s vertex_byte)

pub loop-i-preserved : goal.loop-i-preserved
loop-i-preserved c =
    let p = (goal.at.loop-i-preserved c).In-loop-i in
    let chain = chain_of c.args.col.now in
    elim c.if-test.branch [
      | then-test w ↦
          let s = vertices_of w.simplex_of-s.result in
          let next = next-member chain (list p) c.loop-i.i s [] (here p) (stands p ∙ sym w.simplex_of-s.ensures) (sym c.test.ensures ∙ w.if-test.true) in
          rw (w.out-is, w.next-is) (run-goes-on c.loop-i.invariant c.requires.n_in_bounds_2 _ _ next (record { lent = w.put_simplex.ensures; next = omega (arith, w.size-next.ensures, length-map s vertex_byte) }))
      | else-test w ↦
          rw (w.out-is, w.next-is) (run-skips c.loop-i.invariant _ (no-member chain (list p) c.loop-i.i _ [] (here p) (stands p) (sym c.test.ensures ∙ w.if-test.false)))
    ]

pub returns : goal.returns
unfolding members_from list_bytes
returns c =
    let list = simplices_in c.args.size c.args.keys.now c.args.n in
    run-ends c.loop-i.invariant
    (at_drop_all (λ s. list_bytes (members_from c.loop-i.i (chain_of c.args.col.now) s)) list c.loop-i.i (omega (arith, length-take c.args.n c.args.keys.now, length-in c.args.size c.args.keys.now c.args.n c.requires.n_in_bounds)))
