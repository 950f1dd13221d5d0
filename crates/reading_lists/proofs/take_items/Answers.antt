-- `take_items` meets its contract: with the items taken left to rule 8, what the definition still has to read behind them stays
-- what it had to read at the start.
-- Assumes nothing.
use Prim.Native.Nat.{ℕ, ◌+◌, ◌-◌, ◌*◌, ◌/◌, ◌≤◌, ◌<◌}
use native.Mathlib.Nat.{le-div_iff_mul-le, lt-mul-div-succ, mul-add, mul-one, mul-zero, mul_comm, mul-le-mul_left}
use native.Mathlib.Omega.{arith}
use mathlib.Core.Path.{sym, ap, ◌∙◌, subst}
use lib.ListN.{length}
use Rattle.lookup.specs.IndexLaws.{entered}
use Rattle.std.proofs.Common.{Ok}
use Rattle.refusals.specs.Meaning.{number_of}
use Rattle.refusals.specs.declared.Refusal.{Refusal}
use Rattle.reading_lists.specs.Items.{judgement_of, ItemsTaken}
use Rattle.reading_lists.proofs.Taking.{Taking, taking-start, taking-refused, taking-on, taking-end}
use Rattle.reading_lists.proofs.take_items.Goals.{In-loop-count}
use Rattle.reading_lists.proofs.take_items.Goals as goal

pub loop-count-init : goal.loop-count-init
loop-count-init c =
    subst
    (λ (at : ℕ). let a = c.args in Taking a.p.now a.base a.v a.width 0 at a.keys.now a.first.now a.next.now a.keys.now a.first.now a.next.now)
    (sym (mul-zero c.args.width)) (taking-start c.requires.p_len_bound c.requires.blank)

-- the next item lies within the payload
within : (n width count : ℕ) → 2 ≤ width → count < n / width → width ≤ n - width * count
within n width count some more =
    let whole : (count + 1) * width ≤ n = (le-div_iff_mul-le {k = width} {x = count + 1} {y = n} (omega arith)).0 (omega arith) in
    omega (arith, whole, mul_comm (count + 1) width, mul-add width count 1, mul-one width)

-- behind the last item there is less than one
short : (n width count : ℕ) → 2 ≤ width → n / width ≤ count → n - width * count < width
short n width count some none =
    omega (arith, lt-mul-div-succ n {b = width} (omega arith), mul-le-mul_left width none, mul-add width (n / width) 1, mul-one width)

module _ (c : In-loop-count) where
  enough : c.args.width ≤ length c.args.p.now - c.args.width * c.loop-count.count
  enough = within (length c.args.p.now) c.args.width c.loop-count.count c.requires.shaped.least c.loop-count-test.true

pub returns-in-Err : goal.returns-in-Err
returns-in-Err c =
    taking-refused c.loop-count.invariant c.requires.shaped (enough (goal.at.returns-in-Err c).In-loop-count) c.judge-judged.ensures
    c.at.result.reason (ap judgement_of c.in-Err.is ∙ ap (λ (r : Refusal). number_of r.reason) (sym c.at.ensures))
    c.at.result.place (ap (λ (r : Refusal). r.place) c.at.ensures)

pub loop-count-preserved : goal.loop-count-preserved
loop-count-preserved c =
    let a = c.args in
    subst
    (λ (at : ℕ). Taking a.p.now a.base a.v a.width (c.loop-count.count + 1) at a.keys.now a.first.now a.next.now c.link.new.keys c.link.new.first c.link.new.next)
    (omega (arith, mul-add a.width c.loop-count.count 1, mul-one a.width))
    (taking-on c.loop-count.invariant c.requires.shaped (enough (goal.at.loop-count-preserved c).In-loop-count) c.judge-judged.ensures
    (ap judgement_of c.in_default.is) (entered c.link.ensures c.number_at-number.ensures)
    c.link.auto.keys c.link.auto.first c.link.auto.next)

pub returns : goal.returns
returns c =
    subst
    (λ (n : ℕ). ItemsTaken c.args.p.now c.args.base c.args.v c.args.width c.loop-count.keys c.loop-count.first c.loop-count.next (record { verdict = Ok tt; count = n }))
    (omega arith)
    (taking-end c.loop-count.invariant c.requires.shaped
    (short (length c.args.p.now) c.args.width c.loop-count.count c.requires.shaped.least (omega arith)))
