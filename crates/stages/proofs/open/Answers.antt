-- `stages::open` meets its contract: each arm is one case of the header, and the kind's test is the definition's.
use mathlib.Core.Path.{sym, ap, ◌∙◌}
use borrow.Author.Tests.{eq-eqb, ne_eqb}
use Rattle.records.specs.Meaning.{header_of}
use Rattle.refusals.specs.Readings.{refused_by, told}
use Rattle.stages.proofs.Laws.{opened-ended, opened-broken, opened-may, opened-may-not}
use Rattle.stages.proofs.open.Goals as goal

pub returns-in-Ended : goal.returns-in-Ended
returns-in-Ended c =
    let a = c.args in
    ap refused_by c.at.ensures ∙ sym (opened-ended _ a.job.now a.at (told header_of _ _ _ c.header_at.ensures c.in-Ended.is))

pub returns-in-Broken : goal.returns-in-Broken
returns-in-Broken c =
    let a = c.args in
    ap refused_by c.at-in-Broken.ensures ∙ sym (opened-broken _ a.job.now a.at (told header_of _ _ _ c.header_at.ensures c.in-Broken.is))

pub returns-then-found-kind : goal.returns-then-found-kind
returns-then-found-kind c =
    let a = c.args in
    ap refused_by c.at-then-found-kind.ensures
    ∙ sym (opened-may-not _ a.job.now a.at _ _ (told header_of _ _ _ c.header_at.ensures c.in-Whole.is) (ne_eqb _ _ (λ e. c.if-found-kind.true (sym e))))

pub returns-else-found-kind : goal.returns-else-found-kind
returns-else-found-kind c =
    let a = c.args in
    sym (opened-may _ a.job.now a.at _ _ (told header_of _ _ _ c.header_at.ensures c.in-Whole.is) (eq-eqb _ _ (sym c.if-found-kind.false)))
