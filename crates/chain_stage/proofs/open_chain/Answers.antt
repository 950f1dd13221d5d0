-- `chain_stage::open_chain` meets its contract: each return stands behind the tests that lead to its case.
use native.Mathlib.Omega.{arith}
use mathlib.Core.Path.{sym, ap, ◌∙◌}
use Rattle.records.specs.Meaning.{header_of}
use Rattle.refusals.specs.Readings.{refused_by, told}
use Rattle.chain_stage.proofs.Laws.{asked-ended, asked-broken, asked-uneven, asked-long, asked-positions, asked-other, asked-flat, asked-far, asked-walk}
use Rattle.chain_stage.proofs.open_chain.Goals as goal

pub returns-then-size-ne0 : goal.returns-then-size-ne0
returns-then-size-ne0 c =
    let a = c.args in
    let is = told header_of _ _ _ c.header_at.ensures c.in-Whole.is in
    ap refused_by c.at-then-size-ne0.ensures ∙ sym (asked-uneven a.job.now a.at a.dim _ _ is (omega arith) c.if-size-ne0.true)

pub returns-then-size-gt-BYTES : goal.returns-then-size-gt-BYTES
returns-then-size-gt-BYTES c =
    let a = c.args in
    let is = told header_of _ _ _ c.header_at.ensures c.in-Whole.is in
    ap refused_by c.at-then-size-gt-BYTES.ensures ∙ sym (asked-long a.job.now a.at a.dim _ _ is (omega arith) (omega arith))

pub returns-then-kind-eq-CHAIN : goal.returns-then-kind-eq-CHAIN
returns-then-kind-eq-CHAIN c =
    let a = c.args in
    let is = told header_of _ _ _ c.header_at.ensures c.in-Whole.is in
    sym (asked-positions a.job.now a.at a.dim _ _ is (omega arith) (omega arith) (omega arith))

pub returns-then-kind-ne-WALK : goal.returns-then-kind-ne-WALK
returns-then-kind-ne-WALK c =
    let a = c.args in
    let is = told header_of _ _ _ c.header_at.ensures c.in-Whole.is in
    ap refused_by c.at-then-kind-ne-WALK.ensures ∙ sym (asked-other a.job.now a.at a.dim _ _ is c.if-kind-eq-CHAIN.false c.if-kind-ne-WALK.true)

pub returns-then-dim-ne1 : goal.returns-then-dim-ne1
returns-then-dim-ne1 c =
    let a = c.args in
    let is = told header_of _ _ _ c.header_at.ensures c.in-Whole.is in
    ap refused_by c.at-then-dim-ne1.ensures ∙ sym (asked-flat a.job.now a.at a.dim _ _ is c.if-kind-eq-CHAIN.false c.if-dim-ne1.true)

pub returns-then-size-gt-BYTES-2 : goal.returns-then-size-gt-BYTES-2
returns-then-size-gt-BYTES-2 c =
    let a = c.args in
    let is = told header_of _ _ _ c.header_at.ensures c.in-Whole.is in
    ap refused_by c.at-then-size-gt-BYTES-2.ensures ∙ sym (asked-far a.job.now a.at a.dim _ _ is c.if-kind-eq-CHAIN.false (omega arith) (omega arith) (omega arith))

pub returns-in-Ended : goal.returns-in-Ended
returns-in-Ended c =
    let a = c.args in
    ap refused_by c.at.ensures ∙ sym (asked-ended a.job.now a.at a.dim (told header_of _ _ _ c.header_at.ensures c.in-Ended.is))

pub returns-in-Broken : goal.returns-in-Broken
returns-in-Broken c =
    let a = c.args in
    ap refused_by c.at-in-Broken.ensures ∙ sym (asked-broken a.job.now a.at a.dim (told header_of _ _ _ c.header_at.ensures c.in-Broken.is))

pub returns-else-size-gt-BYTES-2 : goal.returns-else-size-gt-BYTES-2
returns-else-size-gt-BYTES-2 c =
    let a = c.args in
    let is = told header_of _ _ _ c.header_at.ensures c.in-Whole.is in
    sym (asked-walk a.job.now a.at a.dim _ _ is c.if-kind-eq-CHAIN.false (omega arith) (omega arith) (omega arith))
