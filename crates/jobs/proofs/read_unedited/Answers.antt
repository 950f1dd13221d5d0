-- `jobs::read_unedited` meets its contract: the length, the head's record, the head, and then the rest.
-- Assumes nothing.
use Prim.Native.Nat.{◌≤◌}
use mathlib.Core.Path.{◌≡◌, ap, sym, ◌∙◌}
use native.Mathlib.Omega.{arith}
use lib.ListN.{length}
use lib.Dec.{eqb}
use Rattle.format.specs.Numbers.{small, head_kind}
use Rattle.format.specs.Reading.{accepted, read_head, payload_at}
use Rattle.format.specs.Opened.{opened}
use Rattle.format.proofs.Places.{too_long_lem}
use Rattle.refusals.specs.Readings.{refused_by, reading_of, told, handed_up}
use Rattle.heads.specs.Meaning.{head_of}
use Rattle.stages.specs.Meaning.{opened_of}
use Rattle.jobs.proofs.Laws.{unedited-refused, unedited-same, head-refused, head-misshapen, head-bad, head-fine, head-known}
use Rattle.jobs.proofs.read_unedited.Goals.{After-read_head, In_ok-size}
use Rattle.jobs.proofs.read_unedited.Goals as goal

-- the first record is whole and a head's
module _ (c : In_ok-size) where
  short : length c.args.job.now ≤ 6690
  short = omega (arith, c.if-job-gt-BYTES.false)

  whole : opened (eqb head_kind) c.args.job.now 0 ≡ accepted c.in_ok-size.size
  whole = told opened_of _ _ _ c.open.ensures c.in_ok-size.was

-- it has a head's four bytes, and the head was read
module _ (c : After-read_head) where
  four : c.in_ok-size.size ≡ 4
  four = omega (arith, c.if-size-ne-BYTES.false)

  head_read : reading_of head_of c.read_head.result ≡ read_head small (payload_at c.args.job.now 0 c.in_ok-size.size)
  head_read = c.read_head.ensures.reading ∙ ap (read_head small) c.payload-p.ensures

pub returns-then-job-gt-BYTES : goal.returns-then-job-gt-BYTES
returns-then-job-gt-BYTES c =
    unedited-refused c.at.result (too_long_lem small _ c.if-job-gt-BYTES.true ∙ ap refused_by (sym c.at.ensures))

pub returns-in_err-size : goal.returns-in_err-size
returns-in_err-size c =
    let b = c.args.job.now in
    rw (handed_up c.from_residual.result c.from_residual.ensures.1)
    (unedited-refused _ (head-refused b (omega (arith, c.if-job-gt-BYTES.false)) _ _ (told opened_of _ _ _ c.open.ensures c.in_err-size.was)))

pub returns-then-size-ne-BYTES : goal.returns-then-size-ne-BYTES
returns-then-size-ne-BYTES c =
    let ok = (goal.at.returns-then-size-ne-BYTES c).In_ok-size in
    let at = c.at-then-size-ne-BYTES in
    unedited-refused at.result
    (head-misshapen c.args.job.now (short ok) c.in_ok-size.size (whole ok) c.if-size-ne-BYTES.true ∙ ap refused_by (sym at.ensures))

pub returns-in_err-head : goal.returns-in_err-head
returns-in_err-head c =
    let ok = (goal.at.returns-in_err-head c).In_ok-size in
    let read = (goal.at.returns-in_err-head c).After-read_head in
    let up = c.from_residual-in_err-head in
    rw (handed_up up.result up.ensures.1)
    (unedited-refused _
    (head-bad c.args.job.now (short ok) c.in_ok-size.size (whole ok) (four read) _ _
    (told (reading_of head_of) _ _ _ (head_read read) c.in_err-head.was)))

pub after_head-requires-clause-sound_head : goal.after_head-requires-clause-sound_head
after_head-requires-clause-sound_head c = head-known _ _ c.read_head.ensures c.in_ok-head.was

pub returns : goal.returns
returns c =
    let ok = (goal.at.returns c).In_ok-size in
    let read = (goal.at.returns c).After-read_head in
    unedited-same c.after_head.result
    (head-fine c.args.job.now (short ok) c.in_ok-size.size (whole ok) (four read) _
    (told (reading_of head_of) _ _ _ (head_read read) c.in_ok-head.was))
    c.after_head.ensures
