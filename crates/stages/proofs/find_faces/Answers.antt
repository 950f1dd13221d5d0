-- `stages::find_faces` meets its contract: the look-up tells the first of the items taken that lacks a facet, and that one lies
-- within the file.
-- Assumes nothing.
use Prim.Native.Nat.{◌+◌, ◌*◌, ◌≤◌, ◌<◌}
use native.Mathlib.Nat.{mul-suc, mul-le-mul_left}
use native.Mathlib.Omega.{arith}
use mathlib.Core.Path.{ap, ◌∙◌}
use lib.ListN.{length}
use Rattle.refusals.specs.Meaning.{number_of}
use Rattle.refusals.specs.Readings.{handed_up}
use Rattle.refusals.specs.declared.Refusal.{Refusal}
use Rattle.stages.proofs.Laws.{all_found, taken_refused, lacking-refused}
use Rattle.stages.proofs.find_faces.Goals.{In-Err}
use Rattle.stages.proofs.find_faces.Goals as goal

-- the first item that lacks a facet lies within the file
inside : (c : In-Err) → c.args.at + 6 + c.args.kind * c.in-Err.rank + c.args.kind ≤ length c.args.job.now
inside c =
    let rank = c.in-Err.rank in
    let lacks : rank < c.args.taken.count = c.in-Err.ensures.below in
    omega (arith, mul-le-mul_left c.args.kind lacks, mul-suc c.args.kind rank, c.requires.count_in_bounds_2 (omega arith))

pub overflow_add-place : goal.overflow_add-place
overflow_add-place c = omega (arith, inside (goal.at.overflow_add-place c).In-Err, c.well_formed)

pub overflow_mul-place : goal.overflow_mul-place
overflow_mul-place c = omega (arith, inside (goal.at.overflow_mul-place c).In-Err, c.well_formed)

pub overflow_add-place-in-Err : goal.overflow_add-place-in-Err
overflow_add-place-in-Err c = omega (arith, inside (goal.at.overflow_add-place-in-Err c).In-Err, c.well_formed)

pub lack_at-reason-requires : goal.lack_at-reason-requires
lack_at-reason-requires c = inside (goal.at.lack_at-reason-requires c).In-Err

pub returns-in-Err : goal.returns-in-Err
returns-in-Err c =
    λ first next taken faces under.
    lacking-refused taken faces under.sound c.requires.lt_kind.0 c.at.result
    (c.in-Err.ensures.sides faces _ under.proper under.keyed taken.proper taken.indexed.keyed)
    (ap (λ (r : Refusal). number_of r.reason) c.at.ensures ∙ c.lack_at-reason.ensures) (ap (λ (r : Refusal). r.place) c.at.ensures)

pub returns-in_err-verdict : goal.returns-in_err-verdict
returns-in_err-verdict c =
    λ first next taken faces under.
    rw (handed_up c.from_residual.result c.from_residual.ensures.1)
    (taken_refused taken faces under.sound c.requires.lt_kind.0
    (c.in_default.ensures.sides faces _ under.proper under.keyed taken.proper taken.indexed.keyed) c.in_err-verdict.was)

pub returns : goal.returns
returns c =
    λ first next taken faces under.
    all_found taken faces under.sound c.requires.lt_kind.0
    (c.in_default.ensures.sides faces _ under.proper under.keyed taken.proper taken.indexed.keyed) c.in_ok-verdict.was
