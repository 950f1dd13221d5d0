-- `chain_stage::read_chain` meets its contract: the record is opened, its payload read, and the marks are the set's.
use Prim.Native.Nat.{ℕ, ◌+◌, ◌≤◌}
use native.Mathlib.Omega.{arith}
use mathlib.Core.Path.{◌≡◌, ap, subst, ◌∙◌}
use mathlib.Core.List.{List}
use lib.ListN.{length}
use Rattle.format.specs.Numbers.{small, chain_kind, walk_kind}
use Rattle.format.specs.Reading.{accepted, may_ask, chain_fits}
use Rattle.format.specs.Opened.{record-inside}
use Rattle.refusals.specs.Readings.{reading_of, told, handed_up}
use Rattle.chosen.specs.Meaning.{PositionsRead, WalkRead}
use Rattle.chain_stage.specs.Meaning.{chain_opened, record_of_kind}
use Rattle.chain_stage.proofs.Laws.{asked, chain-refused, stage-refused, positions-told, walk-told, stage-positions, stage-walk}
use Rattle.std.proofs.Common.{rules}
use Rattle.chain_stage.proofs.read_chain.Goals.{In_ok-marks-in-Positions, In_ok-marks-in-Walk, In-Positions, In-Walk}
use Rattle.chain_stage.proofs.read_chain.Goals as goal

-- a record of the kind stands there, whole
module _ (kind : ℕ) (job : List ℕ) (at dim size : ℕ) where
  abbrev Stands : Type 0
  Stands = asked job at dim ≡ accepted (record_of_kind kind job at size)

  inside : length job ≤ 6690 → Stands → at + 6 + size ≤ 6690
  inside few whole = omega (arith, record-inside (may_ask dim) (chain_fits small) job at _ whole)

positions : (c : In-Positions) → Stands chain_kind c.args.job.now c.args.at c.args.dim c.in-Positions.size
positions c =
    let opened = chain_opened c.args.job.now c.args.at in
    told (reading_of opened) _ _ _ c.open_chain.ensures c.in_ok-size.was ∙ ap (λ r. accepted (opened r)) c.in-Positions.is

positions-inside : (c : In-Positions) → c.args.at + 6 + c.in-Positions.size ≤ 6690
positions-inside c = inside chain_kind _ _ _ _ c.requires.job_len_bound (positions c)

walk : (c : In-Walk) → Stands walk_kind c.args.job.now c.args.at c.args.dim c.in-Walk.size
walk c =
    let opened = chain_opened c.args.job.now c.args.at in
    told (reading_of opened) _ _ _ c.open_chain.ensures c.in_ok-size.was ∙ ap (λ r. accepted (opened r)) c.in-Walk.is

walk_inside : (c : In-Walk) → c.args.at + 6 + c.in-Walk.size ≤ 6690
walk_inside c = inside walk_kind _ _ _ _ c.requires.job_len_bound (walk c)

pub overflow_add-start : goal.overflow_add-start
overflow_add-start c = omega (arith, positions-inside c)

pub read_positions-requires : goal.read_positions-requires
read_positions-requires c =
    (c.requires.count_bound.0, omega (arith, positions-inside (goal.at.read_positions-requires c).In-Positions))

pub overflow_add-result : goal.overflow_add-result
overflow_add-result c = omega (arith, positions-inside (goal.at.overflow_add-result c).In-Positions)

pub overflow_add-start-in-Walk : goal.overflow_add-start-in-Walk
overflow_add-start-in-Walk c = omega (arith, walk_inside c)

pub read_walk-requires : goal.read_walk-requires
read_walk-requires c =
    record { base_bound = (omega (arith, walk_inside (goal.at.read_walk-requires c).In-Walk), c.requires.count_bound.1); proper = c.requires.proper; indexed = c.requires.indexed }

pub overflow_add-result-in-Walk : goal.overflow_add-result-in-Walk
overflow_add-result-in-Walk c = omega (arith, walk_inside (goal.at.overflow_add-result-in-Walk c).In-Walk)

pub returns-in_err-size : goal.returns-in_err-size
returns-in_err-size c = λ X own count.
    let a = c.args in
    rw (handed_up c.from_residual.result c.from_residual.ensures.1)
    (stage-refused a.job.now a.at a.dim X _
    (chain-refused a.job.now a.at a.dim X _ _ (told (reading_of (chain_opened a.job.now a.at)) _ _ _ c.open_chain.ensures c.in_err-size.was)))

pub returns-in_err-marks-in-Positions : goal.returns-in_err-marks-in-Positions
returns-in_err-marks-in-Positions c = λ X own count.
    let a = c.args in
    let up = c.from_residual-in_err-marks-in-Positions in
    rw (handed_up up.result up.ensures.1)
    (stage-refused a.job.now a.at a.dim X _
    (positions-told a.job.now a.at a.dim X _ _ c.payload-p.ensures (positions (goal.at.returns-in_err-marks-in-Positions c).In-Positions) count c.read_positions.ensures
    ∙ ap (reading_of _) c.in_err-marks-in-Positions.was))

pub returns-in_err-marks-in-Walk : goal.returns-in_err-marks-in-Walk
returns-in_err-marks-in-Walk c = λ X own count.
    let a = c.args in
    let up = c.from_residual-in_err-marks-in-Walk in
    rw (handed_up up.result up.ensures.1)
    (stage-refused a.job.now a.at a.dim X _
    (walk-told a.job.now a.at a.dim X _ _ c.payload-p-in-Walk.ensures (walk (goal.at.returns-in_err-marks-in-Walk c).In-Walk) own c.read_walk.ensures
    ∙ ap (reading_of _) c.in_err-marks-in-Walk.was))

-- the marks have a place for each rank
positions-marked : (c : In_ok-marks-in-Positions) → length c.in_ok-marks-in-Positions.marks.on ≡ 512
positions-marked c = search rules

walk-marked : (c : In_ok-marks-in-Walk) → length c.in_ok-marks-in-Walk.marks.on ≡ 512
walk-marked c = search rules

pub returns-in_ok-marks-in-Positions : goal.returns-in_ok-marks-in-Positions
returns-in_ok-marks-in-Positions c = λ X own count.
    let a = c.args in
    let ok = c.in_ok-marks-in-Positions in
    stage-positions a.job.now a.at a.dim X _ _ c.payload-p.ensures ok.marks (positions-marked (goal.at.returns-in_ok-marks-in-Positions c).In_ok-marks-in-Positions)
    (positions (goal.at.returns-in_ok-marks-in-Positions c).In-Positions) count c.requires.count_bound.0 (subst (PositionsRead _ _ _) ok.was c.read_positions.ensures)

pub returns-in_ok-marks-in-Walk : goal.returns-in_ok-marks-in-Walk
returns-in_ok-marks-in-Walk c = λ X own count.
    let a = c.args in
    let ok = c.in_ok-marks-in-Walk in
    stage-walk a.job.now a.at a.dim X _ _ c.payload-p-in-Walk.ensures ok.marks (walk-marked (goal.at.returns-in_ok-marks-in-Walk c).In_ok-marks-in-Walk)
    (walk (goal.at.returns-in_ok-marks-in-Walk c).In-Walk) own (omega (arith, c.requires.count_bound, c.requires.indexed.keyed.count))
    (subst (WalkRead _ _ _) ok.was c.read_walk.ensures)
