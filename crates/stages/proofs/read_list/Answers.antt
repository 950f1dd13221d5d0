-- `stages::read_list` meets its contract: a record of a list's shape has a payload of whole items, which are taken.
-- Assumes nothing.
use Prim.Native.Nat.{ℕ, ◌+◌, ◌*◌, ◌^◌, ◌≤◌, ◌<◌}
use native.Mathlib.Omega.{arith}
use mathlib.Core.Path.{◌≡◌, ◌∙◌, ap, subst}
use lib.ListN.{length}
use lib.Dec.{eqb}
use Rattle.format.specs.Opened.{opened_inside, payload-long}
use Rattle.lookup.specs.IndexLaws.{indexed-none}
use Rattle.refusals.specs.Readings.{handed_up}
use Rattle.reading_lists.specs.Items.{Shaped}
use Rattle.stages.specs.Meaning.{size_of, size_at, ListOpened, SizedList}
use Rattle.stages.proofs.Laws.{list-taken}
use Rattle.stages.proofs.read_list.Goals.{After-payload-p, In_ok-size}
use Rattle.stages.proofs.read_list.Goals as goal

pub returns-in_err-size : goal.returns-in_err-size
returns-in_err-size c =
    let a = c.args in
    rw (handed_up c.from_residual.result c.from_residual.ensures.1)
    (record {
      reads = λ faces. subst (ListOpened a.job.now a.at a.kind) c.in_err-size.was c.open_list.ensures a.v faces;
      indexed = indexed-none c.requires.blank.none;
    })

-- the record stands there, with so many bytes behind its header
module _ (c : In_ok-size) where
  abbrev size : ℕ
  size = c.in_ok-size.size

  sized : SizedList c.args.job.now c.args.at c.args.kind size
  sized = subst (ListOpened c.args.job.now c.args.at c.args.kind) c.in_ok-size.was c.open_list.ensures

  -- and there is room for its items
  roomy : size ≤ c.args.kind * length c.args.keys.now
  roomy =
      let is : size_at c.args.job.now c.args.at c.args.kind ≡ size = ap size_of sized.stands in
      omega (arith, is, c.requires.room_at (omega (arith, is, sized.fits)))

  inside : c.args.at + 6 + size ≤ length c.args.job.now
  inside = opened_inside (eqb c.args.kind) c.args.job.now c.args.at size sized.stands

  -- so what stands behind it is a number of the machine
  fits : c.args.at + 6 + size < 2 ^ 64
  fits = omega (arith, inside, c.well_formed.0.0)

pub overflow_add-start : goal.overflow_add-start
overflow_add-start c = omega (arith, inside c)

-- the payload has the shape of a list
module _ (c : After-payload-p) (sized : SizedList c.args.job.now c.args.at c.args.kind c.in_ok-size.size) (inside : c.args.at + 6 + c.in_ok-size.size ≤ length c.args.job.now) where
  long : length c.payload-p.result.now ≡ c.in_ok-size.size
  long =
      let a = c.args in
      ap length c.payload-p.ensures ∙ payload-long a.job.now a.at c.in_ok-size.size inside

  shaped : Shaped c.payload-p.result.now (c.args.at + 6) c.args.kind
  shaped = record {
    least = omega (arith, c.requires.le_kind);
    most = omega (arith, c.requires.le_kind);
    fits = omega (arith, long, sized.fits);
    places = omega (arith, long, inside, c.well_formed.0.0);
  }

pub take_items-items-requires : goal.take_items-items-requires
take_items-items-requires c =
    let ok = (goal.at.take_items-items-requires c).In_ok-size in
    let p = (goal.at.take_items-items-requires c).After-payload-p in
    record { shaped = shaped p (sized ok) (inside ok); p_len_bound = omega (arith, long p (sized ok) (inside ok), roomy ok); blank = c.requires.blank }

pub overflow_add-result : goal.overflow_add-result
overflow_add-result c = omega (arith, fits (goal.at.overflow_add-result c).In_ok-size)

pub returns : goal.returns
returns c =
    let a = c.args in
    let ok = (goal.at.returns c).In_ok-size in
    let list = sized ok in
    list-taken a.job.now a.at a.kind a.v (size ok) list.stands c.payload-p.ensures (shaped (goal.at.returns c).After-payload-p list (inside ok)) c.take_items-items.ensures
    list.even list.fits
