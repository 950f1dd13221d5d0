-- `stages::read_nothing` meets its contract: a record of a list's shape has no room for an item, so it has none.
-- Assumes nothing.
use Prim.Native.Nat.{ℕ, ◌+◌, ◌^◌, ◌<◌}
use native.Mathlib.Omega.{arith}
use mathlib.Core.Path.{◌≡◌, sym, ◌∙◌, ap, subst}
use lib.Dec.{eqb}
use Rattle.format.specs.Reading.{accepted}
use Rattle.format.specs.Opened.{opened_inside}
use Rattle.lookup.specs.NumberedLaws.{none_in}
use Rattle.refusals.specs.Readings.{handed_up, not_read, same_read}
use Rattle.stages.specs.Meaning.{size_of, size_at, ListOpened, SizedList}
use Rattle.stages.specs.declared.ListRead.{ListRead}
use Rattle.stages.proofs.Laws.{list-nothing}
use Rattle.stages.proofs.read_nothing.Goals.{In_ok-size}
use Rattle.stages.proofs.read_nothing.Goals as goal

-- a record of a list's shape stands there
module _ (c : In_ok-size) where
  abbrev size : ℕ
  size = c.in_ok-size.size

  sized : SizedList c.args.job.now c.args.at c.args.kind size
  sized = subst (ListOpened c.args.job.now c.args.at c.args.kind) c.in_ok-size.was c.open_list.ensures

  none : size ≡ 0
  none =
      let is : size_at c.args.job.now c.args.at c.args.kind ≡ size = ap size_of sized.stands in
      omega (arith, is, c.requires.room_at (omega (arith, is, sized.fits)))

  fits : c.args.at + 6 + size < 2 ^ 64
  fits = omega (arith, opened_inside (eqb c.args.kind) c.args.job.now c.args.at size sized.stands, c.well_formed.0.0)

pub overflow_add-result : goal.overflow_add-result
overflow_add-result c = omega (arith, fits c)

pub overflow_add-result-2 : goal.overflow_add-result-2
overflow_add-result-2 c = omega (arith, fits c)

pub returns-in_err-size : goal.returns-in_err-size
returns-in_err-size c =
    let a = c.args in
    rw (handed_up c.from_residual.result c.from_residual.ensures.1)
    (record {
      reads = λ v faces keys. sym (subst (ListOpened a.job.now a.at a.kind) c.in_err-size.was c.open_list.ensures v faces);
      none = λ l f. absurd (not_read f);
    })

pub returns : goal.returns
returns c =
    let a = c.args in
    record {
      reads = λ v faces keys.
          ap (λ l. accepted (record { list = l; next = a.at + 6 + size c })) (none_in a.kind keys)
          ∙ sym (list-nothing a.job.now a.at a.kind v faces (size c) (sized c).stands (sized c).even (none c) (omega (arith, c.requires.le_kind)));
      none = λ l f. sym (ap (λ (x : ListRead). x.count) (same_read f));
    }
