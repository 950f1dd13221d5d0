-- `jobs::read_tetrahedra` meets its contract: without an array for them there are none; else they are taken, and their facets
-- are found among the triangles.
-- Assumes nothing.
use Prim.Native.Nat.{ℕ}
use native.Mathlib.Omega.{arith}
use mathlib.Core.Path.{sym, subst}
use Rattle.lookup.specs.Indexed.{Keyed}
use Rattle.lookup.specs.Numbered.{simplices_in}
use Rattle.stages.specs.Meaning.{ListTaken, TakenList}
use Rattle.jobs.proofs.Laws.{nothing-held}
use Rattle.jobs.proofs.read_tetrahedra.Goals.{In_ok-taken}
use Rattle.jobs.proofs.read_tetrahedra.Goals as goal

pub returns-then-s_keys-eq0 : goal.returns-then-s_keys-eq0
returns-then-s_keys-eq0 c = λ faces under. nothing-held c.read_nothing.ensures

-- the tetrahedra were taken
taken : (c : In_ok-taken) → let a = c.args in
    TakenList a.job.now a.at 4 a.v c.read_list.new.keys c.read_list.new.first c.read_list.new.next c.in_ok-taken.taken
taken c =
    let a = c.args in
    subst (ListTaken a.job.now a.at 4 a.v c.read_list.new.keys c.read_list.new.first c.read_list.new.next) c.in_ok-taken.was c.read_list.ensures

pub returns : goal.returns
returns c = λ faces under.
    let t = taken (goal.at.returns c).In_ok-taken in
    let found = c.find_faces.ensures _ _ t.items faces under in
    record {
      reads = found.reads;
      keyed = λ l f.
          subst (λ (n : ℕ). Keyed (simplices_in 4 c.read_list.new.keys n) c.read_list.new.keys n) (sym (found.found l f).count) t.items.indexed.keyed;
      within = λ l f. omega (arith, (found.found l f).count, t.items.indexed.chained.keyed);
      sided = λ l f. (found.found l f).sided;
    }
