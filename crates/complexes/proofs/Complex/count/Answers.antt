-- `complexes::Complex::count` meets its contract: there are v vertices.
use mathlib.Core.Path.{sym}
use Rattle.format.specs.Simplex.{simplices}
use Rattle.format.specs.Vertices.{length-vertices}
use Rattle.complexes.proofs.Complex.count.Goals as goal

pub returns-in-0 : goal.returns-in-0
unfolding simplices
returns-in-0 c = (rw c.in-0.is (sym (length-vertices c.args.self.v)), λ few. few)
