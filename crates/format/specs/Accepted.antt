-- What the theorems on accepted jobs (proofs/Accepted) speak of: lists in another order.
use Rattle.std.specs.Prelude.{ℕ, ◌≡◌, List}
use Rattle.format.specs.Simplex.{Simplex, Complex}
use Rattle.format.specs.Reading.{moved}

-- EDITS. A list in another order: one move away, perhaps to its own place.
pub record Reordered (l l' : List Simplex) : Type 0 where
  pub seen : ℕ
  pub new : ℕ
  pub is : l' ≡ moved seen new l

pub record ReorderedComplex (X Y : Complex) : Type 0 where
  pub v : Y.v ≡ X.v
  pub edges : Reordered X.edges Y.edges
  pub triangles : Reordered X.triangles Y.triangles
  pub tetrahedra : Reordered X.tetrahedra Y.tetrahedra
