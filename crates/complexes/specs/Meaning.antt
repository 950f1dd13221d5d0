-- The code's complex as the definitions' one, and marks by rank as a set of a list's simplices.
use Rattle.std.specs.Prelude.{ℕ, ◌≤◌, ◌≡◌, Bool, List, map, length, take}
use Rattle.format.specs.Simplex.{Simplex, SimplexSet, simplices}
use Rattle.format.specs.Simplex as format
use Rattle.lists.specs.Meaning.{simplices_of}
use Rattle.format.specs.Reading.{question_of}
use Rattle.format.specs.Reading as reading
use Rattle.complexes.specs.declared.Complex.{Complex}
use Rattle.complexes.specs.declared.Job.{Job}

abbrev pub complex_of : Complex → format.Complex
complex_of X =
    record {
      v = X.v;
      edges = simplices_of X.edges;
      triangles = simplices_of X.triangles;
      tetrahedra = simplices_of X.tetrahedra;
    }

-- the simplices of one dimension
abbrev pub list_of : Complex → ℕ → List Simplex
list_of X dim = simplices (complex_of X) dim

-- the job: the code has A as marks, the definitions as the set that they mark
abbrev pub job_of : Job → SimplexSet → reading.Job
job_of j A =
    record { question = question_of j.head.question; d = j.head.d; complex = complex_of j.complex; chain = A }

-- The first marks are the set's members among the simplices of a list, rank by rank.
pub record Marked (on : List Bool) (l : List Simplex) (A : SimplexSet) : Type 0 where
  pub room : length l ≤ length on
  pub marks : take (length l) on ≡ map A l
