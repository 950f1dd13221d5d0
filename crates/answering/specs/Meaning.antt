-- The answer to a job, put at the front of the output, and which of the lent lists a dimension has.
use Rattle.std.specs.Prelude.{ℕ, ◌+◌, ◌≡◌, cond, List, length, eqb}
use Rattle.format.specs.Numbers.{small}
use Rattle.format.specs.Simplex.{Complex, simplices}
use Rattle.format.specs.Reading.{Job, reading}
use Rattle.format.specs.Answer.{AnswerTo, Answered}
use Rattle.solver.specs.declared.Matrix.{Matrix}
use Rattle.writer.specs.Meaning.{Put}

pub record Answers (j : Job) (before after : List ℕ) (count : ℕ) : Type 0 where
  pub answer : List ℕ
  pub is : AnswerTo j j.question answer
  pub put : Put before 0 answer after count

-- the same of a job file: what answers it, put at the front
pub record AnswersFile (b before after : List ℕ) (count : ℕ) : Type 0 where
  pub answer : List ℕ
  pub is : Answered (reading small b) answer
  pub put : Put before 0 answer after count

-- of the numbers, or the sides, of edges, triangles and tetrahedra, those of a dimension
abbrev pub of_dimension : ℕ → List ℕ → List ℕ → List ℕ → List ℕ
of_dimension dim edges triangles tetrahedra = cond (eqb dim 2) triangles (cond (eqb dim 3) tetrahedra edges)

-- the matrix of a dimension of a complex: so many rows and columns, and the columns' sides among the lent arrays
pub record MatrixOf (X : Complex) (dim : ℕ) (e_keys t_sides s_sides : List ℕ) (m : Matrix) : Type 0 where
  pub rows : m.rows ≡ length (simplices X dim)
  pub columns : m.columns ≡ length (simplices X (dim + 1))
  pub sides : m.sides.now ≡ of_dimension (dim + 1) e_keys t_sides s_sides
  pub width : m.width ≡ dim + 2
