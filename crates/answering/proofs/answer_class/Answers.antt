-- `answering::answer_class` meets its contract: what the solver found is the answer, and its record is put out.
-- Assumes nothing.
use Prim.Native.Nat.{◌+◌, ◌≤◌}
use native.Mathlib.Omega.{arith}
use native.Mathlib.Nat.{le_trans}
use mathlib.Core.Path.{◌≡◌, sym, ◌∙◌, subst}
use Rattle.columns.specs.Slot.{half_r}
use Rattle.format.specs.Simplex.{simplices}
use Rattle.format.specs.Reading.{question_of}
use Rattle.lookup.specs.Numbered.{simplices_in}
use Rattle.lent_lists.specs.HeldLaws.{held-counted}
use Rattle.solver.specs.Columns.{MatrixIn}
use Rattle.solver.specs.Room.{room_small}
use Rattle.answering.specs.Meaning.{MatrixOf}
use Rattle.answering.proofs.Lists.{complex_held, numbers-list, numbers_fit, matrix-in, members-room, vertices-are}
use Rattle.answering.proofs.Told.{answers-class, dimension_few}
use Rattle.answering.proofs.answer_class.Goals.{After-number_vertices, After-numbers_of-rows, After-matrix_of-matrix}
use Rattle.answering.proofs.answer_class.Goals as goal

-- what is known of the matrix
module _ (c : After-matrix_of-matrix) where
  low : c.args.dim ≤ 2
  low = subst (λ n. n ≤ 2) (sym c.requires.dim_value) (dimension_few (question_of c.args.read.head.question) c.args.read.head.d c.requires.asking.head.dimension)

  is : MatrixOf (complex_held c.requires.asking.held) c.args.dim c.args.e_keys.now c.args.t_sides.now c.args.s_sides.now c.matrix_of-matrix.result
  is = c.matrix_of-matrix.ensures _ (held-counted c.requires.asking.held)

  abbrev as_matrix : MatrixIn 64 c.matrix_of-matrix.result
  as_matrix = matrix-in c.requires.asking.held c.args.dim _ is.sides low is.rows is.columns is.width

-- the vertices are listed by number
vertices-listed : (c : After-number_vertices)
    → simplices_in 1 c.number_vertices.new.keys c.matrix_of-matrix.result.rows ≡ simplices (complex_held c.requires.asking.held) c.args.dim
vertices-listed c =
    c.number_vertices.ensures
    ∙ vertices-are (complex_held c.requires.asking.held) _ _ c.if-dim-eq0.true (c.matrix_of-matrix.ensures _ (held-counted c.requires.asking.held)).rows

-- simplices of other dimensions by their numbers
rows-listed : (c : After-numbers_of-rows) → c.args.dim ≤ 2
    → simplices_in (c.args.dim + 1) c.numbers_of-rows.result.now c.matrix_of-matrix.result.rows ≡ simplices (complex_held c.requires.asking.held) c.args.dim
rows-listed c low =
    let some = c.if-dim-eq0.false in
    numbers-list c.requires.asking.held c.args.dim _ _ c.numbers_of-rows.ensures (omega arith) (omega arith) (omega arith)
    (c.matrix_of-matrix.ensures _ (held-counted c.requires.asking.held)).rows

pub class-requires-clause-matrix_in : goal.class-requires-clause-matrix_in
class-requires-clause-matrix_in c = as_matrix (goal.at.class-requires-clause-matrix_in c).After-matrix_of-matrix

pub class-requires-clause-h_in_bounds : goal.class-requires-clause-h_in_bounds
class-requires-clause-h_in_bounds c = omega (arith, room_small, c.requires.in_bounds_2)

pub put_chain-requires-clause-n_in_bounds_2 : goal.put_chain-requires-clause-n_in_bounds_2
put_chain-requires-clause-n_in_bounds_2 c =
    le_trans
    (members-room (complex_held c.requires.asking.held) c.requires.asking.held.sound c.args.dim _ (vertices-listed (goal.at.put_chain-requires-clause-n_in_bounds_2 c).After-number_vertices) _)
    c.requires.in_bounds

pub returns-then-dim-eq0 : goal.returns-then-dim-eq0
unfolding half_r matrix-in
returns-then-dim-eq0 c = λ k.
    let at = goal.at.returns-then-dim-eq0 c in
    answers-class k c.requires.dim_value _ c.requires.question_value (vertices-listed at.After-number_vertices)
    (c.class.ensures (as_matrix at.After-matrix_of-matrix)) c.put_chain.ensures

pub put_chain-requires-2-clause-n_in_bounds : goal.put_chain-requires-2-clause-n_in_bounds
put_chain-requires-2-clause-n_in_bounds c =
    let at = (goal.at.put_chain-requires-2-clause-n_in_bounds c).After-matrix_of-matrix in
    numbers_fit c.requires.asking.held _ _ c.numbers_of-rows.ensures (omega (arith, c.if-dim-eq0.false)) (omega (arith, low at)) (is at).rows

pub put_chain-requires-2-clause-n_in_bounds_2 : goal.put_chain-requires-2-clause-n_in_bounds_2
put_chain-requires-2-clause-n_in_bounds_2 c =
    let at = goal.at.put_chain-requires-2-clause-n_in_bounds_2 c in
    le_trans
    (members-room (complex_held c.requires.asking.held) c.requires.asking.held.sound c.args.dim _ (rows-listed at.After-numbers_of-rows (low at.After-matrix_of-matrix)) _)
    c.requires.in_bounds

pub returns : goal.returns
unfolding half_r matrix-in
returns c = λ k.
    let at = goal.at.returns c in
    answers-class k c.requires.dim_value _ c.requires.question_value (rows-listed at.After-numbers_of-rows (low at.After-matrix_of-matrix))
    (c.class.ensures (as_matrix at.After-matrix_of-matrix)) c.put_chain-2.ensures
