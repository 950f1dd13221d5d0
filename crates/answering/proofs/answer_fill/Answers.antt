-- `answering::answer_fill` meets its contract: what the solver told is the answer, and its record is put out.
-- Assumes nothing.
use Prim.Native.Nat.{◌+◌, ◌≤◌}
use native.Mathlib.Omega.{arith}
use native.Mathlib.Nat.{le_trans}
use mathlib.Core.Path.{◌≡◌, sym, subst}
use lib.ListN.{length-take, length-drop}
use Rattle.chains.specs.Chain.{empty}
use Rattle.columns.specs.Slot.{half_v}
use Rattle.format.specs.Simplex.{simplices}
use Rattle.format.specs.Reading.{question_of}
use Rattle.lookup.specs.Numbered.{simplices_in}
use Rattle.lent_lists.specs.HeldLaws.{held-counted, few-simplices}
use Rattle.solver.specs.Columns.{MatrixIn}
use Rattle.solver.specs.Room.{room_small}
use Rattle.solver.specs.Solved.{fill-says}
use Rattle.answering.specs.Meaning.{MatrixOf}
use Rattle.answering.proofs.Lists.{complex_held, numbers-list, numbers_fit, matrix-in, members-room}
use Rattle.answering.proofs.Told.{answers-unfilled, answers-patch, dimension_few}
use Rattle.answering.proofs.answer_fill.Goals.{After-numbers_of-cols, After-matrix_of-matrix}
use Rattle.answering.proofs.answer_fill.Goals as goal

-- what is known of the matrix
module _ (c : After-matrix_of-matrix) where
  low : c.args.dim ≤ 2
  low = subst (λ n. n ≤ 2) (sym c.requires.dim_value) (dimension_few (question_of c.args.read.head.question) c.args.read.head.d c.requires.asking.head.dimension)

  is : MatrixOf (complex_held c.requires.asking.held) c.args.dim c.args.e_keys.now c.args.t_sides.now c.args.s_sides.now c.matrix_of-matrix.result
  is = c.matrix_of-matrix.ensures _ (held-counted c.requires.asking.held)

  abbrev as_matrix : MatrixIn 64 c.matrix_of-matrix.result
  as_matrix = matrix-in c.requires.asking.held c.args.dim _ is.sides low is.rows is.columns is.width

-- the patch is made of the columns
patch-list : (c : After-numbers_of-cols) → c.args.dim ≤ 2
    → simplices_in (c.args.dim + 2) c.numbers_of-cols.result.now c.matrix_of-matrix.result.columns ≡ simplices (complex_held c.requires.asking.held) (c.args.dim + 1)
patch-list c low =
    numbers-list c.requires.asking.held (c.args.dim + 1) _ _ c.numbers_of-cols.ensures (omega arith) (omega arith) (omega arith)
    (c.matrix_of-matrix.ensures _ (held-counted c.requires.asking.held)).columns

pub fill-filled-requires-clause-matrix_in : goal.fill-filled-requires-clause-matrix_in
fill-filled-requires-clause-matrix_in c = as_matrix (goal.at.fill-filled-requires-clause-matrix_in c).After-matrix_of-matrix

pub fill-filled-requires-clause-h_in_bounds : goal.fill-filled-requires-clause-h_in_bounds
fill-filled-requires-clause-h_in_bounds c = omega (arith, room_small, c.requires.in_bounds_2)

pub put_chain-requires-clause-n_in_bounds : goal.put_chain-requires-clause-n_in_bounds
put_chain-requires-clause-n_in_bounds c =
    let at = (goal.at.put_chain-requires-clause-n_in_bounds c).After-matrix_of-matrix in
    numbers_fit c.requires.asking.held _ _ c.numbers_of-cols.ensures (omega arith) (omega (arith, low at)) (is at).columns

pub put_chain-requires-clause-n_in_bounds_2 : goal.put_chain-requires-clause-n_in_bounds_2
put_chain-requires-clause-n_in_bounds_2 c =
    let at = goal.at.put_chain-requires-clause-n_in_bounds_2 c in
    le_trans
    (members-room (complex_held c.requires.asking.held) c.requires.asking.held.sound (c.args.dim + 1) _ (patch-list at.After-numbers_of-cols (low at.After-matrix_of-matrix)) _)
    c.requires.in_bounds

pub put_chain-requires-clause-n_bound : goal.put_chain-requires-clause-n_bound
put_chain-requires-clause-n_bound c =
    simp (length-take, length-drop) (omega (
      arith,
      (is (goal.at.put_chain-requires-clause-n_bound c).After-matrix_of-matrix).columns,
      few-simplices (complex_held c.requires.asking.held) c.requires.asking.held.sound (c.args.dim + 1),
      c.fill-filled.auto.cur,
    ))

pub returns-then-filled : goal.returns-then-filled
unfolding half_v matrix-in
returns-then-filled c = λ k.
    let at = goal.at.returns-then-filled c in
    answers-patch k c.requires.dim_value c.requires.question_value _
    (patch-list at.After-numbers_of-cols (low at.After-matrix_of-matrix))
    (fill-says (c.fill-filled.ensures (as_matrix at.After-matrix_of-matrix)) c.if-filled.true)
    c.put_chain.ensures

pub returns-else-not-closed : goal.returns-else-not-closed
unfolding matrix-in
returns-else-not-closed c = λ k.
    answers-unfilled k c.requires.dim_value c.requires.question_value c.rim_closed-closed.ensures empty
    c.if-not-closed.false
    (fill-says (c.fill-filled.ensures (as_matrix (goal.at.returns-else-not-closed c).After-matrix_of-matrix)) c.if-filled.false)
    c.refuse-else-filled.ensures
