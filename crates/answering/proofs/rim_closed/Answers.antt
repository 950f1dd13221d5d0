-- `answering::rim_closed` meets its contract: the boundary of vertices is empty, and that of other chains is looked at.
-- Assumes nothing.
use Prim.Native.Nat.{◌+◌, ◌-◌}
use native.Mathlib.Omega.{arith}
use Rattle.lent_lists.specs.HeldLaws.{held-counted, few-simplices}
use Rattle.solver.specs.Columns.{MatrixIn}
use Rattle.answering.specs.Meaning.{MatrixOf}
use Rattle.answering.proofs.Lists.{complex_held, rim-none, rim-below, matrix-in}
use Rattle.answering.proofs.rim_closed.Goals.{After-matrix_of-matrix}
use Rattle.answering.proofs.rim_closed.Goals as goal

-- what is known of the matrix
module _ (c : After-matrix_of-matrix) where
  is : MatrixOf (complex_held c.requires.asking.held) (c.args.dim - 1) c.args.e_keys.now c.args.t_sides.now c.args.s_sides.now c.matrix_of-matrix.result
  is = c.matrix_of-matrix.ensures _ (held-counted c.requires.asking.held)

  abbrev as_matrix : MatrixIn 64 c.matrix_of-matrix.result
  as_matrix = matrix-in c.requires.asking.held (c.args.dim - 1) _ is.sides (omega (arith, c.requires.dim_bound)) is.rows is.columns is.width

pub returns-then-dim-eq0 : goal.returns-then-dim-eq0
returns-then-dim-eq0 c = rim-none (complex_held c.requires.asking.held) _ _ c.if-dim-eq0.true

pub rim_closed-requires-clause-matrix_in : goal.rim_closed-requires-clause-matrix_in
rim_closed-requires-clause-matrix_in c = as_matrix (goal.at.rim_closed-requires-clause-matrix_in c).After-matrix_of-matrix

pub rim_closed-requires-clause-columns_bound : goal.rim_closed-requires-clause-columns_bound
rim_closed-requires-clause-columns_bound c =
    omega (
      arith,
      (is (goal.at.rim_closed-requires-clause-columns_bound c).After-matrix_of-matrix).columns,
      few-simplices (complex_held c.requires.asking.held) c.requires.asking.held.sound (c.args.dim - 1 + 1),
    )

pub returns : goal.returns
unfolding matrix-in
returns c =
    rim-below (complex_held c.requires.asking.held) _ (omega (arith, c.if-dim-eq0.false))
    (c.rim_closed.ensures (as_matrix (goal.at.returns c).After-matrix_of-matrix))
