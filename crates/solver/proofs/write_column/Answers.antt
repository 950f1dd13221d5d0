-- `write_column` clears the pair, adds the boundary and turns the bit of the rank over.
-- Assumes nothing.
use Rattle.solver.proofs.Loading.{column-written}
use Rattle.solver.proofs.write_column.Goals as goal

pub returns : goal.returns
returns c = λ rows s sized some most sided.
    column-written c.clear.ensures (c.add_boundary.ensures rows s sized some most sided) c.add_boundary.auto.cur
    c.flip.ensures
