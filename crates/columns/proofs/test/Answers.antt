-- `test` answers the column's bit: the byte that it reads is the one that holds rank i, and it looks at the same bit.
-- Assumes nothing.
use mathlib.Core.Path.{refl}
use Rattle.columns.proofs.Laws.{read-bit}
use Rattle.columns.proofs.test.Goals as goal

pub returns : goal.returns
returns c = read-bit c.args.col.now c.args.i _ refl
