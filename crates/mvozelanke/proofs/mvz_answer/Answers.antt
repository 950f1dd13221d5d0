-- `mvozelanke::mvz_answer` meets its contract: each return is one of the promise's cases.
-- Assumes nothing.
use native.Mathlib.Omega.{arith}
use mathlib.Core.Path.{ap, ◌∙◌}
use lib.ListN.{replicate}
use Rattle.mvozelanke.proofs.Laws.{kept}
use Rattle.mvozelanke.proofs.mvz_answer.Goals as goal

pub returns : goal.returns
returns c =
    kept _ _ _ (omega (arith, c.if-room-lt-ROOM_OUT.false)) (omega (arith, c.if-memory-lt-ROOM_WORK.false)) c.answer_file-count.ensures
    (c.clear.ensures ∙ ap (λ n. replicate n 0) c.answer_file-count.auto.work)
