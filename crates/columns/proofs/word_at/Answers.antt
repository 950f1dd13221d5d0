-- `word_at` reads the eight bytes of the part as one number.
-- Assumes nothing.
use native.Mathlib.Omega.{arith}
use native.Mathlib.Nat.{add-sub_cancel_left}
use Rattle.std.proofs.lemmas.Result.{MatchResult-at_ok}
use Rattle.columns.proofs.Words.{word-read}
use Rattle.columns.proofs.word_at.Goals as goal

pub returns : goal.returns
returns c =
    word-read (add-sub_cancel_left c.args.at 8) (λ i. omega (arith, c.type_inv.col i))
    (MatchResult-at_ok _ _ _ c.unwrap.ensures c.try_into.ensures.1).same c.from_le_bytes.ensures
