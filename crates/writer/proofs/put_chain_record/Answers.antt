-- `writer::put_chain_record` meets its contract: the payload is put, and then the header that says how long it is.
use native.Mathlib.Omega.{arith}
use Rattle.writer.specs.Meaning.{mark_bytes}
use Rattle.writer.proofs.Records.{record-put}
use Rattle.writer.proofs.put_chain_record.Goals as goal

pub returns : goal.returns
returns c =
    let a = c.args in
    record-put a.out.now a.at 5 (mark_bytes a.n a.marks.on) _ _ _ (omega arith) c.put_marks-next.ensures c.put_header.ensures
