-- `writer::put_list_record` meets its contract: the payload is put, and then the header that says how long it is.
use native.Mathlib.Omega.{arith}
use Rattle.lists.specs.Meaning.{simplices_of}
use Rattle.writer.specs.Meaning.{list_bytes}
use Rattle.writer.proofs.Records.{record-put}
use Rattle.writer.proofs.put_list_record.Goals as goal

pub returns : goal.returns
returns c =
    let a = c.args in
    record-put a.out.now a.at a.kind (list_bytes (simplices_of a.list)) _ _ _ (omega arith) c.put_list-next.ensures c.put_header.ensures
