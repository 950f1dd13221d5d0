-- `answers::put_members` meets its contract: what is left to put are the bytes of the members to come.
use lib.ListN.{drop}
use Rattle.columns.specs.Column.{chain_of}
use Rattle.format.specs.Answer.{members_from}
use Rattle.lookup.specs.Numbered.{simplices_in}
use Rattle.writer.specs.Meaning.{list_bytes}
use Rattle.writer.proofs.Runs.{Run}
use Rattle.answers.specs.Meaning.{member_bytes}
use Rattle.answers.proofs.put_members.Given as goal

abbrev pub invariant-loop-i : goal.invariant-loop-i
invariant-loop-i l =
    let c = chain_of l.col in
    let s = simplices_in l.size l.fn.keys l.fn.n in
    Run l.initial.out l.at (member_bytes c s) l.out l.next (list_bytes (members_from l.i c (drop l.i s)))
