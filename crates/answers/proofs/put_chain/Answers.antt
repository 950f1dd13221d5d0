-- `answers::put_chain` meets its contract: the members, the byte in front of them, and the header.
use Rattle.answers.proofs.Members.{chain-put}
use Rattle.answers.proofs.put_chain.Goals as goal

pub returns : goal.returns
returns c = chain-put _ _ _ _ _ _ c.requires.n_in_bounds_2 c.put_members-next.ensures c.put_header.ensures
