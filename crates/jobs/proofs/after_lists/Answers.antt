-- `jobs::after_lists` meets its contract: the chain stage, before whatever edits stand behind it.
-- Assumes nothing.
use native.Mathlib.Omega.{arith}
use mathlib.Core.Path.{refl, sym}
use Rattle.lookup.specs.IndexLaws.{sound-proper}
use Rattle.refusals.specs.Readings.{handed_up}
use Rattle.chain_stage.specs.Meaning.{ChainStageRead}
use Rattle.lent_lists.specs.Held.{complex_in}
use Rattle.lent_lists.specs.HeldLaws.{few-simplices, held-counted, held-roomy}
use Rattle.jobs.proofs.Laws.{chain_refused, chain-asked}
use Rattle.jobs.proofs.after_lists.Goals.{After-read_chain}
use Rattle.jobs.proofs.after_lists.Goals as goal

pub read_chain-requires-clause-count_bound : goal.read_chain-requires-clause-count_bound
read_chain-requires-clause-count_bound c =
    let held = c.requires.held in
    (omega (arith, c.of-count.ensures _ (held-counted held), few-simplices _ held.sound c.chain_dimension-dim.result), (held-roomy held).edges.0)

pub read_chain-requires-clause-proper : goal.read_chain-requires-clause-proper
read_chain-requires-clause-proper c = sound-proper c.requires.held.sound.edges

-- what the stage comes to over it
stage : (c : After-read_chain) → let a = c.args in
    ChainStageRead a.job.now a.at c.chain_dimension-dim.result (complex_in a.head.v a.counts a.e_keys.now a.t_keys.now a.s_keys.now) c.read_chain.result
stage c = c.read_chain.ensures _ refl (sym (c.of-count.ensures _ (held-counted c.requires.held)))

pub returns-in_err-asked : goal.returns-in_err-asked
returns-in_err-asked c =
    let a = c.args in
    rw (handed_up c.from_residual.result c.from_residual.ensures.1)
    (chain_refused a.job.now a.at _ a.head a.counts _ _ _ c.chain_dimension-dim.ensures (stage (goal.at.returns-in_err-asked c).After-read_chain) _ c.in_err-asked.was)

pub returns : goal.returns
returns c =
    let a = c.args in
    chain-asked a.job.now a.at _ a.head a.counts _ _ _ c.chain_dimension-dim.ensures (stage (goal.at.returns c).After-read_chain) _ c.in_ok-asked.was
    c.requires.sound_head c.requires.held
