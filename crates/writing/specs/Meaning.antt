-- The simplices that A may be chosen from, by the code's job; and a job in lent arrays, as far as writing it goes.
use Rattle.std.specs.Prelude.{ℕ, List}
use Rattle.format.specs.Numbers.{small}
use Rattle.format.specs.Simplex.{Simplex, SimplexSet}
use Rattle.format.specs.Reading.{chain_dimension, question_of}
use Rattle.format.specs.Answer.{rows}
use Rattle.format.specs.Sound.{SoundJob}
use Rattle.complexes.specs.Meaning.{list_of, Marked}
use Rattle.complexes.specs.declared.Job.{Job}
use Rattle.lent_lists.specs.Held.{Roomy}
use Rattle.jobs.specs.Meaning.{SoundHead, job_in}
use Rattle.jobs.specs.declared.NumbersRead.{NumbersRead}

-- the rows of the job, whatever set its marks hold
abbrev pub chosen_from : Job → List Simplex
chosen_from j = list_of j.complex (chain_dimension (question_of j.head.question) j.head.d)

-- A sound job whose lists stand in lent arrays: A is the set that its marks hold.
pub record Writable (j : NumbersRead) (e_keys t_keys s_keys : List ℕ) : Type 0 where
  pub set : SimplexSet
  pub sound : SoundJob small (job_in j e_keys t_keys s_keys set)
  pub head : SoundHead j.head
  pub room : Roomy j.counts e_keys t_keys s_keys
  pub marks : Marked j.marks.on (rows (job_in j e_keys t_keys s_keys set)) set
