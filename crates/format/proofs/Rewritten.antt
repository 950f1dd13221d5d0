-- Demand 2, about every accepted file: its normal form is accepted and means the same job, and nothing else has it. Why:
-- what was read is sound (Accepted), and a sound job's normal form reads back as the job (RoundTrip).
use Rattle.std.specs.Prelude.{ℕ, ◌≤◌, ◌≡◌, ◌↔◌, List, length}
use Rattle.format.specs.Numbers.{Limits}
use Rattle.format.specs.Reading.{Job, reading, accepted}
use Rattle.format.specs.Answer.{Answered}
use Rattle.format.specs.Writing.{normal_form}
use Rattle.format.specs.Sound.{Consistent}
use Rattle.format.proofs.Accepted.{accepted-sound}
use Rattle.format.specs.RoundTrip.{round_trip, normal-fits, same-normal, normal-of-normal, same_answer}

module _ (L : Limits) (consistent : Consistent L) (b : List ℕ) (j : Job) (read : reading L b ≡ accepted j) where
  -- a job written and read back is the same job: question, d, v, the lists and A agree
  pub written-read-back : reading L (normal_form j) ≡ accepted j
  written-read-back = round_trip L consistent j (accepted-sound L b j read)

  -- the normal form is a job file, no longer than one may be
  pub written-fits : length (normal_form j) ≤ L.job_bytes
  written-fits = normal-fits L consistent j (accepted-sound L b j read)

  -- the normal form of the normal form is itself
  pub written_twice : (k : Job) → reading L (normal_form j) ≡ accepted k → normal_form k ≡ normal_form j
  written_twice = normal-of-normal L consistent j (accepted-sound L b j read)

  -- the file and its normal form have the same answer record
  pub written-same-answer : (answer : List ℕ) → Answered (reading L b) answer ↔ Answered (reading L (normal_form j)) answer
  written-same-answer = same_answer L consistent j (accepted-sound L b j read) b read

-- two accepted files have equal normal forms exactly when they are the same job
pub written-alike : (L : Limits) → Consistent L → (b c : List ℕ) (j k : Job) → reading L b ≡ accepted j → reading L c ≡ accepted k → (normal_form j ≡ normal_form k) ↔ (j ≡ k)
written-alike L consistent b c j k rb rc = same-normal L consistent j k (accepted-sound L b j rb) (accepted-sound L c k rc)
