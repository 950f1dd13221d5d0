-- A job that was read is readable: what reading it comes to is known of every accepted file.
use Rattle.std.specs.Prelude.{ℕ, ◌≤◌, ◌≡◌, List, length, replicate, Result}
use Rattle.std.proofs.Common.{Ok, Err, sym, ◌∙◌, ap, arith}
use Rattle.format.specs.Numbers.{small}
use Rattle.format.specs.Simplex.{Complex}
use Rattle.format.specs.Reading.{Reading, Job, ◌and_then◌, reading, accepted, question_of}
use Rattle.format.proofs.EditLaws.{edits-ended}
use Rattle.format.proofs.Accepted.{accepted-sound}
use Rattle.refusals.specs.Readings.{refused_by, reading_of}
use Rattle.refusals.specs.declared.Refusal.{Refusal}
use Rattle.complexes.specs.Meaning.{job_of}
use Rattle.complexes.specs.declared.Job.{Job as Asked}
use Rattle.jobs.specs.Meaning.{Outcome, Readable, job_in, FileRoom, with_edits, Unedited, Told, Asking}
use Rattle.jobs.specs.declared.NumbersRead.{NumbersRead}

pub read-accepted : (b : List ℕ) (j : Asked) (r : Result Asked Refusal) (o : Outcome (reading small b) r) → r ≡ Ok j → reading small b ≡ accepted (job_of j o.set)
read-accepted b j r o f = o.is ∙ ap (reading_of (λ j. job_of j o.set)) f

unfoldable pub read_readable : (b : List ℕ) (j : Asked) (r : Result Asked Refusal) (o : Outcome (reading small b) r) → r ≡ Ok j → Readable j
read_readable b j r o f =
    record {
      set = o.set;
      sound = accepted-sound small b (job_of j o.set) (read-accepted b j r o f);
      head = o.head j f;
      v = o.v j f;
      marks = o.marks j f;
    }

-- arrays of 512 have room for the lists of any file
pub zeros-room : (b : List ℕ) (at : ℕ) → FileRoom b at (replicate 512 0) (replicate 512 0) (replicate 512 0) (replicate 512 0) (replicate 512 0)
zeros-room b at = record {
  edges = λ fits. fits;
  triangles = λ fits. fits;
  tetrahedra = λ fits. fits;
  triangle_sides = omega arith;
  tetrahedron_sides = omega arith;
}

-- UP TO THE EDITS: a refusal there is the outcome, and so is the job where no edit stands behind it.
module _ {b e_keys t_keys s_keys t_sides s_sides : List ℕ} {r : Reading Job} {read : Result NumbersRead Refusal}
    (u : Unedited r b e_keys t_keys s_keys t_sides s_sides read) where
  -- what stands behind the reading up to the edits
  abbrev behind : Result NumbersRead Refusal → Reading Job
  behind x = reading_of (λ j. j) x and_then λ j. with_edits b j.next (job_in j e_keys t_keys s_keys u.set)

  pub unedited-refusal : {e : Refusal} → read ≡ Err e → r ≡ refused_by e
  unedited-refusal is = u.is ∙ ap behind is

  pub unedited-told : {j : NumbersRead} → read ≡ Ok j → length b ≤ j.next → Told r e_keys t_keys s_keys t_sides s_sides read
  unedited-told {j} f end = record {
    set = u.set;
    is =
        u.is
        ∙ ap behind f
        ∙ ap (λ (x : Reading Complex). x and_then λ Y. accepted (asking Y)) (edits-ended 64 b j.next _ end)
        ∙ ap (reading_of (λ j. job_in j e_keys t_keys s_keys u.set)) (sym f);
    held = u.held;
    marks = u.marks;
    head = u.head;
  }
    where
      asking : Complex → Job
      asking Y = record { question = question_of j.head.question; d = j.head.d; complex = Y; chain = u.set }

-- and a refusal told is the reading's
pub told-refusal : {r : Reading Job} {e_keys t_keys s_keys t_sides s_sides : List ℕ} {read : Result NumbersRead Refusal}
    → Told r e_keys t_keys s_keys t_sides s_sides read → {e : Refusal} → read ≡ Err e → r ≡ refused_by e
told-refusal {e_keys = e_keys} {t_keys = t_keys} {s_keys = s_keys} o is = o.is ∙ ap (reading_of (λ j. job_in j e_keys t_keys s_keys o.set)) is

-- THE SAME, of a job in lent arrays.
module _ (b : List ℕ) {e_keys t_keys s_keys t_sides s_sides : List ℕ} (j : NumbersRead) (read : Result NumbersRead Refusal)
    (o : Told (reading small b) e_keys t_keys s_keys t_sides s_sides read) (f : read ≡ Ok j) where
  pub told-accepted : reading small b ≡ accepted (job_in j e_keys t_keys s_keys o.set)
  told-accepted = o.is ∙ ap (reading_of (λ j. job_in j e_keys t_keys s_keys o.set)) f

  unfoldable pub told_asking : Asking j e_keys t_keys s_keys t_sides s_sides
  told_asking = record {
    set = o.set;
    sound = accepted-sound small b (job_in j e_keys t_keys s_keys o.set) told-accepted;
    head = o.head j f;
    held = o.held j f;
    marks = o.marks j f;
  }
