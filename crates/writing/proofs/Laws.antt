-- What is written is the job's normal form. Why: a job that was read is sound, so the bytes that the writer puts out are
-- the normal form, and their number is the sum of the records' lengths.
use Prim.Native.Nat.{ℕ, ◌+◌, ◌*◌, ◌≤◌, ◌<◌}
use mathlib.Core.Path.{◌≡◌, refl, sym, ◌∙◌, ap, ap₂, subst, subst₂}
use mathlib.Core.Logic.{◌⊎◌, inl, inr}
use mathlib.Core.List.{List, ◌++◌, map}
use native.Mathlib.Omega.{arith}
use native.Mathlib.Nat.{zero-add}
use lib.ListN.{length, take, drop, length-take}
use Rattle.format.specs.Numbers.{small, room}
use Rattle.format.specs.Reading.{accepted, reading, question_byte, question_of, chain_dimension}
use Rattle.format.specs.Reading as reader
use Rattle.format.specs.Answer.{rows, row_dimension}
use Rattle.format.specs.Writing.{places_from, normal_form}
use Rattle.format.specs.Sound.{SoundJob, small-consistent}
use Rattle.format.specs.Simplex as format
use Rattle.format.specs.Normal.{places-few}
use Rattle.format.specs.RoundTrip.{length-normal_form, normal-fits, chosen-fits}
use Rattle.format.specs.Promise.{two_numbers, WrittenJob, too_short, written, Written, WritePromise}
use Rattle.lists.specs.Meaning.{simplices_of}
use Rattle.std.specs.Prelude.{Result}
use Rattle.std.proofs.Common.{Ok}
use Rattle.refusals.specs.declared.Refusal.{Refusal}
use Rattle.complexes.specs.Meaning.{job_of, list_of, Marked}
use Rattle.complexes.specs.declared.Job.{Job}
use Rattle.format.proofs.Accepted.{accepted-sound}
use Rattle.heads.specs.declared.Head.{Head}
use Rattle.lists.specs.declared.Marks.{Marks}
use Rattle.lent_lists.specs.HeldLaws.{held-roomy}
use Rattle.jobs.specs.Meaning.{SoundHead, Readable, job_in, Told, ByValue}
use Rattle.jobs.specs.Known.{told-accepted, told_asking}
use Rattle.jobs.specs.declared.NumbersRead.{NumbersRead}
use Rattle.writer.specs.Meaning.{Put, job_bytes}
use Rattle.writer.specs.Splice.{splice}
use Rattle.writer.specs.Normal.{normal-bytes}
use Rattle.writing.specs.Meaning.{chosen_from, Writable}

-- a question that was accepted is written as the byte that it was read from
asked-byte : (q : ℕ) → (q ≡ 1) ⊎ (q ≡ 2) → question_byte (question_of q) ≡ q
asked-byte q (inl e) = subst (λ x. question_byte (question_of x) ≡ x) (sym e) refl
asked-byte q (inr e) = subst (λ x. question_byte (question_of x) ≡ x) (sym e) refl

-- as many as the dimension of A has simplices may be chosen
pub all-chosen : (job : Job) (n dim : ℕ) → n ≡ length (list_of job.complex dim) → dim ≡ chain_dimension (question_of job.head.question) job.head.d → n ≡ length (chosen_from job)
all-chosen job n dim counted e = counted ∙ ap (λ k. length (list_of job.complex k)) e

-- A JOB THAT WAS READ.
module _ (job : Job) (k : Readable job) (n : ℕ) (all : n ≡ length (chosen_from job)) where
  abbrev meant : reader.Job
  meant = job_of job k.set

  pub bytes-normal : job_bytes job n ≡ normal_form meant
  bytes-normal =
      ap (job_bytes job) all ∙
      normal-bytes job k.set k.sound (asked-byte job.head.question k.head.asks) k.v k.marks

  -- no more may be chosen than a chain's record holds
  pub chosen-few : n ≤ 512
  chosen-few = omega (arith, all, (chosen-fits small small-consistent meant.complex k.sound.complex (row_dimension meant)).0)

  -- the length, from the counts of the lists and of the marks that are on
  pub length-counted : (e t s a : ℕ) → e ≡ length (simplices_of job.complex.edges) → t ≡ length (simplices_of job.complex.triangles) →
      s ≡ length (simplices_of job.complex.tetrahedra) → a ≡ length (places_from 0 (take n job.marks.on)) →
      (34 + 2 * e + 3 * t + 4 * s + 2 * a ≡ length (job_bytes job n)) × (34 + 2 * e + 3 * t + 4 * s + 2 * a ≤ 6690)
  length-counted e t s a edges triangles tetrahedra marked =
      let on : a ≡ length (places_from 0 (map k.set (rows meant))) =
      marked ∙ ap (λ m. length (places_from 0 (take m job.marks.on))) all ∙ ap (λ l. length (places_from 0 l)) k.marks.marks in
      let size = length-normal_form small small-consistent meant k.sound in
      (omega (arith, ap length bytes-normal, size), omega (arith, size, normal-fits small small-consistent meant k.sound))

  -- so many marks at most are on
  pub marks-few : (a : ℕ) → a ≡ length (places_from 0 (take n job.marks.on)) → a ≤ 512
  marks-few a e = omega (arith, e, places-few (take n job.marks.on) 0, length-take n job.marks.on, chosen-few)

  -- THE TWO OUTCOMES.
  pub job-too-short : (out : List ℕ) (result : ℕ) → length out < length (job_bytes job n) → result ≡ two_numbers room 0 → WrittenJob meant out result out
  job-too-short out result less e = too_short (omega (arith, ap length bytes-normal)) e refl

  pub job-written : (out out' : List ℕ) (result next : ℕ) → length (job_bytes job n) ≤ length out → result ≡ length (job_bytes job n) →
      Put out 0 (job_bytes job n) out' next → WrittenJob meant out result out'
  job-written out out' result next fits e put =
      written (omega (arith, ap length bytes-normal)) (omega (arith, ap length bytes-normal))
      (put.lent ∙ ap (splice out 0) bytes-normal ∙ ap (λ i. normal_form meant ++ drop i out) (zero-add (length (normal_form meant))))

-- A JOB IN LENT ARRAYS, by value, is readable.
module _ {j : NumbersRead} {e_keys t_keys s_keys : List ℕ} (w : Writable j e_keys t_keys s_keys) {k : Job} (by : ByValue j e_keys t_keys s_keys k) where
  pub same-job : job_of k w.set ≡ job_in j e_keys t_keys s_keys w.set
  same-job = ap₂ (λ (h : Head) (Y : format.Complex). record { question = question_of h.question; d = h.d; complex = Y; chain = w.set }) by.head by.complex

  unfoldable pub by_value : Readable k
  by_value = record {
    set = w.set;
    sound = subst (SoundJob small) (sym same-job) w.sound;
    head = subst SoundHead (sym by.head) w.head;
    v = ap (λ (h : Head). h.v) by.head ∙ ap (λ (Y : format.Complex). Y.v) (sym by.complex);
    marks = subst₂ (λ (m : Marks) (y : reader.Job). Marked m.on (rows y) w.set) (sym by.marks) (sym same-job) w.marks;
  }

-- THE FILE, read into lent arrays.
module _ (b : List ℕ) {e_keys t_keys s_keys t_sides s_sides : List ℕ} {r : Result NumbersRead Refusal}
    (o : Told (reading small b) e_keys t_keys s_keys t_sides s_sides r) where
  unfoldable pub writable : (j : NumbersRead) → r ≡ Ok j → Writable j e_keys t_keys s_keys
  writable j v =
      let a = told_asking b j r o v in
      record { set = o.set; sound = accepted-sound small b (job_in j e_keys t_keys s_keys o.set) (told-accepted b j r o v); head = a.head; room = held-roomy a.held; marks = o.marks j v }

  pub write-accepted : (out out' : List ℕ) (result : ℕ) (j : NumbersRead) → r ≡ Ok j →
      ((k : Writable j e_keys t_keys s_keys) → WrittenJob (job_in j e_keys t_keys s_keys k.set) out result out') → WritePromise small b out result out'
  unfolding writable
  write-accepted out out' result j v done =
      subst (λ x. Written x out result out') (sym (told-accepted b j r o v)) (done (writable j v))
