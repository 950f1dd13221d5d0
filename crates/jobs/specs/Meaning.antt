-- The outcome of reading a job, and the stages of the definition by the names of the functions that read them.
use Rattle.std.specs.Prelude.{ℕ, ◌≤◌, ◌≡◌, true, ◌⊎◌, List, [], length, Result}
use Rattle.std.proofs.Common.{Ok}
use Rattle.format.specs.Numbers.{small, triangles_kind, tetrahedra_kind, edges_kind}
use Rattle.format.specs.Simplex.{Simplex, SimplexSet}
use Rattle.format.specs.Simplex as simplices
use Rattle.format.specs.Reading.{Reading, accepted, ◌and_then◌, read_list, read_edits, dimension_fits, question_of}
use Rattle.format.specs.Reading as format
use Rattle.format.specs.Answer.{rows}
use Rattle.format.specs.Sound.{SoundList, SoundJob}
use Rattle.refusals.specs.Readings.{reading_of}
use Rattle.refusals.specs.declared.Refusal.{Refusal}
use Rattle.heads.specs.declared.Head.{Head}
use Rattle.complexes.specs.Meaning.{complex_of, job_of, Marked}
use Rattle.complexes.specs.declared.Job.{Job}
use Rattle.lookup.specs.Indexed.{Keyed, Indexed}
use Rattle.lookup.specs.Numbered.{simplices_in}
use Rattle.lookup.specs.Sides.{Sided}
use Rattle.stages.specs.Meaning.{size_at, end_at, RoomAt, list_read}
use Rattle.stages.specs.declared.ListRead.{ListRead}
use Rattle.lent_lists.specs.Held.{complex_in, Held}
use Rattle.jobs.specs.declared.NumbersRead.{NumbersRead}
use Rattle.jobs.specs.declared.ListsRead.{ListsRead}
use Rattle.jobs.specs.declared.Sizes.{Sizes}

-- A head that was accepted: one of the two questions, in its range, with few enough vertices.
pub record SoundHead (h : Head) : Type 0 where
  pub asks : (h.question ≡ 1) ⊎ (h.question ≡ 2)
  pub dimension : dimension_fits (question_of h.question) h.d ≡ true
  pub vertices : h.v ≤ 256

-- What reading comes to: the verdict and the job are the definition's, and where nothing was refused the marks are A's
-- members by rank after all edits.
pub record Outcome (r : Reading format.Job) (read : Result Job Refusal) : Type 0 where
  pub set : SimplexSet
  pub is : r ≡ reading_of (λ j. job_of j set) read
  pub marks : (j : Job) → read ≡ Ok j → Marked j.marks.on (rows (job_of j set)) set
  pub head : (j : Job) → read ≡ Ok j → SoundHead j.head
  pub v : (j : Job) → read ≡ Ok j → j.head.v ≡ j.complex.v

-- a list that was read, over the list of its facets
pub record ListSound (kind v : ℕ) (faces l : List Simplex) : Type 0 where
  pub sound : SoundList kind v faces l
  pub few : length l ≤ small.simplices

-- the job that was read, its lists in lent arrays
abbrev pub job_in : NumbersRead → List ℕ → List ℕ → List ℕ → SimplexSet → format.Job
job_in j e_keys t_keys s_keys A = record {
  question = question_of j.head.question;
  d = j.head.d;
  complex = complex_in j.head.v j.counts e_keys t_keys s_keys;
  chain = A;
}

-- What reading comes to in lent arrays: the verdict and the job are the definition's; where nothing was refused, the arrays
-- hold the complex after all edits, and the marks are A's members by rank.
pub record Told (r : Reading format.Job) (e_keys t_keys s_keys t_sides s_sides : List ℕ) (read : Result NumbersRead Refusal) : Type 0 where
  pub set : SimplexSet
  pub is : r ≡ reading_of (λ j. job_in j e_keys t_keys s_keys set) read
  pub held : (j : NumbersRead) → read ≡ Ok j → Held j.head.v j.counts e_keys t_keys s_keys t_sides s_sides
  pub marks : (j : NumbersRead) → read ≡ Ok j → Marked j.marks.on (rows (job_in j e_keys t_keys s_keys set)) set
  pub head : (j : NumbersRead) → read ≡ Ok j → SoundHead j.head

-- a job by value is the one that lent arrays hold
pub record ByValue (read : NumbersRead) (e_keys t_keys s_keys : List ℕ) (j : Job) : Type 0 where
  pub head : j.head ≡ read.head
  pub complex : complex_of j.complex ≡ complex_in read.head.v read.counts e_keys t_keys s_keys
  pub marks : j.marks ≡ read.marks

-- a job whose edits stand from a place on
abbrev pub with_edits : List ℕ → (at : ℕ) → format.Job → Reading format.Job
with_edits b at j =
    read_edits 64 b at j.complex and_then λ Y.
    accepted (record { question = j.question; d = j.d; complex = Y; chain = j.chain })

-- What reading up to the edits comes to: the definition's reading, as far as it goes; and where nothing was refused, the arrays
-- hold the complex as the file lists it, and the marks are A's members by rank in it.
pub record Unedited (r : Reading format.Job) (b e_keys t_keys s_keys t_sides s_sides : List ℕ) (read : Result NumbersRead Refusal) : Type 0 where
  pub set : SimplexSet
  pub is : r ≡ (reading_of (λ j. j) read and_then λ j. with_edits b j.next (job_in j e_keys t_keys s_keys set))
  pub held : (j : NumbersRead) → read ≡ Ok j → Held j.head.v j.counts e_keys t_keys s_keys t_sides s_sides
  pub marks : (j : NumbersRead) → read ≡ Ok j → Marked j.marks.on (rows (job_in j e_keys t_keys s_keys set)) set
  pub head : (j : NumbersRead) → read ≡ Ok j → SoundHead j.head

-- the sizes of the three list records, of which the first stands at a place
pub record SizesTold (b : List ℕ) (at : ℕ) (s : Sizes) : Type 0 where
  pub edges : s.edges ≡ size_at b at edges_kind
  pub triangles : s.triangles ≡ size_at b (end_at b at edges_kind) triangles_kind
  pub tetrahedra : s.tetrahedra ≡ size_at b (end_at b (end_at b at edges_kind) triangles_kind) tetrahedra_kind

-- lent arrays with room for the lists whose records stand from a place on, whatever they hold
pub record FileRoom (b : List ℕ) (at : ℕ) (e_keys t_keys s_keys t_sides s_sides : List ℕ) : Type 0 where
  pub edges : RoomAt b at edges_kind (length e_keys)
  pub triangles : RoomAt b (end_at b at edges_kind) triangles_kind (length t_keys)
  pub tetrahedra : RoomAt b (end_at b (end_at b at edges_kind) triangles_kind) tetrahedra_kind (length s_keys)
  pub triangle_sides : length t_keys ≤ length t_sides
  pub tetrahedron_sides : length s_keys ≤ length s_sides

-- What reading a list of triangles or tetrahedra over their facets leaves: the definition's reading, the numbers of what was read,
-- for which there is room, and, where nothing is refused, the sides.
pub record ListHeld (b : List ℕ) (at kind v : ℕ) (faces : List Simplex) (keys sides : List ℕ) (r : Result ListRead Refusal) : Type 0 where
  pub reads : list_read kind keys r ≡ read_list small b at kind v faces
  pub keyed : (l : ListRead) → r ≡ Ok l → Keyed (simplices_in kind keys l.count) keys l.count
  pub within : (l : ListRead) → r ≡ Ok l → l.count ≤ length keys
  pub sided : (l : ListRead) → r ≡ Ok l → Sided faces (simplices_in kind keys l.count) sides l.count

-- the three lists of a file, and the offset behind them
pub record Lists : Type 0 where
  pub complex : simplices.Complex
  pub next : ℕ

-- the lists, each read over the one below
unfoldable pub read_lists : List ℕ → (at v : ℕ) → Reading Lists
read_lists b at v =
    read_list small b at edges_kind v [] and_then λ e.
    read_list small b e.next triangles_kind v e.list and_then λ t.
    read_list small b t.next tetrahedra_kind v t.list and_then λ s.
    accepted (record { complex = record { v = v; edges = e.list; triangles = t.list; tetrahedra = s.list }; next = s.next })

-- the lists that were read, in lent arrays
abbrev pub lists_in : ℕ → List ℕ → List ℕ → List ℕ → ListsRead → Lists
lists_in v e_keys t_keys s_keys l = record { complex = complex_in v l.counts e_keys t_keys s_keys; next = l.next }

-- What reading the lists leaves: the definition's reading; and where nothing was refused, the arrays hold a sound complex, and
-- its edges can be looked up.
pub record ListsTold (b : List ℕ) (at v : ℕ) (e_keys e_first e_next t_keys s_keys t_sides s_sides : List ℕ) (r : Result ListsRead Refusal) : Type 0 where
  pub reads : read_lists b at v ≡ reading_of (lists_in v e_keys t_keys s_keys) r
  pub held : (l : ListsRead) → r ≡ Ok l → v ≤ 256 → Held v l.counts e_keys t_keys s_keys t_sides s_sides
  pub linked : (l : ListsRead) → r ≡ Ok l → Indexed (simplices_in 2 e_keys l.counts.edges) e_keys e_first e_next l.counts.edges

-- A job of the code that means a sound job: A is the set that its marks hold.
pub record Readable (j : Job) : Type 0 where
  pub set : SimplexSet
  pub sound : SoundJob small (job_of j set)
  pub head : SoundHead j.head
  pub v : j.head.v ≡ j.complex.v
  pub marks : Marked j.marks.on (rows (job_of j set)) set

-- A sound job that lent arrays hold: the same, of numbers.
pub record Asking (j : NumbersRead) (e_keys t_keys s_keys t_sides s_sides : List ℕ) : Type 0 where
  pub set : SimplexSet
  pub sound : SoundJob small (job_in j e_keys t_keys s_keys set)
  pub head : SoundHead j.head
  pub held : Held j.head.v j.counts e_keys t_keys s_keys t_sides s_sides
  pub marks : Marked j.marks.on (rows (job_in j e_keys t_keys s_keys set)) set
