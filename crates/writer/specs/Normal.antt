-- The bytes that are put out are the normal form of the job. Why: a sound vertex number is below 256, so it is its own
-- byte, and the marks of the first ranks are A's members.
use Rattle.std.specs.Prelude.{ℕ, ◌≤◌, ◌<◌, ◌≡◌, refl, true, List, [], ◌∷◌, ◌++◌, length, ltb}
use Rattle.std.proofs.Common.{sym, ap, ap₂, arith, mod-eq_of_lt, ltb-true}
use Rattle.std.proofs.Math.Bool.{or-true}
use Rattle.format.specs.Numbers.{small, edges_kind, triangles_kind, tetrahedra_kind, chain_kind, head_kind}
use Rattle.format.specs.Simplex.{Simplex, SimplexSet, sound_simplex, rising_from, all_below, listed}
use Rattle.format.specs.Reading.{question_byte, question_of}
use Rattle.format.specs.Answer.{record_of, u16_bytes, vertices_of, rows}
use Rattle.format.specs.Writing.{places_from, position_bytes, normal_form}
use Rattle.format.specs.Listed.{and-true, same_refl}
use Rattle.format.specs.Sound.{SoundJob}
use Rattle.complexes.specs.Meaning.{job_of, complex_of, Marked}
use Rattle.complexes.specs.declared.Job.{Job}
use Rattle.writer.specs.Meaning.{simplex_bytes, list_bytes, job_bytes}

-- numbers below v, v at most 256, are their own bytes
own-bytes : (v : ℕ) (s : Simplex) → v ≤ 256 → all_below v s ≡ true → simplex_bytes s ≡ s
unfolding all_below
own-bytes v [] few below = refl
own-bytes v (a ∷ s) few below =
    let both = and-true (ltb a v) (all_below v s) below in
    let small : a < 256 = omega (arith, ltb-true a v both.0) in
    ap₂ ◌∷◌ (mod-eq_of_lt small) (own-bytes v s few both.1)

pub list-bytes : (v : ℕ) (l : List Simplex) → v ≤ 256 → ((s : Simplex) → listed s l ≡ true → sound_simplex v s ≡ true) → list_bytes l ≡ vertices_of l
unfolding list_bytes vertices_of listed sound_simplex
list-bytes v [] few sound = refl
list-bytes v (s ∷ l) few sound =
    ap₂ ◌++◌ (own-bytes v s few (and-true (rising_from 0 s) (all_below v s) (sound s (rw (same_refl s)))).1)
    (list-bytes v l few (λ t h. sound t (rw (h, or-true))))

pub normal-bytes : (job : Job) (A : SimplexSet) → SoundJob small (job_of job A) → question_byte (question_of job.head.question) ≡ job.head.question → job.head.v ≡ job.complex.v → Marked job.marks.on (rows (job_of job A)) A → job_bytes job (length (rows (job_of job A))) ≡ normal_form (job_of job A)
unfolding normal_form
normal-bytes job A sound asked v marked =
    let X = complex_of job.complex in
    let few = sound.complex.vertices in
    ap₂ ◌++◌
    (ap₂ ◌++◌
    (ap₂ ◌++◌
    (ap₂ ◌++◌ (ap₂ (λ q n. record_of head_kind (q ∷ job.head.d ∷ u16_bytes n)) (sym asked) v)
    (ap (record_of edges_kind) (list-bytes X.v X.edges few sound.complex.edges.sound)))
    (ap (record_of triangles_kind) (list-bytes X.v X.triangles few sound.complex.triangles.sound)))
    (ap (record_of tetrahedra_kind) (list-bytes X.v X.tetrahedra few sound.complex.tetrahedra.sound)))
    (ap (λ m. record_of chain_kind (position_bytes (places_from 0 m))) marked.marks)
