-- The round trip: a sound job is read back, whole, from its normal form. Why: each of the five records of the normal form
-- is read as what was written, one behind the other, and no edits follow; so the normal form says all that a job is.
use Rattle.std.specs.Prelude.{ℕ, zero, suc, ◌+◌, ◌*◌, ◌≤◌, ◌<◌, ◌≡◌, ◌↔◌, true, ◌||◌, List, [], ◌∷◌, ◌++◌, map, length, drop, eqb}
use Rattle.std.proofs.Common.{mul-le-mul, arith, sym, ◌∙◌, ap, subst, append_assoc, append-nil, length-append}
use Rattle.std.proofs.Math.Nat.{mul-mod_right}
use Rattle.std.proofs.Math.Path.{refl}
use Rattle.std.proofs.lemmas.List.{length-map}
use borrow.Author.Tests.{eq-eqb, le-leb, le-ltb}
use Rattle.format.specs.Numbers.{Limits, header_bytes, head_kind, edges_kind, triangles_kind, tetrahedra_kind, chain_kind}
use Rattle.format.specs.Simplex.{Simplex, SimplexSet, Complex, simplices, vertex_list}
use Rattle.format.specs.Reading.{accepted, Question, fill, class, question_byte, question_of, Job, dimension_fits, read_head, read_list, chosen_by, read_chain, read_edits, after_lists, after_head, reading, list_fits, chain_fits, may_ask, head_fits}
use Rattle.format.specs.Answer.{u16_bytes, record_of, vertices_of, row_dimension, rows, Answered}
use Rattle.format.specs.Writing.{places_from, position_bytes, normal_form}
use Rattle.format.specs.Sound.{SoundList, Within, SoundComplex, SoundJob, Consistent, same-accepted}
use Rattle.format.specs.Bytes.{u16-front, record-read, behind-record, file-length, length-position_bytes, positions-back}
use Rattle.format.specs.Normal.{length-vertices_of, list_back, list-fits, items-accepted, places-rising, places-below, places-few, named_back}

-- A LIST'S RECORD, at a place of a file, is read as the list, and what stands behind it is found.
pub record ListStands (L : Limits) (b : List ℕ) (at kind v : ℕ) (faces l : List Simplex) (post : List ℕ) : Type 0 where
  pub reads : read_list L b at kind v faces ≡ accepted (record { list = l; next = at + header_bytes + length (vertices_of l) })
  pub behind : drop (at + header_bytes + length (vertices_of l)) b ≡ post

-- one law for the three kinds, which are also the widths
pub list-stands : (L : Limits) (b : List ℕ) (at kind v : ℕ) (faces l : List Simplex) (post : List ℕ) →
    drop at b ≡ record_of kind (vertices_of l) ++ post → 0 < kind → kind ≤ 4 → SoundList kind v faces l →
    length l ≤ L.simplices → L.simplices ≤ 65536 → ListStands L b at kind v faces l post
unfolding read_list
list-stands L b at kind v faces l post here some few-vertices sound few counted =
    let short : length (vertices_of l) < 4294967296 = omega (arith, length-vertices_of kind l sound.wide, mul-le-mul few-vertices few) in
    record {
      reads =
          rw (
            record-read b at kind (vertices_of l) post here (omega arith) short (eqb kind) (λ _ p. list_fits L kind p) (eq-eqb kind kind refl) (list-fits L kind l sound.wide few),
            list_back kind l some sound.wide,
            items-accepted kind v faces (at + header_bytes) [] l sound,
          );
      behind = behind-record b at kind (vertices_of l) post here (omega arith) short;
    }

-- A'S RECORD is read as A.
module _ (L : Limits) (b : List ℕ) (at dimension : ℕ) (X : Complex) (A : SimplexSet) (post : List ℕ)
    (here : drop at b ≡ record_of chain_kind (position_bytes (places_from 0 (map A (simplices X dimension)))) ++ post)
    (within : Within A (simplices X dimension)) (few : 2 * length (simplices X dimension) ≤ L.chain_bytes)
    (counted : length (simplices X dimension) ≤ 65536) where
  abbrev list : List Simplex
  list = simplices X dimension

  abbrev places : List ℕ
  places = places_from 0 (map A list)

  marks-length : length (map A list) ≡ length list
  marks-length = length-map list A

  few-places : length places ≤ length list
  few-places = omega (arith, places-few (map A list) 0, marks-length)

  chain-short : length (position_bytes places) < 4294967296
  chain-short = omega (arith, length-position_bytes places, few-places)

  chain_fits_lem : chain_fits L chain_kind (position_bytes places) ≡ true
  chain_fits_lem =
      rw (length-position_bytes places, mul-mod_right 2 (length places), le-leb (2 * length places) L.chain_bytes (omega (arith, few-places)))

  pub chain-read : read_chain L b at dimension X ≡ accepted (record { chain = A; next = at + header_bytes + length (position_bytes places) })
  unfolding read_chain chosen_by
  chain-read =
      rw (
        record-read b at chain_kind (position_bytes places) post here (omega arith) chain-short (may_ask dimension) (chain_fits L) refl chain_fits_lem,
        positions-back places (places-below 65536 (map A list) 0 (omega (arith, marks-length))),
        places-rising (map A list) (length list) (at + header_bytes) 0 0 (omega arith) (omega (arith, marks-length)),
        named_back A list within,
      )

-- THE HEAD is read as question, d and v.
abbrev pub head_bytes : Question → ℕ → ℕ → List ℕ
head_bytes q d v = question_byte q ∷ d ∷ u16_bytes v

question-known : (q : Question) → (eqb (question_byte q) 1 || eqb (question_byte q) 2) ≡ true
question-known fill = refl
question-known class = refl

question-back : (q : Question) → question_of (question_byte q) ≡ q
question-back fill = refl
question-back class = refl

pub head_read : (L : Limits) (q : Question) (d v : ℕ) → dimension_fits q d ≡ true → v ≤ L.vertices → v < 65536 →
    read_head L (head_bytes q d v) ≡ accepted (record { question = q; d = d; v = v })
unfolding read_head
head_read L q d v fits few small =
    rw (question-known q, question-back q, fits, u16-front v small [], le-leb v L.vertices few)

-- NO EDITS where the file ends.
pub no-edits : (left : ℕ) (b : List ℕ) (at : ℕ) (X : Complex) → length b ≤ at → read_edits left b at X ≡ accepted X
unfolding read_edits
no-edits zero b at X done = rw (le-leb (length b) at done)
no-edits (suc left) b at X done = rw (le-leb (length b) at done)

-- WHAT MAY BE CHOSEN from a sound complex can be written: as many positions as a list has simplices fit into a chain's
-- record, and each into two bytes.
length-vertex_list : (v : ℕ) → length (vertex_list v) ≡ v
unfolding vertex_list
length-vertex_list zero = refl
length-vertex_list (suc v) = omega (arith, length-append (vertex_list v) ((v ∷ []) ∷ []), length-vertex_list v)

pub chosen-fits : (L : Limits) → Consistent L → (X : Complex) → SoundComplex L X → (k : ℕ) →
    (2 * length (simplices X k) ≤ L.chain_bytes) × (length (simplices X k) ≤ 65536)
unfolding simplices
chosen-fits L c X sound zero = (omega (arith, length-vertex_list X.v), omega (arith, length-vertex_list X.v))
chosen-fits L c X sound (suc zero) = (omega arith, omega arith)
chosen-fits L c X sound (suc (suc zero)) = (omega arith, omega arith)
chosen-fits L c X sound (suc (suc (suc zero))) = (omega arith, omega arith)
chosen-fits L c X sound (suc (suc (suc (suc k)))) = (omega arith, omega arith)

-- THE WHOLE FILE.
-- A's positions, as the normal form writes them
abbrev pub places_of : Job → List ℕ
places_of j = places_from 0 (map j.chain (rows j))

-- what stands in a normal form from each record on
abbrev from_chain : Job → List ℕ
from_chain j = record_of chain_kind (position_bytes (places_of j)) ++ []

abbrev from_tetrahedra : Job → List ℕ
from_tetrahedra j = record_of tetrahedra_kind (vertices_of j.complex.tetrahedra) ++ from_chain j

abbrev from_triangles : Job → List ℕ
from_triangles j = record_of triangles_kind (vertices_of j.complex.triangles) ++ from_tetrahedra j

abbrev from_edges : Job → List ℕ
from_edges j = record_of edges_kind (vertices_of j.complex.edges) ++ from_triangles j

abbrev job_head : Job → List ℕ
job_head j = head_bytes j.question j.d j.complex.v

normal-parts : (j : Job) → normal_form j ≡ record_of head_kind (job_head j) ++ from_edges j
unfolding normal_form
normal-parts j =
    grouped (record_of head_kind (job_head j)) (record_of edges_kind (vertices_of j.complex.edges))
    (record_of triangles_kind (vertices_of j.complex.triangles)) (record_of tetrahedra_kind (vertices_of j.complex.tetrahedra))
    (record_of chain_kind (position_bytes (places_of j)))
  where
    grouped : (a b c d e : List ℕ) → a ++ b ++ c ++ d ++ e ≡ a ++ (b ++ (c ++ (d ++ (e ++ []))))
    grouped a b c d e = simp (append_assoc, append-nil)

-- The records of a file `b` that is a normal form, one behind the other.
module _ (L : Limits) (c : Consistent L) (j : Job) (sound : SoundJob L j) (b : List ℕ) (file : b ≡ record_of head_kind (job_head j) ++ from_edges j) where
  abbrev X : Complex
  X = j.complex

  -- where the records stand
  abbrev triangles_at : ℕ
  triangles_at = 10 + header_bytes + length (vertices_of X.edges)

  abbrev tetrahedra_at : ℕ
  tetrahedra_at = triangles_at + header_bytes + length (vertices_of X.triangles)

  abbrev chain_at : ℕ
  chain_at = tetrahedra_at + header_bytes + length (vertices_of X.tetrahedra)

  abbrev end_at : ℕ
  end_at = chain_at + header_bytes + length (position_bytes (places_of j))

  at-edges : drop 10 b ≡ from_edges j
  at-edges = behind-record b 0 head_kind (job_head j) (from_edges j) file (omega arith) (omega arith)

  edges-stand : ListStands L b 10 edges_kind X.v [] X.edges (from_triangles j)
  edges-stand =
      list-stands L b 10 edges_kind X.v [] X.edges (from_triangles j) at-edges (omega arith) (omega arith)
      sound.complex.edges sound.complex.few_edges c.positions

  triangles-stand : ListStands L b triangles_at triangles_kind X.v X.edges X.triangles (from_tetrahedra j)
  triangles-stand =
      list-stands L b triangles_at triangles_kind X.v X.edges X.triangles (from_tetrahedra j) edges-stand.behind (omega arith)
      (omega arith) sound.complex.triangles sound.complex.few_triangles c.positions

  tetrahedra-stand : ListStands L b tetrahedra_at tetrahedra_kind X.v X.triangles X.tetrahedra (from_chain j)
  tetrahedra-stand =
      list-stands L b tetrahedra_at tetrahedra_kind X.v X.triangles X.tetrahedra (from_chain j) triangles-stand.behind
      (omega arith) (omega arith) sound.complex.tetrahedra sound.complex.few_tetrahedra c.positions

  chain-stands : read_chain L b chain_at (row_dimension j) X ≡ accepted (record { chain = j.chain; next = end_at })
  chain-stands =
      chain-read L b chain_at (row_dimension j) X j.chain [] tetrahedra-stand.behind sound.chain few.0 few.1
    where
      few : (2 * length (rows j) ≤ L.chain_bytes) × (length (rows j) ≤ 65536)
      few = chosen-fits L c X sound.complex (row_dimension j)

  chain-last : length b ≡ end_at + 0
  chain-last = file-length b chain_at chain_kind (position_bytes (places_of j)) [] tetrahedra-stand.behind

  file-size : length b ≡ 10 + (6 + 2 * length X.edges) + (6 + 3 * length X.triangles) + (6 + 4 * length X.tetrahedra) + (6 + 2 * length (places_of j))
  file-size =
      omega (
        arith,
        chain-last,
        length-vertices_of edges_kind X.edges sound.complex.edges.wide,
        length-vertices_of triangles_kind X.triangles sound.complex.triangles.wide,
        length-vertices_of tetrahedra_kind X.tetrahedra sound.complex.tetrahedra.wide,
        length-position_bytes (places_of j),
      )

  -- with the longest lists and the longest chain it is still not too long
  file-fits : length b ≤ L.job_bytes
  file-fits =
      omega (
        arith,
        file-size,
        places-few (map j.chain (rows j)) 0,
        length-map (rows j) j.chain,
        (chosen-fits L c X sound.complex (row_dimension j)).0,
      )

  file-read : reading L b ≡ accepted j
  unfolding reading after_head after_lists
  file-read =
      rw (
        le-ltb L.job_bytes (length b) file-fits,
        record-read b 0 head_kind (job_head j) (from_edges j) file (omega arith) (omega arith) (eqb head_kind) head_fits refl refl,
        head_read L j.question j.d X.v sound.dimension sound.complex.vertices (omega arith),
        edges-stand.reads,
        triangles-stand.reads,
        tetrahedra-stand.reads,
        chain-stands,
        no-edits L.edits b end_at X (omega (arith, chain-last)),
      )

-- THE ROUND TRIP.
module _ (L : Limits) (c : Consistent L) (j : Job) (sound : SoundJob L j) where
  -- the normal form's length: the head's record, and for each list and for A a header and its items
  pub length-normal_form : length (normal_form j) ≡
      10 + (6 + 2 * length j.complex.edges) + (6 + 3 * length j.complex.triangles) +
      (6 + 4 * length j.complex.tetrahedra) + (6 + 2 * length (places_of j))
  length-normal_form = file-size L c j sound (normal_form j) (normal-parts j)

  pub normal-fits : length (normal_form j) ≤ L.job_bytes
  normal-fits = file-fits L c j sound (normal_form j) (normal-parts j)

  -- A job is read back from its normal form.
  pub round_trip : reading L (normal_form j) ≡ accepted j
  round_trip = file-read L c j sound (normal_form j) (normal-parts j)

  -- What is read from a normal form has that normal form.
  pub normal-of-normal : (k : Job) → reading L (normal_form j) ≡ accepted k → normal_form k ≡ normal_form j
  normal-of-normal k e = ap normal_form (same-accepted k j (sym e ∙ round_trip))

  -- A file that is read as the job, and the job's normal form, are read alike
  pub reads-alike : (b : List ℕ) → reading L b ≡ accepted j → reading L b ≡ reading L (normal_form j)
  reads-alike b e = e ∙ sym round_trip

  -- and so have the same answer record.
  pub same_answer : (b : List ℕ) → reading L b ≡ accepted j → (answer : List ℕ) →
      Answered (reading L b) answer ↔ Answered (reading L (normal_form j)) answer
  same_answer b e answer =
      (subst (λ r. Answered r answer) (reads-alike b e), subst (λ r. Answered r answer) (sym (reads-alike b e)))

-- "Two jobs are the same when question, d, v, these lists and A agree": exactly when their normal forms are.
pub same-normal : (L : Limits) → Consistent L → (j k : Job) → SoundJob L j → SoundJob L k → (normal_form j ≡ normal_form k) ↔ (j ≡ k)
same-normal L c j k sound-j sound-k =
    (λ e. same-accepted j k (sym (round_trip L c j sound-j) ∙ ap (reading L) e ∙ round_trip L c k sound-k), λ e. ap normal_form e)
