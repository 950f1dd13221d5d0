-- `writer::put_job` meets its contract: the five records stand one behind the other.
use Prim.Native.Nat.{ℕ, ◌+◌, ◌≤◌}
use native.Mathlib.Omega.{arith}
use mathlib.Core.Path.{◌≡◌, refl, sym}
use mathlib.Core.List.{List, [], ◌++◌, append-nil, append_assoc}
use lib.ListN.{length}
use Rattle.format.specs.Numbers.{edges_kind, triangles_kind, tetrahedra_kind, chain_kind}
use Rattle.format.specs.Answer.{record_of}
use Rattle.lists.specs.Meaning.{simplices_of}
use Rattle.complexes.specs.declared.Job.{Job}
use Rattle.writer.specs.Meaning.{head_record, list_bytes, mark_bytes, job_bytes, Put}
use Rattle.writer.proofs.Runs.{Run, run-starts, run-room, run-goes-on, run-ends}
use Rattle.writer.proofs.put_job.Goals as goal

in-turn : (a b c d e : List ℕ) → a ++ b ++ c ++ d ++ e ≡ a ++ (b ++ (c ++ (d ++ e)))
in-turn a b c d e = simp append_assoc

-- the records behind the head, and what is left to put behind each
module _ (j : Job) (n : ℕ) where
  abbrev edges : List ℕ
  edges = record_of edges_kind (list_bytes (simplices_of j.complex.edges))

  abbrev triangles : List ℕ
  triangles = record_of triangles_kind (list_bytes (simplices_of j.complex.triangles))

  abbrev tetrahedra : List ℕ
  tetrahedra = record_of tetrahedra_kind (list_bytes (simplices_of j.complex.tetrahedra))

  abbrev chain : List ℕ
  chain = record_of chain_kind (mark_bytes n j.marks.on)

  -- the records put so far, and what is left to put
  module _ (l : List ℕ) (room : length (job_bytes j n) ≤ length l) where
    fits : 0 + length (job_bytes j n) ≤ length l
    fits = omega (arith, room)

    module _ {v : List ℕ} {a : ℕ} (p : Put l 0 (head_record j.head) v a) where
      one : Run l 0 (job_bytes j n) v a (edges ++ (triangles ++ (tetrahedra ++ chain)))
      one =
          run-goes-on (run-starts l 0 (job_bytes j n)) fits (head_record j.head) (edges ++ (triangles ++ (tetrahedra ++ chain)))
          (in-turn (head_record j.head) edges triangles tetrahedra chain) p

      module _ {w : List ℕ} {b : ℕ} (q : Put v a edges w b) where
        two : Run l 0 (job_bytes j n) w b (triangles ++ (tetrahedra ++ chain))
        two = run-goes-on one fits edges (triangles ++ (tetrahedra ++ chain)) refl q

        module _ {x : List ℕ} {c : ℕ} (r : Put w b triangles x c) where
          three : Run l 0 (job_bytes j n) x c (tetrahedra ++ chain)
          three = run-goes-on two fits triangles (tetrahedra ++ chain) refl r

          module _ {y : List ℕ} {d : ℕ} (s : Put x c tetrahedra y d) where
            four : Run l 0 (job_bytes j n) y d chain
            four = run-goes-on three fits tetrahedra chain refl s

            all-put : {z : List ℕ} {e : ℕ} → Put y d chain z e → Put l 0 (job_bytes j n) z e
            all-put t = run-ends (run-goes-on four fits chain [] (sym (append-nil chain)) t) refl

pub put_list_record-b-requires : goal.put_list_record-b-requires
put_list_record-b-requires c =
    let j = c.args.job in
    let n = c.args.n in
    let left = one j n _ c.requires.1 c.put_head-a.ensures in
    run-room left (fits j n _ c.requires.1) (edges j n) (triangles j n ++ (tetrahedra j n ++ chain j n)) refl

pub put_list_record-c-requires : goal.put_list_record-c-requires
put_list_record-c-requires c =
    let j = c.args.job in
    let n = c.args.n in
    let left = two j n _ c.requires.1 c.put_head-a.ensures c.put_list_record-b.ensures in
    run-room left (fits j n _ c.requires.1) (triangles j n) (tetrahedra j n ++ chain j n) refl

pub put_list_record-d-requires : goal.put_list_record-d-requires
put_list_record-d-requires c =
    let j = c.args.job in
    let n = c.args.n in
    let left = three j n _ c.requires.1 c.put_head-a.ensures c.put_list_record-b.ensures c.put_list_record-c.ensures in
    run-room left (fits j n _ c.requires.1) (tetrahedra j n) (chain j n) refl

pub put_chain_record-requires : goal.put_chain_record-requires
put_chain_record-requires c =
    let j = c.args.job in
    let n = c.args.n in
    let left = four j n _ c.requires.1 c.put_head-a.ensures c.put_list_record-b.ensures c.put_list_record-c.ensures c.put_list_record-d.ensures in
    (c.requires.0, run-room left (fits j n _ c.requires.1) (chain j n) [] (sym (append-nil (chain j n))))

pub returns : goal.returns
returns c =
    all-put c.args.job c.args.n _ c.requires.1 c.put_head-a.ensures c.put_list_record-b.ensures c.put_list_record-c.ensures c.put_list_record-d.ensures
    c.put_chain_record.ensures
