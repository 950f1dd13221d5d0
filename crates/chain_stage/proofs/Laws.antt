-- What each outcome of the stage's tests comes to in the definitions.
use Prim.Native.Nat.{ℕ, zero, suc, ◌+◌, ◌%◌, ◌≤◌, ◌<◌}
use mathlib.Core.Path.{◌≡◌, refl, sym, ◌∙◌, ap, subst}
use mathlib.Core.Bool.{Bool, false, and-false}
use mathlib.Core.List.{List, [], ◌∷◌, map}
use native.Mathlib.Omega.{arith}
use lib.ListN.{length, get_or, take, length-take, length-map, get_or-map}
use lib.Seq.{ext_get_or, get_or-take}
use borrow.Author.Tests.{eqb-true, eq-eqb, ne_eqb, le-leb, lt-leb}
use Rattle.format.specs.Numbers.{small, cut, wrong_kind, shape, header_bytes, chain_kind, walk_kind}
use Rattle.format.specs.Simplex.{Simplex, SimplexSet, Complex, simplices, all_below}
use Rattle.format.specs.Reading.{Reading, accepted, refused, ended, broken, whole, header_at, payload_at, Record, record_from, record_at, may_ask, chain_fits, chosen_by, rising_below, positions_of, named, read_steps, steps, walk_chain, read_chain}
use Rattle.format.specs.Opened.{whole-inside, payload-long}
use Rattle.format.specs.Marks.{Once, named-marks}
use Rattle.std.specs.Prelude.{Result}
use Rattle.std.proofs.Common.{Ok, Err}
use Rattle.refusals.specs.Readings.{refused_by, reading_of, reading-both, not_read, same_read}
use Rattle.refusals.specs.declared.Refusal.{Refusal}
use Rattle.format.proofs.Accepted.{record-fits}
use Rattle.lists.specs.declared.Marks.{Marks}
use Rattle.chosen.specs.Meaning.{PositionsRead, WalkRead}
use Rattle.complexes.specs.Meaning.{Marked}
use Rattle.chain_stage.specs.Meaning.{record_of_kind, ChainStageRead}
use Rattle.chain_stage.specs.declared.ChainStage.{ChainStage}

-- OPENING, case by case of the header, the kind and the length.
module _ (b : List ℕ) (at dim : ℕ) where
  abbrev pub asked : Reading Record
  asked = record_at (may_ask dim) (chain_fits small) b at

  pub asked-ended : header_at b at ≡ ended → asked ≡ refused wrong_kind at
  unfolding record_from
  asked-ended e = rw e

  pub asked-broken : header_at b at ≡ broken → asked ≡ refused cut at
  unfolding record_from
  asked-broken e = rw e

  module _ (kind size : ℕ) (is : header_at b at ≡ whole kind size) where
    long : length (payload_at b at size) ≡ size
    long = payload-long b at size (whole-inside b at kind size is)

    pub asked-uneven : kind ≡ 5 → (size % 2 ≡ 0 → ⊥) → asked ≡ refused shape at
    unfolding record_from
    asked-uneven k n = rw (is, k, long, ne_eqb (size % 2) 0 n)

    pub asked-long : kind ≡ 5 → 1024 < size → asked ≡ refused shape at
    unfolding record_from
    asked-long k h = rw (is, k, long, lt-leb size 1024 h, and-false)

    pub asked-positions : kind ≡ 5 → size % 2 ≡ 0 → size ≤ 1024 → asked ≡ accepted (record_of_kind chain_kind b at size)
    unfolding record_from
    asked-positions k e h = rw (is, k, long, eq-eqb (size % 2) 0 e, le-leb size 1024 h)

    pub asked-other : (kind ≡ 5 → ⊥) → (kind ≡ 6 → ⊥) → asked ≡ refused wrong_kind at
    unfolding record_from
    asked-other n m = rw (is, ne_eqb kind 5 n, ne_eqb kind 6 m)

    pub asked-flat : (kind ≡ 5 → ⊥) → (dim ≡ 1 → ⊥) → asked ≡ refused wrong_kind at
    unfolding record_from
    asked-flat n m = rw (is, ne_eqb kind 5 n, ne_eqb dim 1 m, and-false)

    pub asked-far : (kind ≡ 5 → ⊥) → kind ≡ 6 → dim ≡ 1 → 1024 < size → asked ≡ refused shape at
    unfolding record_from
    asked-far n k d h = rw (is, k, long, eq-eqb dim 1 d, lt-leb size 1024 h)

    pub asked-walk : (kind ≡ 5 → ⊥) → kind ≡ 6 → dim ≡ 1 → size ≤ 1024 → asked ≡ accepted (record_of_kind walk_kind b at size)
    unfolding record_from
    asked-walk n k d h = rw (is, k, long, eq-eqb dim 1 d, le-leb size 1024 h)

-- READING, once the record is opened.
module _ (b : List ℕ) (at dim : ℕ) (X : Complex) where
  pub chain-refused : (number place : ℕ) → asked b at dim ≡ refused number place → read_chain small b at dim X ≡ refused number place
  unfolding read_chain
  chain-refused number place e = rw e

  module _ (size : ℕ) (read : Result Marks Refusal) where
    pub chain-positions : asked b at dim ≡ accepted (record_of_kind chain_kind b at size) → (ps : List ℕ) → ps ≡ positions_of (payload_at b at size) → rising_below (length (simplices X dim)) (at + header_bytes) 0 ps ≡ reading_of (λ _. ps) read
        → read_chain small b at dim X ≡ reading_of (λ _. record { chain = named (simplices X dim) ps; next = at + header_bytes + size }) read
    unfolding read_chain chosen_by
    chain-positions e ps is r =
        rw (e, ← is, r) (reading-both read (λ _. ps) (named (simplices X dim)) (λ A. record { chain = A; next = at + header_bytes + size }))

    pub chain-walk : asked b at dim ≡ accepted (record_of_kind walk_kind b at size) → (walked : List Simplex) → walked ≡ steps (payload_at b at size) → read_steps X.edges (at + header_bytes) walked ≡ reading_of (λ _. walked) read
        → read_chain small b at dim X ≡ reading_of (λ _. record { chain = walk_chain walked; next = at + header_bytes + size }) read
    unfolding read_chain chosen_by
    chain-walk e walked is r =
        rw (e, ← is, r) (reading-both read (λ _. walked) walk_chain (λ A. record { chain = A; next = at + header_bytes + size }))

-- MARKS place by place are the marks of a set.
any-default : {A : Type 0} (l : List A) (i : ℕ) (d e : A) → i < length l → get_or l i d ≡ get_or l i e
any-default [] i d e h = absurd (omega arith)
any-default (x ∷ l) zero d e h = refl
any-default (x ∷ l) (suc i) d e h = any-default l i d e (omega arith)

pub marked-by-place : (on : List Bool) (l : List Simplex) (A : SimplexSet) → length l ≤ length on → ((i : ℕ) → i < length l → get_or on i false ≡ A (get_or l i [])) → Marked on l A
marked-by-place on l A room each =
    let cut : length (take (length l) on) ≡ length l = omega (arith, length-take (length l) on) in
    record {
      room = room;
      marks = ext_get_or false (take (length l) on) (map A l) (cut ∙ sym (length-map l A))
          (λ i h. get_or-take (length l) on i false (omega arith) ∙ each i (omega arith) ∙ sym (get_or-map A l i []) ∙ any-default (map A l) i (A []) false (omega (arith, length-map l A)));
    }

-- a walk stands only where A has dimension 1
walk-flat : (b : List ℕ) (at dim : ℕ) (size : ℕ) → asked b at dim ≡ accepted (record_of_kind walk_kind b at size) → dim ≡ 1
walk-flat b at dim size e =
    eqb-true dim 1 (record-fits (may_ask dim) (chain_fits small) b at (header_at b at) (record_of_kind walk_kind b at size) e).0

-- THE STAGE'S OUTCOME, refused or read, over whatever complex has the simplices counted and the edges entered.
module _ (b : List ℕ) (at dim : ℕ) (X : Complex) where
  pub stage-refused : (e : Refusal) → read_chain small b at dim X ≡ refused_by e → ChainStageRead b at dim X (Err e)
  stage-refused e is = record { set = λ s. false; reading = is; marks = λ asked f. absurd (not_read f) }

  -- a record with marks of the set that it names
  stage-read : (A : SimplexSet) (m : Marks) (next : ℕ) → read_chain small b at dim X ≡ accepted (record { chain = A; next = next })
      → (Once (simplices X dim) → Marked m.on (simplices X dim) A) → ChainStageRead b at dim X (Ok (record { marks = m; next = next }))
  stage-read A m next is marked = record {
    set = A;
    reading = is;
    marks = λ asked f. subst (λ (x : ChainStage). Once (simplices X dim) → Marked x.marks.on (simplices X dim) A) (same_read f) marked;
  }

  module _ (size : ℕ) (p : List ℕ) (is : p ≡ payload_at b at size) where
    pub positions-told : {count : ℕ} {r : Result Marks Refusal} → asked b at dim ≡ accepted (record_of_kind chain_kind b at size) → length (simplices X dim) ≡ count
        → PositionsRead p (at + header_bytes) count r
        → read_chain small b at dim X ≡ reading_of (λ _. record { chain = named (simplices X dim) (positions_of p); next = at + header_bytes + size }) r
    positions-told {r = r} e n read =
        chain-positions b at dim X size r e (positions_of p) (ap positions_of is) (ap (λ k. rising_below k (at + header_bytes) 0 (positions_of p)) n ∙ read.reading)

    pub stage-positions : {count : ℕ} (m : Marks) → length m.on ≡ 512 → asked b at dim ≡ accepted (record_of_kind chain_kind b at size) → length (simplices X dim) ≡ count → count ≤ 512
        → PositionsRead p (at + header_bytes) count (Ok m) → ChainStageRead b at dim X (Ok (record { marks = m; next = at + header_bytes + size }))
    stage-positions m full e n few read =
        stage-read (named (simplices X dim) (positions_of p)) m _ (positions-told e n read)
        (λ once.
        marked-by-place m.on (simplices X dim) (named (simplices X dim) (positions_of p)) (omega arith)
        (λ i h. read.marks m refl i ∙ sym (named-marks (simplices X dim) once (positions_of p) (ap (λ k. all_below k (positions_of p)) n ∙ read.below m refl) i h)))

    pub walk-told : {edges : List Simplex} {r : Result Marks Refusal} → asked b at dim ≡ accepted (record_of_kind walk_kind b at size) → X.edges ≡ edges
        → WalkRead p (at + header_bytes) edges r
        → read_chain small b at dim X ≡ reading_of (λ _. record { chain = walk_chain (steps p); next = at + header_bytes + size }) r
    walk-told {r = r} e own read =
        chain-walk b at dim X size r e (steps p) (ap steps is) (ap (λ l. read_steps l (at + header_bytes) (steps p)) own ∙ read.reading)

    pub stage-walk : {edges : List Simplex} (m : Marks) → length m.on ≡ 512 → asked b at dim ≡ accepted (record_of_kind walk_kind b at size) → X.edges ≡ edges → length edges ≤ 512
        → WalkRead p (at + header_bytes) edges (Ok m) → ChainStageRead b at dim X (Ok (record { marks = m; next = at + header_bytes + size }))
    unfolding simplices
    stage-walk {edges} m full e own few read =
        let flat : simplices X dim ≡ edges = ap (simplices X) (walk-flat b at dim size e) ∙ own in
        stage-read (walk_chain (steps p)) m _ (walk-told e own read)
        (λ once.
        subst (λ l. Marked m.on l (walk_chain (steps p))) (sym flat)
        (marked-by-place m.on edges (walk_chain (steps p)) (omega arith) (read.marks m refl (subst Once flat once))))
