-- A refusal's number is one of 1 to 11, and its place lies within the file. Why: each check gives its own number, each record
-- begins where the one before it ends, and each item lies in its record.
use Rattle.std.specs.Prelude.{ℕ, zero, suc, ◌+◌, ◌*◌, ◌/◌, ◌≤◌, ◌<◌, ◌≡◌, refl, Bool, true, false, not, ◌||◌, cond, List, [], ◌∷◌, ◌++◌, length, eqb, leb, ltb}
use Rattle.std.proofs.Common.{sym, ◌∙◌, ap, subst, subst₂, arith, div-mul-le_self, lt-ltb}
use Rattle.std.proofs.Math.Decide.{dec_lt}
use Rattle.format.specs.Numbers.{Limits, header_bytes, head_kind, edges_kind, triangles_kind, tetrahedra_kind, edit_kind, wrong_kind, cut, shape, bad_head, vertex, twice, face, chain_item, stale, target, too_long}
use Rattle.format.specs.Simplex.{Simplex, Complex, sound_simplex, listed, all_listed, simplices}
use Rattle.format.specs.Reading.{Reading, ◌and_then◌, accepted, refused, refuse_if, Header, ended, broken, whole, Record, Listing, Chosen, Job, header_at, payload_at, record_from, record_at, read_head, head_sound, head_of, items_of, read_items, owed_facets, list_fits, read_list, positions_of, rising_below, named, walk_chain, steps_from, steps, read_steps, may_ask, chain_fits, chosen_by, read_chain, chain_dimension, edited, stands_at, simplex_of, seen_of, new_of, list_kind_of, list_of_kind, edit_fits, read_edits, after_lists, after_head, head_fits, reading}
use Rattle.format.specs.Opened.{RecordWhole, record-whole}
use Rattle.format.specs.Sound.{both-accepted, same-accepted}
use Rattle.format.proofs.Accepted.{length-items}
use Rattle.format.specs.Places.{OfFile, RefusedUpTo}

accepted-places : {A : Type 0} (k : ℕ) (a : A) → RefusedUpTo k (accepted a)
accepted-places k a n p e = let z : ◌≡◌ {A = ℕ} 0 1 = cc in absurd (omega arith)

refused-places : {A : Type 0} (k m q : ℕ) → 1 ≤ m → m ≤ 11 → q ≤ k → (n p : ℕ) → ◌≡◌ {A = Reading A} (refused m q) (refused n p) → OfFile k n p
refused-places k m q lo hi h n p e =
    let number : m ≡ n = cc in
    let place : q ≡ p = cc in
    record { least = omega arith; most = omega arith; within = omega arith }

check-places : {A : Type 0} (k : ℕ) (t : Bool) (m q : ℕ) (next : Reading A) → 1 ≤ m → m ≤ 11 → q ≤ k → RefusedUpTo k next → RefusedUpTo k (refuse_if t m q next)
check-places k true m q next lo hi h rest = refused-places k m q lo hi h
check-places k false m q next lo hi h rest = rest

then-places : {A B : Type 0} (k : ℕ) (r : Reading A) (f : A → Reading B) → RefusedUpTo k r → ((a : A) → r ≡ accepted a → RefusedUpTo k (f a)) → RefusedUpTo k (r and_then f)
then-places k (accepted a) f here rest = rest a refl
then-places k (refused m q) f here rest =
    λ n p e. let number : m ≡ n = cc in let place : q ≡ p = cc in subst₂ (OfFile k) number place (here m q refl)

-- RECORDS stand within the file.
record-places : (may : ℕ → Bool) (fits : ℕ → List ℕ → Bool) (b : List ℕ) (at : ℕ) → at ≤ length b → RefusedUpTo (length b) (record_at may fits b at)
unfolding record_from
record-places may fits b at h = go (header_at b at)
  where
    go : (x : Header) → RefusedUpTo (length b) (record_from may fits b at x)
    go ended = refused-places (length b) wrong_kind at (omega arith) (omega arith) h
    go broken = refused-places (length b) cut at (omega arith) (omega arith) h
    go (whole kind size) =
        check-places (length b) (not (may kind)) wrong_kind at _ (omega arith) (omega arith) h
        (check-places (length b) (not (fits kind (payload_at b at size))) shape at _ (omega arith) (omega arith) h
        (accepted-places (length b) (record { kind = kind; payload = payload_at b at size; next = at + header_bytes + size })))

-- ITEMS lie in their payload.
items-places : (k width v : ℕ) (faces : List Simplex) (at : ℕ) (before rest : List Simplex) → at + length rest * width ≤ k → RefusedUpTo k (read_items width v faces at before rest)
unfolding read_items
items-places k width v faces at before [] h = accepted-places k before
items-places k width v faces at before (s ∷ rest) h =
    check-places k (not (sound_simplex v s)) vertex at _ (omega arith) (omega arith) (omega arith)
    (check-places k (listed s before) twice at _ (omega arith) (omega arith) (omega arith)
    (check-places k (not (all_listed (owed_facets width s) faces)) face at _ (omega arith) (omega arith) (omega arith)
    (items-places k width v faces (at + width) (before ++ (s ∷ [])) rest (omega arith))))

positions-places : (k count at least : ℕ) (ps : List ℕ) → at + 2 * length ps ≤ k → RefusedUpTo k (rising_below count at least ps)
unfolding rising_below
positions-places k count at least [] h = accepted-places k []
positions-places k count at least (p ∷ ps) h =
    check-places k (ltb p least || leb count p) chain_item at _ (omega arith) (omega arith) (omega arith)
    (then-places k (rising_below count (at + 2) (suc p) ps) _ (positions-places k count (at + 2) (suc p) ps (omega arith))
    (λ rest _. accepted-places k (p ∷ rest)))

steps-places : (k : ℕ) (edges : List Simplex) (at : ℕ) (walk : List Simplex) → at + length walk ≤ k → RefusedUpTo k (read_steps edges at walk)
unfolding read_steps
steps-places k edges at [] h = accepted-places k []
steps-places k edges at (s ∷ walk) h =
    check-places k (not (listed s edges)) chain_item at _ (omega arith) (omega arith) (omega arith)
    (then-places k (read_steps edges (at + 1) walk) _ (steps-places k edges (at + 1) walk (omega arith))
    (λ rest _. accepted-places k (s ∷ rest)))

-- as many positions as pairs of bytes, as many steps as vertices
count-positions : (p : List ℕ) → 2 * length (positions_of p) ≤ length p
unfolding positions_of
count-positions [] = omega arith
count-positions (a ∷ []) = omega arith
count-positions (a ∷ b ∷ p) = omega (arith, count-positions p)

count-from : (first last : ℕ) (ws : List ℕ) → length (steps_from first last ws) ≡ suc (length ws)
unfolding steps_from
count-from first last [] = refl
count-from first last (w ∷ ws) = ap suc (count-from first w ws)

count-steps : (p : List ℕ) → length (steps p) ≡ length p
count-steps [] = refl
count-steps (w ∷ ws) = count-from w w ws

-- THE STAGES.
list-places : (L : Limits) (b : List ℕ) (at kind v : ℕ) (faces : List Simplex) → at ≤ length b → RefusedUpTo (length b) (read_list L b at kind v faces)
unfolding read_list
list-places L b at kind v faces h =
    then-places (length b) (record_at (eqb kind) (λ _ p. list_fits L kind p) b at) _ (record-places (eqb kind) (λ _ p. list_fits L kind p) b at h)
    (λ r e. then-places (length b) (read_items kind v faces (at + header_bytes) [] (items_of kind r.payload)) _
    (items-places (length b) kind v faces (at + header_bytes) [] (items_of kind r.payload)
    (omega (arith, (record-whole (eqb kind) (λ _ p. list_fits L kind p) b at r e).inside, (record-whole (eqb kind) (λ _ p. list_fits L kind p) b at r e).ends, ap (λ n. n * kind) (length-items kind (length r.payload / kind) r.payload), div-mul-le_self (length r.payload) kind)))
    (λ l _. accepted-places (length b) (record { list = l; next = r.next })))

chain-places : (L : Limits) (b : List ℕ) (at dimension : ℕ) (X : Complex) → at ≤ length b → RefusedUpTo (length b) (read_chain L b at dimension X)
unfolding read_chain chosen_by
chain-places L b at dimension X h =
    then-places (length b) (record_at (may_ask dimension) (chain_fits L) b at) _ (record-places (may_ask dimension) (chain_fits L) b at h)
    (λ r e. then-places (length b) (chosen_by X dimension (at + header_bytes) r) _ (go r (record-whole (may_ask dimension) (chain_fits L) b at r e) (eqb r.kind 5))
    (λ A _. accepted-places (length b) (record { chain = A; next = r.next })))
  where
    go : (r : Record) → RecordWhole b at r → (x : Bool) → RefusedUpTo (length b)
        (cond x
        (rising_below (length (simplices X dimension)) (at + header_bytes) 0 (positions_of r.payload) and_then λ positions. accepted (named (simplices X dimension) positions))
        (read_steps X.edges (at + header_bytes) (steps r.payload) and_then λ walked. accepted (walk_chain walked)))
    go r w true =
        then-places (length b) (rising_below (length (simplices X dimension)) (at + header_bytes) 0 (positions_of r.payload)) _
        (positions-places (length b) (length (simplices X dimension)) (at + header_bytes) 0 (positions_of r.payload) (omega (arith, w.inside, w.ends, count-positions r.payload)))
        (λ ps _. accepted-places (length b) (named (simplices X dimension) ps))
    go r w false =
        then-places (length b) (read_steps X.edges (at + header_bytes) (steps r.payload)) _
        (steps-places (length b) X.edges (at + header_bytes) (steps r.payload) (omega (arith, w.inside, w.ends, count-steps r.payload)))
        (λ ws _. accepted-places (length b) (walk_chain ws))

edits-places : (left : ℕ) (b : List ℕ) (at : ℕ) (X : Complex) → at ≤ length b → RefusedUpTo (length b) (read_edits left b at X)
unfolding read_edits edited
edits-places zero b at X h = go (leb (length b) at)
  where
    go : (x : Bool) → RefusedUpTo (length b) (cond x (accepted X) (record_at (λ _. false) (λ _ _. true) b at and_then λ _. accepted X))
    go true = accepted-places (length b) X
    go false =
        then-places (length b) (record_at (λ _. false) (λ _ _. true) b at) _ (record-places (λ _. false) (λ _ _. true) b at h)
        (λ _ _. accepted-places (length b) X)
edits-places (suc left) b at X h = go (leb (length b) at) (λ Y n k. edits-places left b n Y k)
  where
    go : (x : Bool) → ((Y : Complex) (n : ℕ) → n ≤ length b → RefusedUpTo (length b) (read_edits left b n Y)) → RefusedUpTo (length b) (cond x (accepted X) (record_at (eqb edit_kind) (λ _ p. edit_fits p) b at and_then λ r. edited at r.payload X and_then λ Y. read_edits left b r.next Y))
    go true later = accepted-places (length b) X
    go false later =
        then-places (length b) (record_at (eqb edit_kind) (λ _ p. edit_fits p) b at) _ (record-places (eqb edit_kind) (λ _ p. edit_fits p) b at h)
        (λ r e. then-places (length b) (edited at r.payload X) _
        (check-places (length b) (not (stands_at (simplex_of r.payload) (seen_of r.payload) (list_of_kind (list_kind_of r.payload) X))) stale at _ (omega arith) (omega arith) h
        (check-places (length b) (leb (length (list_of_kind (list_kind_of r.payload) X)) (new_of r.payload)) target at _ (omega arith) (omega arith) h
        (accepted-places (length b) _)))
        (λ Y _. later Y r.next (record-whole (eqb edit_kind) (λ _ p. edit_fits p) b at r e).inside))

-- an accepted list's record ends within the file
list-ends : (L : Limits) (b : List ℕ) (at kind v : ℕ) (faces : List Simplex) (l : Listing) → read_list L b at kind v faces ≡ accepted l → l.next ≤ length b
unfolding read_list
list-ends L b at kind v faces l e =
    let one = both-accepted (record_at (eqb kind) (λ _ p. list_fits L kind p) b at) _ l e in
    let two = both-accepted (read_items kind v faces (at + header_bytes) [] (items_of kind one.0.payload)) _ l one.2 in
    subst (λ x. x.next ≤ length b) (same-accepted _ l two.2) (record-whole (eqb kind) (λ _ p. list_fits L kind p) b at one.0 one.1).inside

chain-ends : (L : Limits) (b : List ℕ) (at dimension : ℕ) (X : Complex) (A : Chosen) → read_chain L b at dimension X ≡ accepted A → A.next ≤ length b
unfolding read_chain
chain-ends L b at dimension X A e =
    let one = both-accepted (record_at (may_ask dimension) (chain_fits L) b at) _ A e in
    let two = both-accepted (chosen_by X dimension (at + header_bytes) one.0) _ A one.2 in
    subst (λ x. x.next ≤ length b) (same-accepted _ A two.2) (record-whole (may_ask dimension) (chain_fits L) b at one.0 one.1).inside

-- THE WHOLE READING.
reading-places : (L : Limits) (b : List ℕ) → RefusedUpTo (length b) (reading L b)
unfolding reading after_head after_lists read_head
reading-places L b =
    check-places (length b) (ltb L.job_bytes (length b)) too_long 0 _ (omega arith) (omega arith) (omega arith)
    (then-places (length b) (record_at (eqb head_kind) head_fits b 0) _ (record-places (eqb head_kind) head_fits b 0 (omega arith)) λ r er.
    then-places (length b) (read_head L r.payload) _ (check-places (length b) (not (head_sound L r.payload)) bad_head 0 _ (omega arith) (omega arith) (omega arith) (accepted-places (length b) (head_of r.payload))) λ h _.
    then-places (length b) (read_list L b r.next edges_kind h.v []) _ (list-places L b r.next edges_kind h.v [] (record-whole (eqb head_kind) head_fits b 0 r er).inside) λ e ee.
    then-places (length b) (read_list L b e.next triangles_kind h.v e.list) _ (list-places L b e.next triangles_kind h.v e.list (list-ends L b r.next edges_kind h.v [] e ee)) λ t et.
    then-places (length b) (read_list L b t.next tetrahedra_kind h.v t.list) _ (list-places L b t.next tetrahedra_kind h.v t.list (list-ends L b e.next triangles_kind h.v e.list t et)) λ s es.
    let X : Complex = record { v = h.v; edges = e.list; triangles = t.list; tetrahedra = s.list } in
    let k : ℕ = chain_dimension h.question h.d in
    then-places (length b) (read_chain L b s.next k X) _ (chain-places L b s.next k X (list-ends L b t.next tetrahedra_kind h.v t.list s es)) λ A e_a.
    then-places (length b) (read_edits L.edits b A.next X) _ (edits-places L.edits b A.next X (chain-ends L b s.next k X A e_a)) λ Y _.
    accepted-places (length b) (record { question = h.question; d = h.d; complex = Y; chain = A.chain }))

-- A job that is too long is refused at place 0, so no place lies past the longest job.
pub too_long_lem : (L : Limits) (b : List ℕ) → L.job_bytes < length b → reading L b ≡ refused too_long 0
unfolding reading
too_long_lem L b h = rw (lt-ltb L.job_bytes (length b) h)

pub reading-refused : (L : Limits) (b : List ℕ) (n p : ℕ) → reading L b ≡ refused n p → OfFile L.job_bytes n p
reading-refused L b n p e = go (dec_lt L.job_bytes (length b)) (reading-places L b n p e)
  where
    go : Dec (L.job_bytes < length b) → OfFile (length b) n p → OfFile L.job_bytes n p
    go (yes long) told =
        let same : ◌≡◌ {A = Reading Job} (refused too_long 0) (refused n p) = sym (too_long_lem L b long) ∙ e in
        let front : 0 ≡ p = cc in
        record { least = told.least; most = told.most; within = omega arith }
    go (no short) told = record { least = told.least; most = told.most; within = omega (arith, told.within) }
