-- The reading of a job file: a job, or a refusal with its number and place. The checks stand in document 01's
-- order: 1, then record by record; in a record 2, 3, 4, then 5, or item by item 6, 7, 8, or item by item 9, or 10
-- then 11. "The first that holds is the answer."
use Rattle.std.specs.Prelude.{ℕ, zero, suc, ◌+◌, ◌*◌, ◌/◌, ◌%◌, pred, Bool, true, false, not, ◌&&◌, ◌||◌, cond, List, [], ◌∷◌, ◌++◌, map, length, get_or, take, drop, eqb, leb, ltb}
use Rattle.format.specs.Numbers.{Limits, header_bytes, head_kind, edges_kind, triangles_kind, tetrahedra_kind, chain_kind, walk_kind, edit_kind, too_long, cut, wrong_kind, shape, bad_head, vertex, twice, face, chain_item, stale, target}
use Rattle.format.specs.Simplex.{Simplex, SimplexSet, Complex, sound_simplex, facets, same, listed, all_listed, simplices}

-- What reading comes to: what was read, or a refusal's number and place.
pub data Reading (A : Type 0) : Type 0 where
  accepted : A → Reading A
  refused : ℕ → ℕ → Reading A

abbrev pub refuse_if : {A : Type 0} → Bool → ℕ → ℕ → Reading A → Reading A
refuse_if true number place next = refused number place
refuse_if false number place next = next

infixl 20 ◌and_then◌
abbrev pub ◌and_then◌ : {A B : Type 0} → Reading A → (A → Reading B) → Reading B
accepted a and_then f = f a
refused number place and_then f = refused number place

-- "All numbers little-endian": two and four bytes from a place.
abbrev pub u16_at : List ℕ → ℕ → ℕ
u16_at b at = get_or b at 0 + 256 * get_or b (at + 1) 0

abbrev pub u32_at : List ℕ → ℕ → ℕ
u32_at b at = u16_at b at + 65536 * u16_at b (at + 2)

-- RECORDS. What stands at a place of the file: its end, a record whose "header or payload runs past the end", or a
-- whole record with its kind and the length of its payload.
pub data Header : Type 0 where
  ended : Header
  broken : Header
  whole : ℕ → ℕ → Header

unfoldable pub header_at : List ℕ → ℕ → Header
header_at b at =
    cond (leb (length b) at) ended
    (cond (ltb (length b) (at + header_bytes)) broken
    (cond (ltb (length b) (at + header_bytes + u32_at b at)) broken (whole (u16_at b (at + 4)) (u32_at b at))))

-- "The reader hands each payload back as that part of the caller's bytes."
abbrev pub payload_at : List ℕ → ℕ → ℕ → List ℕ
payload_at b at size = take size (drop (at + header_bytes) b)

pub record Record : Type 0 where
  pub kind : ℕ
  pub payload : List ℕ
  -- the offset of the record behind it
  pub next : ℕ

-- In a record: 2 cut, then 3 kind (also where "the file ends before the chain or walk"), then 4 shape.
unfoldable pub record_from : (ℕ → Bool) → (ℕ → List ℕ → Bool) → List ℕ → ℕ → Header → Reading Record
record_from may fits b at ended = refused wrong_kind at
record_from may fits b at broken = refused cut at
record_from may fits b at (whole kind size) =
    refuse_if (not (may kind)) wrong_kind at
    (refuse_if (not (fits kind (payload_at b at size))) shape at
    (accepted (record { kind = kind; payload = payload_at b at size; next = at + header_bytes + size })))

abbrev pub record_at : (ℕ → Bool) → (ℕ → List ℕ → Bool) → List ℕ → ℕ → Reading Record
record_at may fits b at = record_from may fits b at (header_at b at)

-- HEAD. "question byte (1 fill, 2 class), d byte, v in two bytes"
pub data Question : Type 0 where
  fill : Question
  class : Question

abbrev pub question_byte : Question → ℕ
question_byte fill = 1
question_byte class = 2

abbrev pub question_of : ℕ → Question
question_of byte = cond (eqb byte 1) fill class

pub record Head : Type 0 where
  pub question : Question
  pub d : ℕ
  pub v : ℕ

-- "Fill, answer dimension d from 1 to 3", "Class, d from 0 to 2"
abbrev pub dimension_fits : Question → ℕ → Bool
dimension_fits fill d = leb 1 d && leb d 3
dimension_fits class d = leb d 2

-- the dimension of A: "given a (d-1)-chain A" to fill, "given a d-chain A" for its class
abbrev pub chain_dimension : Question → ℕ → ℕ
chain_dimension fill d = pred d
chain_dimension class d = d

-- 5: "question, d or v is outside its range", place 0
abbrev pub head_sound : Limits → List ℕ → Bool
head_sound L p =
    (eqb (get_or p 0 0) 1 || eqb (get_or p 0 0) 2) &&
    dimension_fits (question_of (get_or p 0 0)) (get_or p 1 0) && leb (u16_at p 2) L.vertices

abbrev pub head_of : List ℕ → Head
head_of p = record { question = question_of (get_or p 0 0); d = get_or p 1 0; v = u16_at p 2 }

unfoldable pub read_head : Limits → List ℕ → Reading Head
read_head L p = refuse_if (not (head_sound L p)) bad_head 0 (accepted (head_of p))

-- LISTS. The simplices of a payload, each of `width` vertices, of which `count` are left to take.
unfoldable pub items : ℕ → ℕ → List ℕ → List Simplex
items width zero p = []
items width (suc count) p = take width p ∷ items width count (drop width p)

abbrev pub items_of : ℕ → List ℕ → List Simplex
items_of width p = items width (length p / width) p

-- what must be listed for rule 8: "Every facet of a listed triangle or tetrahedron is listed"; an edge's vertices are
-- below v by rule 6
abbrev pub owed_facets : ℕ → Simplex → List Simplex
owed_facets width s = cond (leb width 2) [] (facets s)

-- Item by item: 6 vertex, 7 twice, 8 face. `before` holds the items already read, `at` is the offset of the next.
unfoldable pub read_items : (width v : ℕ) (faces : List Simplex) (at : ℕ) (before : List Simplex) → List Simplex → Reading (List Simplex)
read_items width v faces at before [] = accepted before
read_items width v faces at before (s ∷ rest) =
    refuse_if (not (sound_simplex v s)) vertex at
    (refuse_if (listed s before) twice at
    (refuse_if (not (all_listed (owed_facets width s) faces)) face at
    (read_items width v faces (at + width) (before ++ (s ∷ [])) rest)))

-- "multiple of 2, at most 1,024" and so on: whole simplices, no more of them than a list may hold
abbrev pub list_fits : Limits → ℕ → List ℕ → Bool
list_fits L width p = eqb (length p % width) 0 && leb (length p) (width * L.simplices)

-- a list as it was read, and the offset of the record behind its own
pub record Listing : Type 0 where
  pub list : List Simplex
  pub next : ℕ

unfoldable pub read_list : Limits → List ℕ → (at kind v : ℕ) (faces : List Simplex) → Reading Listing
read_list L b at kind v faces =
    record_at (eqb kind) (λ _ p. list_fits L kind p) b at and_then λ r.
    read_items kind v faces (at + header_bytes) [] (items_of kind r.payload) and_then λ l.
    accepted (record { list = l; next = r.next })

-- CHAIN A. "two-byte positions, strictly rising"
unfoldable pub positions_of : List ℕ → List ℕ
positions_of [] = []
positions_of (a ∷ []) = []
positions_of (a ∷ b ∷ p) = (a + 256 * b) ∷ positions_of p

-- 9: "a position is not below the count or not above the one before"; `least` is one above the one before
unfoldable pub rising_below : (count at least : ℕ) → List ℕ → Reading (List ℕ)
rising_below count at least [] = accepted []
rising_below count at least (p ∷ ps) =
    refuse_if (ltb p least || leb count p) chain_item at
    (rising_below count (at + 2) (suc p) ps and_then λ rest.
    accepted (p ∷ rest))

-- "A's positions name simplices in the lists as written in the file"
abbrev pub named : List Simplex → List ℕ → SimplexSet
named l positions s = listed s (map (λ i. get_or l i []) positions)

-- WALK. "A closed walk w0, w1, .. and back to w0": its steps, each as the edge between its two ends.
abbrev pub edge_between : ℕ → ℕ → Simplex
edge_between a b = cond (ltb a b) (a ∷ b ∷ []) (b ∷ a ∷ [])

unfoldable pub steps_from : (first last : ℕ) → List ℕ → List Simplex
steps_from first last [] = edge_between last first ∷ []
steps_from first last (w ∷ ws) = edge_between last w ∷ steps_from first w ws

abbrev pub steps : List ℕ → List Simplex
steps [] = []
steps (w ∷ ws) = steps_from w w ws

-- 9: "a walk step joins no listed edge"; a step to itself joins none, since edges rise strictly
unfoldable pub read_steps : (edges : List Simplex) (at : ℕ) → List Simplex → Reading (List Simplex)
read_steps edges at [] = accepted []
read_steps edges at (s ∷ rest) =
    refuse_if (not (listed s edges)) chain_item at
    (read_steps edges (at + 1) rest and_then λ passed.
    accepted (s ∷ passed))

-- "The chain is the set of edges that some step uses."
unfoldable pub walk_chain : List Simplex → SimplexSet
walk_chain walked s = listed s walked

-- "Kind 6 may stand only where A has dimension 1."
abbrev pub may_ask : ℕ → ℕ → Bool
may_ask dimension kind = eqb kind chain_kind || (eqb kind walk_kind && eqb dimension 1)

-- a chain "even, at most 1,024", a walk "at most 1,024"
abbrev pub chain_fits : Limits → ℕ → List ℕ → Bool
chain_fits L kind p =
    cond (eqb kind chain_kind) (eqb (length p % 2) 0 && leb (length p) L.chain_bytes) (leb (length p) L.walk_bytes)

pub record Chosen : Type 0 where
  pub chain : SimplexSet
  pub next : ℕ

unfoldable pub chosen_by : Complex → (dimension at : ℕ) → Record → Reading SimplexSet
chosen_by X dimension at r =
    cond (eqb r.kind chain_kind)
    (rising_below (length (simplices X dimension)) at 0 (positions_of r.payload) and_then λ positions.
    accepted (named (simplices X dimension) positions))
    (read_steps X.edges at (steps r.payload) and_then λ walked.
    accepted (walk_chain walked))

unfoldable pub read_chain : Limits → List ℕ → (at dimension : ℕ) → Complex → Reading Chosen
read_chain L b at dimension X =
    record_at (may_ask dimension) (chain_fits L) b at and_then λ r.
    chosen_by X dimension (at + header_bytes) r and_then λ A.
    accepted (record { chain = A; next = r.next })

-- EDITS. "An edit takes the simplex from its seen position and puts it at the new one; those between shift by one
-- place and keep their order among themselves."
abbrev pub without : {A : Type 0} → ℕ → List A → List A
without seen l = take seen l ++ drop (suc seen) l

unfoldable pub moved : {A : Type 0} → (seen new : ℕ) → List A → List A
moved seen new l = take new (without seen l) ++ take 1 (drop seen l) ++ drop new (without seen l)

-- "list kind, seen position, new position (two bytes each), then the simplex's vertices"
abbrev pub list_kind_of : List ℕ → ℕ
list_kind_of p = u16_at p 0

abbrev pub seen_of : List ℕ → ℕ
seen_of p = u16_at p 2

abbrev pub new_of : List ℕ → ℕ
new_of p = u16_at p 4

abbrev pub simplex_of : List ℕ → Simplex
simplex_of p = drop 6 p

-- 4: "8, 9 or 10 as the list kind is 2, 3 or 4", and "a list kind other than 2, 3, 4"
abbrev pub edit_fits : List ℕ → Bool
edit_fits p = leb 2 (list_kind_of p) && leb (list_kind_of p) 4 && eqb (length p) (6 + list_kind_of p)

abbrev pub list_of_kind : ℕ → Complex → List Simplex
list_of_kind kind X = simplices X (pred kind)

-- the complex with one list replaced
unfoldable pub with_list : ℕ → List Simplex → Complex → Complex
with_list kind l X =
    record {
      v = X.v;
      edges = cond (eqb kind edges_kind) l X.edges;
      triangles = cond (eqb kind triangles_kind) l X.triangles;
      tetrahedra = cond (eqb kind tetrahedra_kind) l X.tetrahedra;
    }

-- "only if the named simplex stands at the seen position"
abbrev pub stands_at : Simplex → ℕ → List Simplex → Bool
stands_at s seen l = ltb seen (length l) && same s (get_or l seen [])

-- 10 stale, then 11 target, else the complex with the one list moved
unfoldable pub edited : (at : ℕ) → List ℕ → Complex → Reading Complex
edited at p X =
    refuse_if (not (stands_at (simplex_of p) (seen_of p) (list_of_kind (list_kind_of p) X))) stale at
    (refuse_if (leb (length (list_of_kind (list_kind_of p) X)) (new_of p)) target at
    (accepted (with_list (list_kind_of p) (moved (seen_of p) (new_of p) (list_of_kind (list_kind_of p) X)) X)))

-- Edit by edit, each judged "at that moment, after all earlier edits", until the file ends; `left` more may stand.
unfoldable pub read_edits : (left : ℕ) → List ℕ → (at : ℕ) → Complex → Reading Complex
read_edits zero b at X =
    cond (leb (length b) at) (accepted X) (record_at (λ _. false) (λ _ _. true) b at and_then λ _. accepted X)
read_edits (suc left) b at X =
    cond (leb (length b) at) (accepted X)
    (record_at (eqb edit_kind) (λ _ p. edit_fits p) b at and_then λ r.
    edited at r.payload X and_then λ Y.
    read_edits left b r.next Y)

-- THE JOB: question, d, the complex after all edits, and A as the set of simplices that the file named.
pub record Job : Type 0 where
  pub question : Question
  pub d : ℕ
  pub complex : Complex
  pub chain : SimplexSet

abbrev pub head_fits : ℕ → List ℕ → Bool
head_fits kind p = eqb (length p) 4

-- "Edits move ranks, not chains": A is settled before the first edit is read.
unfoldable pub after_lists : Limits → List ℕ → Head → (at : ℕ) → Complex → Reading Job
after_lists L b h at X =
    read_chain L b at (chain_dimension h.question h.d) X and_then λ A.
    read_edits L.edits b A.next X and_then λ Y.
    accepted (record { question = h.question; d = h.d; complex = Y; chain = A.chain })

-- "Kinds 1 to 4 stand once each, then exactly one of 5 and 6", then edits.
unfoldable pub after_head : Limits → List ℕ → (at : ℕ) → Head → Reading Job
after_head L b at h =
    read_list L b at edges_kind h.v [] and_then λ e.
    read_list L b e.next triangles_kind h.v e.list and_then λ t.
    read_list L b t.next tetrahedra_kind h.v t.list and_then λ s.
    after_lists L b h s.next (record { v = h.v; edges = e.list; triangles = t.list; tetrahedra = s.list })

-- 1: "the job has more than 6,690 bytes", place 0
unfoldable pub reading : Limits → List ℕ → Reading Job
reading L b =
    refuse_if (ltb L.job_bytes (length b)) too_long 0
    (record_at (eqb head_kind) head_fits b 0 and_then λ r.
    read_head L r.payload and_then λ h.
    after_head L b r.next h)
