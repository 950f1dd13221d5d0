-- Every job that was read is sound. Why: each stage of the reading was accepted, so each of its tests was passed; and an
-- edit only changes the order of one list.
use Rattle.std.specs.Prelude.{ℕ, zero, suc, ◌+◌, ◌*◌, ◌/◌, ◌%◌, ◌≤◌, ◌<◌, ◌≡◌, refl, Bool, true, false, not, ◌&&◌, ◌||◌, cond, List, [], ◌∷◌, ◌++◌, length, get_or, take, drop, eqb, leb, ltb}
use Rattle.std.proofs.Common.{sym, ◌∙◌, ap, subst, append-nil, append_assoc, arith, div-mul-le_self, length-take, length-drop, eqb-true, leb-true, leb-false}
use Rattle.std.proofs.Math.Nat.{div-le_of_le-mul}
use Rattle.std.proofs.lemmas.Bool.{not-false}
use Rattle.format.specs.Numbers.{Limits, header_bytes, head_kind, edges_kind, triangles_kind, tetrahedra_kind, chain_kind, walk_kind, edit_kind, too_long, wrong_kind, shape, bad_head, chain_item, stale, target}
use Rattle.format.specs.Simplex.{Simplex, SimplexSet, Complex, same, listed, simplices, vertex_list}
use Rattle.format.specs.Reading.{accepted, ◌and_then◌, Head, Record, Header, ended, broken, whole, Listing, Chosen, Job, record_at, record_from, header_at, payload_at, u16_at, items, items_of, read_items, read_list, list_fits, read_head, head_of, head_sound, dimension_fits, question_of, chain_dimension, read_chain, may_ask, chain_fits, chosen_by, rising_below, positions_of, named, read_steps, steps, walk_chain, moved, with_list, list_of_kind, list_kind_of, seen_of, new_of, simplex_of, stands_at, edit_fits, edited, read_edits, after_lists, after_head, reading, head_fits}
use Rattle.format.specs.Listed.{true-not-false, and-true, same-equal}
use Rattle.format.specs.Lookup.{stands-listed}
use Rattle.format.specs.Moves.{moved-home, length_moved, listed-moved}
use Rattle.format.specs.Sound.{not-refused, both-accepted, same-accepted, item-passed, SoundList, sound_empty, items-sound, sound-moved, sound-under-moved, SoundComplex, SoundJob, Within}
use Rattle.format.specs.Accepted.{Reordered, ReorderedComplex}

-- A RECORD that was accepted may stand where it does, and has an allowed shape.
pub record-fits : (may : ℕ → Bool) (fits : ℕ → List ℕ → Bool) (b : List ℕ) (at : ℕ) (h : Header) (r : Record) → record_from may fits b at h ≡ accepted r → (may r.kind ≡ true) × (fits r.kind r.payload ≡ true)
unfolding record_from
record-fits may fits b at ended r e = let z : ◌≡◌ {A = ℕ} 0 1 = cc in absurd (omega arith)
record-fits may fits b at broken r e = let z : ◌≡◌ {A = ℕ} 0 1 = cc in absurd (omega arith)
record-fits may fits b at (whole kind size) r e =
    let one = not-refused (not (may kind)) wrong_kind at _ r e in
    let two = not-refused (not (fits kind (payload_at b at size))) shape at _ r one.1 in
    let is = same-accepted _ r two.1 in
    (ap (λ x. may x.kind) (sym is) ∙ not-false (may kind) one.0, ap (λ x. fits x.kind x.payload) (sym is) ∙ not-false (fits kind (payload_at b at size)) two.0)

-- A LIST'S ITEMS are as wide as the list, and as many as its payload has room for.
items-wide : (width count : ℕ) (p : List ℕ) → count * width ≤ length p → (s : Simplex) → listed s (items width count p) ≡ true → length s ≡ width
unfolding items listed
items-wide width zero p fits s e = true-not-false false e refl
items-wide width (suc count) p fits s e =
    go (same s (take width p)) refl e (items-wide width count (drop width p) (omega (arith, length-drop width p)) s)
  where
    go : (x : Bool) → same s (take width p) ≡ x → x || listed s (items width count (drop width p)) ≡ true → (listed s (items width count (drop width p)) ≡ true → length s ≡ width) → length s ≡ width
    go true q e later = omega (arith, ap length (same-equal s (take width p) q), length-take width p)
    go false q e later = later e

pub length-items : (width count : ℕ) (p : List ℕ) → length (items width count p) ≡ count
unfolding items
length-items width zero p = refl
length-items width (suc count) p = ap suc (length-items width count (drop width p))

-- what was read is what was there
read_all : (width v : ℕ) (faces : List Simplex) (at : ℕ) (before rest l : List Simplex) → read_items width v faces at before rest ≡ accepted l → l ≡ before ++ rest
unfolding read_items
read_all width v faces at before [] l e = sym (same-accepted before l e) ∙ sym (append-nil before)
read_all width v faces at before (s ∷ rest) l e =
    read_all width v faces (at + width) (before ++ (s ∷ [])) rest l (item-passed width v faces at before s rest l e).later ∙ append_assoc before (s ∷ []) rest

-- A LIST RECORD that was accepted gives a sound list of at most as many simplices as a list may hold.
pub list-sound : (L : Limits) (b : List ℕ) (at kind v : ℕ) (faces : List Simplex) (l : Listing) → 0 < kind → read_list L b at kind v faces ≡ accepted l → SoundList kind v faces l.list × (length l.list ≤ L.simplices)
unfolding read_list
list-sound L b at kind v faces l positive e =
    let one = both-accepted _ _ l e in
    let r : Record = one.0 in
    let two = both-accepted _ _ l one.2 in
    let is : record { list = two.0; next = r.next } ≡ l = same-accepted _ l two.2 in
    let fits = and-true (eqb (length r.payload % kind) 0) (leb (length r.payload) (kind * L.simplices)) (record-fits (eqb kind) (λ _ p. list_fits L kind p) b at (header_at b at) r one.1).1 in
    let all : two.0 ≡ items_of kind r.payload = read_all kind v faces (at + header_bytes) [] (items_of kind r.payload) two.0 two.1 in
    let count : length two.0 ≡ length r.payload / kind = ap length all ∙ length-items kind (length r.payload / kind) r.payload in
    subst (λ x. SoundList kind v faces x.list × (length x.list ≤ L.simplices)) is (
      items-sound kind v faces (at + header_bytes) [] (items_of kind r.payload) two.0
          (items-wide kind (length r.payload / kind) r.payload (div-mul-le_self (length r.payload) kind))
          (sound_empty kind v faces) two.1,
      subst (λ n. n ≤ L.simplices) (sym count) (div-le_of_le-mul kind (leb-true (length r.payload) (kind * L.simplices) fits.1)),
    )

-- THE HEAD.
pub head-sound : (L : Limits) (p : List ℕ) (h : Head) → read_head L p ≡ accepted h → (dimension_fits h.question h.d ≡ true) × (h.v ≤ L.vertices)
unfolding read_head
head-sound L p h e =
    let one = not-refused (not (head_sound L p)) bad_head 0 _ h e in
    let is : head_of p ≡ h = same-accepted _ h one.1 in
    let parts = and-true ((eqb (get_or p 0 0) 1 || eqb (get_or p 0 0) 2) && dimension_fits (question_of (get_or p 0 0)) (get_or p 1 0)) (leb (u16_at p 2) L.vertices) (not-false (head_sound L p) one.0) in
    subst (λ x. (dimension_fits x.question x.d ≡ true) × (x.v ≤ L.vertices)) is
    ((and-true (eqb (get_or p 0 0) 1 || eqb (get_or p 0 0) 2) (dimension_fits (question_of (get_or p 0 0)) (get_or p 1 0)) parts.0).1, leb-true (u16_at p 2) L.vertices parts.1)

-- CHAIN A: each position names a listed simplex.
positions-within : (count at least : ℕ) (ps qs : List ℕ) → rising_below count at least ps ≡ accepted qs → (l : List Simplex) → count ≡ length l → Within (named l qs) l
unfolding rising_below listed
positions-within count at least [] qs e l n s h =
    true-not-false (named l qs s) h (ap (λ x. named l x s) (sym (same-accepted [] qs e)))
positions-within count at least (p ∷ ps) qs e l n s h =
    let one = not-refused (ltb p least || leb count p) chain_item at _ qs e in
    let two = both-accepted _ _ qs one.1 in
    let is : p ∷ two.0 ≡ qs = same-accepted _ qs two.2 in
    let below : p < length l = subst (λ k. p < k) n (leb-false count p (or_right (ltb p least) (leb count p) one.0)) in
    go (same s (get_or l p [])) refl (ap (λ x. named l x s) is ∙ h) below (positions-within count (at + 2) (suc p) ps two.0 two.1 l n s)
  where
    or_right : (a c : Bool) → a || c ≡ false → c ≡ false
    or_right true c e = true-not-false true refl e
    or_right false c e = e

    go : {rest : Bool} (x : Bool) → same s (get_or l p []) ≡ x → x || rest ≡ true → p < length l → (rest ≡ true → listed s l ≡ true) → listed s l ≡ true
    go true q e below later = stands-listed s l p (record { below = below; here = sym (same-equal s (get_or l p []) q) })
    go false q e below later = later e

-- A WALK: each step is a listed edge.
steps-within : (edges : List Simplex) (at : ℕ) (walk passed : List Simplex) → read_steps edges at walk ≡ accepted passed → Within (walk_chain passed) edges
unfolding read_steps walk_chain listed
steps-within edges at [] passed e s h =
    true-not-false (listed s passed) h (ap (listed s) (sym (same-accepted [] passed e)))
steps-within edges at (w ∷ walk) passed e s h =
    let one = not-refused (not (listed w edges)) chain_item at _ passed e in
    let two = both-accepted _ _ passed one.1 in
    let is : w ∷ two.0 ≡ passed = same-accepted _ passed two.2 in
    go (same s w) refl (ap (listed s) is ∙ h) (not-false (listed w edges) one.0) (steps-within edges (at + 1) walk two.0 two.1 s)
  where
    go : {rest : Bool} (x : Bool) → same s w ≡ x → x || rest ≡ true → listed w edges ≡ true → (rest ≡ true → listed s edges ≡ true) → listed s edges ≡ true
    go true q e here later = subst (λ t. listed t edges ≡ true) (sym (same-equal s w q)) here
    go false q e here later = later e

-- What the chain record names lies in the list of its dimension. A walk stands only where that is the edges.
pub chain-within : (L : Limits) (b : List ℕ) (at dimension : ℕ) (X : Complex) (A : Chosen) → read_chain L b at dimension X ≡ accepted A → Within A.chain (simplices X dimension)
unfolding read_chain chosen_by simplices
chain-within L b at dimension X A e =
    let one = both-accepted _ _ A e in
    let r : Record = one.0 in
    let two = both-accepted _ _ A one.2 in
    let is : record { chain = two.0; next = r.next } ≡ A = same-accepted _ A two.2 in
    let may = (record-fits (may_ask dimension) (chain_fits L) b at (header_at b at) r one.1).0 in
    subst (λ x. Within x.chain (simplices X dimension)) is (go r (eqb r.kind chain_kind) refl may two.0 two.1)
  where
    go : (r : Record) (x : Bool) → eqb r.kind chain_kind ≡ x → may_ask dimension r.kind ≡ true → (B : SimplexSet)
        → cond x
        (rising_below (length (simplices X dimension)) (at + header_bytes) 0 (positions_of r.payload) and_then λ positions. accepted (named (simplices X dimension) positions))
        (read_steps X.edges (at + header_bytes) (steps r.payload) and_then λ walked. accepted (walk_chain walked)) ≡ accepted B
        → Within B (simplices X dimension)
    go r true k may B e =
        let one = both-accepted _ _ B e in
        subst (λ x. Within x (simplices X dimension)) (same-accepted _ B one.2)
        (positions-within (length (simplices X dimension)) (at + header_bytes) 0 (positions_of r.payload) one.0 one.1 (simplices X dimension) refl)
    go r false k may B e =
        let one = both-accepted _ _ B e in
        let flat : dimension ≡ 1 = eqb-true dimension 1 (and-true (eqb r.kind walk_kind) (eqb dimension 1) (ap (λ x. x || (eqb r.kind walk_kind && eqb dimension 1)) (sym k) ∙ may)).1 in
        subst (λ x. Within x (simplices X dimension)) (same-accepted _ B one.2)
        (subst (λ n. Within (walk_chain one.0) (simplices X n)) (sym flat)
        (steps-within X.edges (at + header_bytes) (steps r.payload) one.0 one.1))

-- an edit of the list of kind `kind`, as one of the three lists sees it, whose own kind is `mine`
edited-list : (kind mine seen new : ℕ) (X : Complex) (l : List Simplex) → list_of_kind mine X ≡ l → Reordered l (cond (eqb kind mine) (moved seen new (list_of_kind kind X)) l)
edited-list kind mine seen new X l is = go (eqb kind mine) refl
  where
    go : (x : Bool) → eqb kind mine ≡ x → Reordered l (cond x (moved seen new (list_of_kind kind X)) l)
    go true e = record { seen = seen; new = new; is = ap (moved seen new) (ap (λ k. list_of_kind k X) (eqb-true kind mine e) ∙ is) }
    go false e = record { seen = 0; new = 0; is = sym (moved-home 0 l) }

pub edited-reorders : (at : ℕ) (p : List ℕ) (X Y : Complex) → edited at p X ≡ accepted Y → ReorderedComplex X Y
unfolding edited with_list simplices
edited-reorders at p X Y e =
    let one = not-refused (not (stands_at (simplex_of p) (seen_of p) (list_of_kind (list_kind_of p) X))) stale at _ Y e in
    let two = not-refused (leb (length (list_of_kind (list_kind_of p) X)) (new_of p)) target at _ Y one.1 in
    subst (ReorderedComplex X) (same-accepted _ Y two.1)
    (record {
      v = refl;
      edges = edited-list (list_kind_of p) edges_kind (seen_of p) (new_of p) X X.edges refl;
      triangles = edited-list (list_kind_of p) triangles_kind (seen_of p) (new_of p) X X.triangles refl;
      tetrahedra = edited-list (list_kind_of p) tetrahedra_kind (seen_of p) (new_of p) X X.tetrahedra refl;
    })

-- What is known of a list, and of what stands over it, is known of it in another order.
sound-reordered : (width v v' : ℕ) (faces faces' l l' : List Simplex) → v' ≡ v → Reordered faces faces' → Reordered l l' → SoundList width v faces l → SoundList width v' faces' l'
sound-reordered width v v' faces faces' l l' same-v f r sound =
    subst (λ n. SoundList width n faces' l') (sym same-v)
    (subst (λ x. SoundList width v x l') (sym f.is)
    (subst (λ x. SoundList width v (moved f.seen f.new faces) x) (sym r.is)
    (sound-under-moved width v faces (moved r.seen r.new l) f.seen f.new (sound-moved width v faces l r.seen r.new sound))))

pub few-reordered : (n : ℕ) (l l' : List Simplex) → Reordered l l' → length l ≤ n → length l' ≤ n
few-reordered n l l' r few = subst (λ k. k ≤ n) (sym (ap length r.is ∙ length_moved r.seen r.new l)) few

pub complex-reordered : (L : Limits) (X Y : Complex) → ReorderedComplex X Y → SoundComplex L X → SoundComplex L Y
complex-reordered L X Y r sound =
    record {
      vertices = subst (λ n. n ≤ L.vertices) (sym r.v) sound.vertices;
      edges = sound-reordered edges_kind X.v Y.v [] [] X.edges Y.edges r.v (record { seen = 0; new = 0; is = sym (moved-home 0 []) }) r.edges sound.edges;
      triangles = sound-reordered triangles_kind X.v Y.v X.edges Y.edges X.triangles Y.triangles r.v r.edges r.triangles sound.triangles;
      tetrahedra = sound-reordered tetrahedra_kind X.v Y.v X.triangles Y.triangles X.tetrahedra Y.tetrahedra r.v r.triangles r.tetrahedra sound.tetrahedra;
      few_edges = few-reordered L.simplices X.edges Y.edges r.edges sound.few_edges;
      few_triangles = few-reordered L.simplices X.triangles Y.triangles r.triangles sound.few_triangles;
      few_tetrahedra = few-reordered L.simplices X.tetrahedra Y.tetrahedra r.tetrahedra sound.few_tetrahedra;
    }

-- and a set of its simplices stays one
within-reordered : (A : SimplexSet) (l l' : List Simplex) → Reordered l l' → Within A l → Within A l'
within-reordered A l l' r within s h =
    ap (listed s) r.is ∙ listed-moved s r.seen r.new l ∙ within s h

pub within-complex : (A : SimplexSet) (X Y : Complex) → ReorderedComplex X Y → (k : ℕ) → Within A (simplices X k) → Within A (simplices Y k)
unfolding simplices
within-complex A X Y r zero within = subst (λ n. Within A (vertex_list n)) (sym r.v) within
within-complex A X Y r (suc zero) within = within-reordered A X.edges Y.edges r.edges within
within-complex A X Y r (suc (suc zero)) within = within-reordered A X.triangles Y.triangles r.triangles within
within-complex A X Y r (suc (suc (suc zero))) within = within-reordered A X.tetrahedra Y.tetrahedra r.tetrahedra within
within-complex A X Y r (suc (suc (suc (suc k)))) within = within

-- What one edit keeps, all edits of a file keep.
pub edits-keep : (P : Complex → Type 0) → ((X Z : Complex) → ReorderedComplex X Z → P X → P Z) → (left : ℕ) (b : List ℕ) (at : ℕ) (X Y : Complex) → read_edits left b at X ≡ accepted Y → P X → P Y
unfolding read_edits record_from
edits-keep P keeps zero b at X Y e known = go (leb (length b) at) (header_at b at) e
  where
    go : (x : Bool) (h : Header) → cond x (accepted X) (record_from (λ _. false) (λ _ _. true) b at h and_then λ _. accepted X) ≡ accepted Y → P Y
    go true h e = subst P (same-accepted X Y e) known
    go false ended e = let z : ◌≡◌ {A = ℕ} 0 1 = cc in absurd (omega arith)
    go false broken e = let z : ◌≡◌ {A = ℕ} 0 1 = cc in absurd (omega arith)
    go false (whole kind size) e = let z : ◌≡◌ {A = ℕ} 0 1 = cc in absurd (omega arith)
edits-keep P keeps (suc left) b at X Y e known =
    go (leb (length b) at) e (λ r Z z f. edits-keep P keeps left b r.next Z Y f (keeps X Z z known))
  where
    go : (x : Bool) → cond x (accepted X) (record_at (eqb edit_kind) (λ _ p. edit_fits p) b at and_then λ r. edited at r.payload X and_then λ Z. read_edits left b r.next Z) ≡ accepted Y → ((r : Record) (Z : Complex) → ReorderedComplex X Z → read_edits left b r.next Z ≡ accepted Y → P Y) → P Y
    go true e later = subst P (same-accepted X Y e) known
    go false e later =
        let one = both-accepted (record_at (eqb edit_kind) (λ _ p. edit_fits p) b at) _ Y e in
        let two = both-accepted (edited at one.0.payload X) _ Y one.2 in
        later one.0 two.0 (edited-reorders at one.0.payload X two.0 two.1) two.2

pub edits-sound : (L : Limits) (A : SimplexSet) (k left : ℕ) (b : List ℕ) (at : ℕ) (X Y : Complex) → read_edits left b at X ≡ accepted Y → SoundComplex L X → Within A (simplices X k) → SoundComplex L Y × Within A (simplices Y k)
edits-sound L A k left b at X Y e sound within =
    edits-keep (λ Z. SoundComplex L Z × Within A (simplices Z k))
    (λ X Z z p. (complex-reordered L X Z z p.0, within-complex A X Z z k p.1)) left b at X Y e (sound, within)

pub edits-vertices : (left : ℕ) (b : List ℕ) (at : ℕ) (X Y : Complex) → read_edits left b at X ≡ accepted Y → X.v ≡ Y.v
edits-vertices left b at X Y e = edits-keep (λ Z. X.v ≡ Z.v) (λ W Z z p. p ∙ sym z.v) left b at X Y e refl

-- THE WHOLE: every job that was read is sound.
pub accepted-sound : (L : Limits) (b : List ℕ) (j : Job) → reading L b ≡ accepted j → SoundJob L j
unfolding reading after_head after_lists
accepted-sound L b j e =
    let long = not-refused (ltb L.job_bytes (length b)) too_long 0 _ j e in
    let first = both-accepted (record_at (eqb head_kind) head_fits b 0) _ j long.1 in
    let head = both-accepted (read_head L first.0.payload) _ j first.2 in
    let h : Head = head.0 in
    let known = head-sound L first.0.payload h head.1 in
    let edges = both-accepted (read_list L b first.0.next edges_kind h.v []) _ j head.2 in
    let triangles = both-accepted (read_list L b edges.0.next triangles_kind h.v edges.0.list) _ j edges.2 in
    let tetrahedra = both-accepted (read_list L b triangles.0.next tetrahedra_kind h.v triangles.0.list) _ j triangles.2 in
    let X : Complex = record { v = h.v; edges = edges.0.list; triangles = triangles.0.list; tetrahedra = tetrahedra.0.list } in
    let chain = both-accepted (read_chain L b tetrahedra.0.next (chain_dimension h.question h.d) X) _ j tetrahedra.2 in
    let edits = both-accepted (read_edits L.edits b chain.0.next X) _ j chain.2 in
    let e2 = list-sound L b first.0.next edges_kind h.v [] edges.0 (omega arith) edges.1 in
    let e3 = list-sound L b edges.0.next triangles_kind h.v edges.0.list triangles.0 (omega arith) triangles.1 in
    let e4 = list-sound L b triangles.0.next tetrahedra_kind h.v triangles.0.list tetrahedra.0 (omega arith) tetrahedra.1 in
    let sound : SoundComplex L X
    = record {
      vertices = known.1;
      edges = e2.0;
      triangles = e3.0;
      tetrahedra = e4.0;
      few_edges = e2.1;
      few_triangles = e3.1;
      few_tetrahedra = e4.1;
    } in
    let after = edits-sound L chain.0.chain (chain_dimension h.question h.d) L.edits b chain.0.next X edits.0 edits.1 sound
    (chain-within L b tetrahedra.0.next (chain_dimension h.question h.d) X chain.0 chain.1) in
    subst (SoundJob L) (same-accepted _ j edits.2) (record { dimension = known.0; complex = after.0; chain = after.1 })
