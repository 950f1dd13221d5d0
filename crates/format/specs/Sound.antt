-- What is known of every job that was read: its lists hold sound simplices, none twice, with their facets listed, and A
-- is a set of listed simplices. Why: reading checks each item, and an edit only changes the order of one list.
use Rattle.std.specs.Prelude.{ℕ, zero, suc, ◌+◌, ◌*◌, ◌≤◌, ◌<◌, ◌≡◌, refl, Bool, true, false, not, ◌||◌, cond, List, [], ◌∷◌, ◌++◌, ◌⊎◌, length, get_or, take, drop}
use Rattle.std.proofs.Common.{sym, ◌∙◌, ap, subst, inl, inr, arith, le_of_suc-le-suc, not-suc-le-zero, take-append-drop, lit≤}
use Rattle.std.proofs.Math.Bool.{or-true, or-false}
use Rattle.std.proofs.lemmas.Bool.{not-false}
use Rattle.format.specs.Numbers.{Limits, small, edges_kind, triangles_kind, tetrahedra_kind, vertex, twice, face}
use Rattle.format.specs.Simplex.{Simplex, SimplexSet, Complex, sound_simplex, same, listed, all_listed, simplices}
use Rattle.format.specs.Reading.{Reading, accepted, refused, refuse_if, ◌and_then◌, Job, read_items, owed_facets, moved, without, dimension_fits, chain_dimension}
use Rattle.format.specs.Listed.{true-not-false, same_refl, same-equal}
use Rattle.format.specs.Lookup.{listed-append}
use Rattle.format.specs.Moves.{split_one, listed-moved}

-- ACCEPTED IN PARTS: a chain of readings is accepted only if each part is.
pub not-refused : {A : Type 0} (t : Bool) (n p : ℕ) (next : Reading A) (a : A) → refuse_if t n p next ≡ accepted a → (t ≡ false) × (next ≡ accepted a)
not-refused true n p next a e = let z : ◌≡◌ {A = ℕ} 0 1 = cc in absurd (omega arith)
not-refused false n p next a e = (refl, e)

pub both-accepted : {A B : Type 0} (r : Reading A) (f : A → Reading B) (b : B) → r and_then f ≡ accepted b → (a : A) × (r ≡ accepted a) × (f a ≡ accepted b)
both-accepted (accepted a) f b e = (a, refl, e)
both-accepted (refused n p) f b e = let z : ◌≡◌ {A = ℕ} 0 1 = cc in absurd (omega arith)

pub same-accepted : {A : Type 0} (a b : A) → accepted a ≡ accepted b → a ≡ b
same-accepted a b e = cc

-- HOW OFTEN a simplex stands in a list.
unfoldable pub copies : Simplex → List Simplex → ℕ
copies s [] = 0
copies s (t ∷ l) = cond (same s t) 1 0 + copies s l

pub copies-append : (s : Simplex) (l m : List Simplex) → copies s (l ++ m) ≡ copies s l + copies s m
unfolding copies
copies-append s [] m = omega arith
copies-append s (t ∷ l) m = omega (arith, copies-append s l m)

-- an edit keeps the count
pub copies-moved : (s : Simplex) (i k : ℕ) (l : List Simplex) → copies s (moved i k l) ≡ copies s l
unfolding moved
copies-moved s i k l =
    let three : (a m b : List Simplex) → copies s (a ++ m ++ b) ≡ copies s m + copies s (a ++ b) =
    λ a m b. omega (arith, copies-append s (a ++ m) b, copies-append s a m, copies-append s a b) in
    three (take k (without i l)) (take 1 (drop i l)) (drop k (without i l)) ∙
    rw (take-append-drop k (without i l), ← three (take i l) (take 1 (drop i l)) (drop (suc i) l), split_one i l)

-- what is not listed stands nowhere
pub unlisted-copies : (s : Simplex) (l : List Simplex) → listed s l ≡ false → copies s l ≡ 0
unfolding copies listed
unlisted-copies s [] e = refl
unlisted-copies s (t ∷ l) e = go (same s t) e (unlisted-copies s l)
  where
    go : (x : Bool) → x || listed s l ≡ false → (listed s l ≡ false → copies s l ≡ 0) → cond x 1 0 + copies s l ≡ 0
    go true e ih = true-not-false true refl e
    go false e ih = omega (arith, ih e)

-- what stands at a place stands there at least once
stands-copies : (s : Simplex) (l : List Simplex) (i : ℕ) → i < length l → get_or l i [] ≡ s → 1 ≤ copies s l
unfolding copies
stands-copies s [] i h e = absurd (not-suc-le-zero h)
stands-copies s (t ∷ l) zero h e = rw (ap (same s) e ∙ same_refl s) (omega arith)
stands-copies s (t ∷ l) (suc i) h e = omega (arith, stands-copies s l i (le_of_suc-le-suc h) e)

-- A simplex that stands once stands at one place.
pub one_place : (s : Simplex) (l : List Simplex) → copies s l ≤ 1 → (i j : ℕ) → i < length l → j < length l → get_or l i [] ≡ s → get_or l j [] ≡ s → i ≡ j
unfolding copies
one_place s [] once i j hi hj ei ej = absurd (not-suc-le-zero hi)
one_place s (t ∷ l) once zero zero hi hj ei ej = refl
one_place s (t ∷ l) once zero (suc j) hi hj ei ej =
    absurd (omega (arith, stands-copies s l j (le_of_suc-le-suc hj) ej, subst (λ x. cond x 1 0 + copies s l ≤ 1) (ap (same s) ei ∙ same_refl s) once))
one_place s (t ∷ l) once (suc i) zero hi hj ei ej =
    absurd (omega (arith, stands-copies s l i (le_of_suc-le-suc hi) ei, subst (λ x. cond x 1 0 + copies s l ≤ 1) (ap (same s) ej ∙ same_refl s) once))
one_place s (t ∷ l) once (suc i) (suc j) hi hj ei ej =
    ap suc (one_place s l (omega (arith, once)) i j (le_of_suc-le-suc hi) (le_of_suc-le-suc hj) ei ej)

-- each listed simplex is as rule 6 wants it
abbrev pub AllSound : ℕ → List Simplex → Type 0
AllSound v l = (s : Simplex) → listed s l ≡ true → sound_simplex v s ≡ true

-- A LIST as rules 6, 7 and 8 want it. What is said of its members does not depend on their order.
pub record SoundList (width v : ℕ) (faces l : List Simplex) : Type 0 where
  pub wide : (s : Simplex) → listed s l ≡ true → length s ≡ width
  pub sound : AllSound v l
  pub closed : (s : Simplex) → listed s l ≡ true → all_listed (owed_facets width s) faces ≡ true
  pub once : (s : Simplex) → copies s l ≤ 1

-- the last of a list, or one before it
last-listed : (t s : Simplex) (l : List Simplex) → listed t (l ++ (s ∷ [])) ≡ true → (listed t l ≡ true) ⊎ (t ≡ s)
unfolding listed
last-listed t s l e = go (listed t l) refl
  where
    go : (x : Bool) → listed t l ≡ x → (listed t l ≡ true) ⊎ (t ≡ s)
    go true p = inl p
    go false p = inr (same-equal t s (sym (or-false (same t s)) ∙ ap (λ x. x || (same t s || false)) (sym p) ∙ sym (listed-append t l (s ∷ [])) ∙ e))

pub sound_empty : (width v : ℕ) (faces : List Simplex) → SoundList width v faces []
unfolding listed copies
sound_empty width v faces =
    record {
      wide = λ s e. true-not-false false e refl;
      sound = λ s e. true-not-false false e refl;
      closed = λ s e. true-not-false false e refl;
      once = λ s. omega arith;
    }

sound_more : (width v : ℕ) (faces l : List Simplex) (s : Simplex) → SoundList width v faces l → length s ≡ width → sound_simplex v s ≡ true → listed s l ≡ false → all_listed (owed_facets width s) faces ≡ true → SoundList width v faces (l ++ (s ∷ []))
unfolding copies
sound_more width v faces l s before w o f c =
    record {
      wide = λ t e. each (λ x. length x ≡ width) before.wide w t (last-listed t s l e);
      sound = λ t e. each (λ x. sound_simplex v x ≡ true) before.sound o t (last-listed t s l e);
      closed = λ t e. each (λ x. all_listed (owed_facets width x) faces ≡ true) before.closed c t (last-listed t s l e);
      once = λ t. once t (same t s) refl;
    }
  where
    each : (P : Simplex → Type 0) → ((t : Simplex) → listed t l ≡ true → P t) → P s → (t : Simplex) → (listed t l ≡ true) ⊎ (t ≡ s) → P t
    each P old new t (inl e) = old t e
    each P old new t (inr e) = subst P (sym e) new

    last : (t : Simplex) (x : Bool) → same t s ≡ x → copies t (s ∷ []) ≡ cond x 1 0
    last t x e = rw e (omega arith)

    once : (t : Simplex) (x : Bool) → same t s ≡ x → copies t (l ++ (s ∷ [])) ≤ 1
    once t true e =
        let none : copies t l ≡ 0 = subst (λ x. copies x l ≡ 0) (sym (same-equal t s e)) (unlisted-copies s l f) in
        omega (arith, copies-append t l (s ∷ []), last t true e)
    once t false e = omega (arith, copies-append t l (s ∷ []), last t false e, before.once t)

-- ITEM BY ITEM. An item that was accepted passed rules 6, 7 and 8, and the rest was accepted behind it.
pub record ItemPassed (width v : ℕ) (faces : List Simplex) (at : ℕ) (before : List Simplex) (s : Simplex) (rest l : List Simplex) : Type 0 where
  pub sound : sound_simplex v s ≡ true
  pub fresh : listed s before ≡ false
  pub closed : all_listed (owed_facets width s) faces ≡ true
  pub later : read_items width v faces (at + width) (before ++ (s ∷ [])) rest ≡ accepted l

pub item-passed : (width v : ℕ) (faces : List Simplex) (at : ℕ) (before : List Simplex) (s : Simplex) (rest l : List Simplex) → read_items width v faces at before (s ∷ rest) ≡ accepted l → ItemPassed width v faces at before s rest l
unfolding read_items
item-passed width v faces at before s rest l e =
    let one = not-refused (not (sound_simplex v s)) vertex at _ l e in
    let two = not-refused (listed s before) twice at _ l one.1 in
    let three = not-refused (not (all_listed (owed_facets width s) faces)) face at _ l two.1 in
    record {
      sound = not-false (sound_simplex v s) one.0;
      fresh = two.0;
      closed = not-false (all_listed (owed_facets width s) faces) three.0;
      later = three.1;
    }

-- What was read is a sound list.
pub items-sound : (width v : ℕ) (faces : List Simplex) (at : ℕ) (before : List Simplex) (rest : List Simplex) (l : List Simplex) → ((s : Simplex) → listed s rest ≡ true → length s ≡ width) → SoundList width v faces before → read_items width v faces at before rest ≡ accepted l → SoundList width v faces l
unfolding read_items listed
items-sound width v faces at before [] l wide sound e = subst (SoundList width v faces) (same-accepted before l e) sound
items-sound width v faces at before (s ∷ rest) l wide sound e =
    let it = item-passed width v faces at before s rest l e in
    items-sound width v faces (at + width) (before ++ (s ∷ [])) rest l (λ t h. wide t (rw (h, or-true)))
    (sound_more width v faces before s sound (wide s (rw (same_refl s))) it.sound it.fresh it.closed) it.later

-- AN EDIT keeps a list sound, and keeps what is listed over it sound.
pub sound-moved : (width v : ℕ) (faces l : List Simplex) (i k : ℕ) → SoundList width v faces l → SoundList width v faces (moved i k l)
sound-moved width v faces l i k sound =
    record {
      wide = λ s e. sound.wide s (sym (listed-moved s i k l) ∙ e);
      sound = λ s e. sound.sound s (sym (listed-moved s i k l) ∙ e);
      closed = λ s e. sound.closed s (sym (listed-moved s i k l) ∙ e);
      once = λ s. subst (λ n. n ≤ 1) (sym (copies-moved s i k l)) (sound.once s);
    }

pub all_listed-moved : (r l : List Simplex) (i k : ℕ) → all_listed r (moved i k l) ≡ all_listed r l
unfolding all_listed
all_listed-moved [] l i k = refl
all_listed-moved (s ∷ r) l i k = rw (listed-moved s i k l, all_listed-moved r l i k)

pub sound-under-moved : (width v : ℕ) (faces l : List Simplex) (i k : ℕ) → SoundList width v faces l → SoundList width v (moved i k faces) l
sound-under-moved width v faces l i k sound =
    record {
      wide = sound.wide;
      sound = sound.sound;
      closed = λ s e. all_listed-moved (owed_facets width s) faces i k ∙ sound.closed s e;
      once = sound.once;
    }

-- A JOB that was read, of which the next three records say what is known.
pub record SoundComplex (L : Limits) (X : Complex) : Type 0 where
  pub vertices : X.v ≤ L.vertices
  pub edges : SoundList edges_kind X.v [] X.edges
  pub triangles : SoundList triangles_kind X.v X.edges X.triangles
  pub tetrahedra : SoundList tetrahedra_kind X.v X.triangles X.tetrahedra
  pub few_edges : length X.edges ≤ L.simplices
  pub few_triangles : length X.triangles ≤ L.simplices
  pub few_tetrahedra : length X.tetrahedra ≤ L.simplices

-- a set of listed simplices
abbrev pub Within : SimplexSet → List Simplex → Type 0
Within A l = (s : Simplex) → A s ≡ true → listed s l ≡ true

pub record SoundJob (L : Limits) (j : Job) : Type 0 where
  pub dimension : dimension_fits j.question j.d ≡ true
  pub complex : SoundComplex L j.complex
  pub chain : Within j.chain (simplices j.complex (chain_dimension j.question j.d))

-- Limits that go together: whatever may be listed can be chosen, numbered in two bytes and named in one, and the longest
-- lists and the longest chain make a job that is not too long.
pub record Consistent (L : Limits) : Type 0 where
  pub chosen_simplices : 2 * L.simplices ≤ L.chain_bytes
  pub chosen_vertices : 2 * L.vertices ≤ L.chain_bytes
  pub bytes : L.vertices ≤ 256
  pub positions : L.simplices ≤ 65536
  pub job : 34 + 9 * L.simplices + L.chain_bytes ≤ L.job_bytes

pub small-consistent : Consistent small
small-consistent =
    record { chosen_simplices = lit≤ tt; chosen_vertices = lit≤ tt; bytes = lit≤ tt; positions = lit≤ tt; job = lit≤ tt }
