-- What the normal form's payloads are read as: a list's vertices as that list, and the places of A as A. Why: simplices of
-- one width can be cut apart again, a sound list passes the checks that a reader makes item by item, and a set of listed
-- simplices holds exactly those that stand at its places.
use Rattle.std.specs.Prelude.{ℕ, suc, ◌+◌, ◌*◌, ◌/◌, ◌≤◌, ◌<◌, ◌≡◌, refl, Bool, true, false, ◌&&◌, ◌||◌, cond, List, [], ◌∷◌, ◌++◌, map, length, get_or}
use Rattle.std.proofs.Common.{zero-add, add-zero, mul-zero, mul-suc, mul-le-mul_left, arith, sym, ◌∙◌, ap, append-nil, length-append, take_at, drop_at, lt-ltb, le-ltb, le-leb}
use Rattle.std.proofs.Math.Nat.{mul-div_cancel_left, mul-mod_right}
use Rattle.std.proofs.Math.Path.{fun_ext}
use Rattle.std.proofs.Math.Bool.{or-true, and-false}
use Rattle.std.proofs.Math.Seq.{append_snoc}
use Rattle.std.proofs.lemmas.Bool.{lt-leb}
use Rattle.format.specs.Numbers.{Limits}
use Rattle.format.specs.Simplex.{Simplex, SimplexSet, all_below, same, listed}
use Rattle.format.specs.Reading.{accepted, items, items_of, read_items, list_fits, rising_below, named}
use Rattle.format.specs.Answer.{vertices_of}
use Rattle.format.specs.Writing.{places_from}
use Rattle.format.specs.Listed.{same_refl, same-equal}
use Rattle.format.specs.Lookup.{listed-append}
use Rattle.format.specs.Sound.{copies, SoundList, Within}

-- LISTS. Simplices of one width, written one behind the other.
abbrev pub Wide : ℕ → List Simplex → Type 0
Wide width l = (s : Simplex) → listed s l ≡ true → length s ≡ width

wide-first : (width : ℕ) (s : Simplex) (l : List Simplex) → Wide width (s ∷ l) → length s ≡ width
unfolding listed
wide-first width s l wide = wide s (rw (same_refl s))

wide-rest : (width : ℕ) (s : Simplex) (l : List Simplex) → Wide width (s ∷ l) → Wide width l
unfolding listed
wide-rest width s l wide t e = wide t (rw (e, or-true))

pub length-vertices_of : (width : ℕ) (l : List Simplex) → Wide width l → length (vertices_of l) ≡ width * length l
unfolding vertices_of
length-vertices_of width [] wide = sym (mul-zero width)
length-vertices_of width (s ∷ l) wide =
    omega (arith, length-append s (vertices_of l), wide-first width s l wide, length-vertices_of width l (wide-rest width s l wide), mul-suc width (length l))

items_back : (width : ℕ) (l : List Simplex) → Wide width l → items width (length l) (vertices_of l) ≡ l
unfolding vertices_of items
items_back width [] wide = refl
items_back width (s ∷ l) wide =
    let w : length s ≡ width = wide-first width s l wide in
    rw (take_at s (vertices_of l) width w, drop_at s (vertices_of l) width w, items_back width l (wide-rest width s l wide))

-- they are cut apart as they were
pub list_back : (width : ℕ) (l : List Simplex) → 0 < width → Wide width l → items_of width (vertices_of l) ≡ l
list_back width l some wide =
    let count : length (vertices_of l) / width ≡ length l =
    ap (λ n. n / width) (length-vertices_of width l wide) ∙ mul-div_cancel_left (length l) some in
    ap (λ n. items width n (vertices_of l)) count ∙ items_back width l wide

-- and have an allowed length where the list is not too long
pub list-fits : (L : Limits) (width : ℕ) (l : List Simplex) → Wide width l → length l ≤ L.simplices → list_fits L width (vertices_of l) ≡ true
list-fits L width l wide few =
    rw (length-vertices_of width l wide, mul-mod_right, le-leb (width * length l) (width * L.simplices) (mul-le-mul_left width few))

-- ITEM BY ITEM. A simplex that stood before as well would stand twice.
here-once : (s : Simplex) (before rest : List Simplex) → 1 ≤ copies s (before ++ s ∷ rest)
unfolding copies
here-once s [] rest = rw (same_refl s) (omega arith)
here-once s (t ∷ before) rest = omega (arith, here-once s before rest)

pub not-before : (s : Simplex) (before rest : List Simplex) → copies s (before ++ s ∷ rest) ≤ 1 → listed s before ≡ false
unfolding copies listed
not-before s [] rest once = refl
not-before s (t ∷ before) rest once = go (same s t) once (not-before s before rest)
  where
    go : (x : Bool) → cond x 1 0 + copies s (before ++ s ∷ rest) ≤ 1 →
        (copies s (before ++ s ∷ rest) ≤ 1 → listed s before ≡ false) → x || listed s before ≡ false
    go true o later = absurd (omega (arith, here-once s before rest))
    go false o later = later (omega arith)

-- a sound list passes, its items read in order
pub items-accepted : (width v : ℕ) (faces : List Simplex) (at : ℕ) (before rest : List Simplex) →
    SoundList width v faces (before ++ rest) → read_items width v faces at before rest ≡ accepted (before ++ rest)
unfolding read_items listed
items-accepted width v faces at before [] sound = rw append-nil
items-accepted width v faces at before (s ∷ rest) sound =
    let here : listed s (before ++ s ∷ rest) ≡ true = rw (listed-append s before (s ∷ rest), same_refl s, or-true) in
    let later : read_items width v faces (at + width) (before ++ (s ∷ [])) rest ≡ accepted (before ++ s ∷ rest) =
    rw append_snoc at (items-accepted width v faces (at + width) (before ++ (s ∷ [])) rest (rw append_snoc sound)) in
    rw (sound.sound s here, not-before s before rest (sound.once s), sound.closed s here, later)

-- CHAIN A. The places of what is chosen rise, are places of the list, and are no more than it has.
pub places-rising : (marks : List Bool) (count at least i : ℕ) → least ≤ i → i + length marks ≤ count →
    rising_below count at least (places_from i marks) ≡ accepted (places_from i marks)
unfolding rising_below places_from
places-rising [] count at least i from upto = refl
places-rising (true ∷ marks) count at least i from upto =
    rw (le-ltb i least from, lt-leb count i (omega arith), places-rising marks count (at + 2) (suc i) (suc i) (omega arith) (omega arith))
places-rising (false ∷ marks) count at least i from upto =
    places-rising marks count at least (suc i) (omega arith) (omega arith)

pub places-below : (n : ℕ) (marks : List Bool) (i : ℕ) → i + length marks ≤ n → all_below n (places_from i marks) ≡ true
unfolding places_from all_below
places-below n [] i upto = refl
places-below n (true ∷ marks) i upto = rw (lt-ltb i n (omega arith), places-below n marks (suc i) (omega arith))
places-below n (false ∷ marks) i upto = places-below n marks (suc i) (omega arith)

pub places-few : (marks : List Bool) (i : ℕ) → length (places_from i marks) ≤ length marks
unfolding places_from
places-few [] i = omega arith
places-few (true ∷ marks) i = omega (arith, places-few marks (suc i))
places-few (false ∷ marks) i = omega (arith, places-few marks (suc i))

-- What stands at the places of A's members: the listed simplices that A holds. `f` gives the simplex at a place.
at_places : (A : SimplexSet) (s : Simplex) (f : ℕ → Simplex) (l : List Simplex) (i : ℕ) → ((k : ℕ) → k < length l → f (i + k) ≡ get_or l k []) →
    listed s (map f (places_from i (map A l))) ≡ (listed s l && A s)
unfolding places_from listed
at_places A s f [] i stands = refl
at_places A s f (t ∷ l) i stands =
    go (A t) (same s t) refl refl (at_places A s f l (suc i) (λ k below. ap f (up k) ∙ stands (suc k) (omega arith)))
  where
    first : f i ≡ t
    first = rw add-zero at (stands 0 (omega arith))

    up : (k : ℕ) → suc i + k ≡ i + suc k
    up k = omega arith

    go : (x y : Bool) → A t ≡ x → same s t ≡ y → listed s (map f (places_from (suc i) (map A l))) ≡ (listed s l && A s) →
        listed s (map f (places_from i (x ∷ map A l))) ≡ ((y || listed s l) && A s)
    go true true held e rest = rw (first, e) (sym (ap A (same-equal s t e) ∙ held))
    go true false held e rest = rw (first, e) rest
    go false true held e rest = rest ∙ rw (ap A (same-equal s t e) ∙ held, and-false)
    go false false held e rest = rest

-- A set of listed simplices is what its own places name.
pub named_back : (A : SimplexSet) (l : List Simplex) → Within A l → named l (places_from 0 (map A l)) ≡ A
named_back A l within = fun_ext λ s. at_places A s (λ i. get_or l i []) l 0 (λ k below. rw zero-add) ∙ held s (A s) refl
  where
    held : (s : Simplex) (x : Bool) → A s ≡ x → (listed s l && A s) ≡ A s
    held s true e = rw (within s e)
    held s false e = rw (e, and-false)
