-- What each outcome of a stage's tests comes to in the definitions.
use Prim.Native.Nat.{ℕ, ◌+◌, ◌*◌, ◌%◌, ◌≤◌, ◌<◌}
use native.Mathlib.Nat.{mul-suc, mul-le-mul_left, le_of_mul-le-mul_left}
use native.Mathlib.Omega.{arith}
use mathlib.Core.Path.{◌≡◌, refl, sym, ◌∙◌, ap, ap₂, subst}
use mathlib.Core.Bool.{Bool, true, false, and-false}
use mathlib.Core.List.{List, [], ◌++◌}
use lib.ListN.{length, get_or, take, drop, take-append-drop, length-drop}
use lib.Seq.{drop-drop, drop-append-le, take-append-le}
use lib.Dec.{eqb}
use borrow.Author.Tests.{eq-eqb, ne_eqb, le-leb, lt-leb}
use Rattle.format.specs.Numbers.{small, cut, wrong_kind, shape, header_bytes}
use Rattle.format.specs.Simplex.{Simplex}
use Rattle.format.specs.Reading.{Reading, ◌and_then◌, accepted, refused, Listing, ended, broken, whole, header_at, payload_at, list_fits, read_items, items_of, read_list}
use Rattle.format.specs.Items.{items-none}
use Rattle.format.specs.Opened.{opened_from, opened, record-opened, opened_inside, payload-long}
use Rattle.format.specs.Sound.{AllSound}
use Rattle.std.proofs.Common.{Ok, Err}
use Rattle.refusals.specs.Meaning.{number_of}
use Rattle.refusals.specs.Readings.{reading_of, reading-then, not_read, same_read}
use Rattle.refusals.specs.declared.Refusal.{Refusal}
use Rattle.lookup.specs.Numbered.{simplices_in}
use Rattle.lookup.specs.Sides.{SidesUpTo, SidesTold}
use Rattle.reading_lists.specs.Items.{lack_of, Shaped, ItemsTaken}
use Rattle.reading_lists.specs.declared.ItemsRead.{ItemsRead}
use Rattle.reading_lists.proofs.Facing.{Paid, edge-owes-none, others-owe, faces-listed, first-lacks}
use Rattle.stages.specs.Meaning.{size_of, end_at, TakenItems, TakenList, SidedList, FacesFound}
use Rattle.stages.specs.declared.Taken.{Taken}

module _ (may : ℕ → Bool) (b : List ℕ) (at : ℕ) where
  pub opened-ended : header_at b at ≡ ended → opened may b at ≡ refused wrong_kind at
  unfolding opened_from
  opened-ended e = rw e

  pub opened-broken : header_at b at ≡ broken → opened may b at ≡ refused cut at
  unfolding opened_from
  opened-broken e = rw e

  pub opened-may : (kind size : ℕ) → header_at b at ≡ whole kind size → may kind ≡ true → opened may b at ≡ accepted size
  unfolding opened_from
  opened-may kind size e m = rw (e, m)

  pub opened-may-not : (kind size : ℕ) → header_at b at ≡ whole kind size → may kind ≡ false → opened may b at ≡ refused wrong_kind at
  unfolding opened_from
  opened-may-not kind size e m = rw (e, m)

-- a record ends within the file, and where none stands at a place, its end is a header further on
pub end-within : (b : List ℕ) (at kind beyond : ℕ) → at ≤ length b + beyond → end_at b at kind ≤ length b + (beyond + header_bytes)
end-within b at kind beyond le = go (opened (eqb kind) b at) refl
  where
    go : (o : Reading ℕ) → opened (eqb kind) b at ≡ o → at + header_bytes + size_of o ≤ length b + (beyond + header_bytes)
    go (accepted size) e = omega (arith, opened_inside (eqb kind) b at size e)
    go (refused number place) e = omega (arith, le)

-- THE LIST STAGE.
module _ (b : List ℕ) (at kind v : ℕ) (faces : List Simplex) where
  pub list-refused : (number place : ℕ) → opened (eqb kind) b at ≡ refused number place → read_list small b at kind v faces ≡ refused number place
  unfolding read_list
  list-refused number place e = rw (record-opened (λ _ p. list_fits small kind p) b at kind, e)

  module _ (size : ℕ) (whole : opened (eqb kind) b at ≡ accepted size) where
    long : length (payload_at b at size) ≡ size
    long = payload-long b at size (opened_inside (eqb kind) b at size whole)

    pub list-uneven : (size % kind ≡ 0 → ⊥) → read_list small b at kind v faces ≡ refused shape at
    unfolding read_list
    list-uneven n = rw (record-opened (λ _ p. list_fits small kind p) b at kind, whole, long, ne_eqb (size % kind) 0 n)

    pub list-long : kind * 512 < size → read_list small b at kind v faces ≡ refused shape at
    unfolding read_list
    list-long h = rw (record-opened (λ _ p. list_fits small kind p) b at kind, whole, long, lt-leb size (kind * 512) h, and-false)

    pub list_read_lem : size % kind ≡ 0 → size ≤ kind * 512 → (items : Reading (List Simplex))
        → read_items kind v faces (at + header_bytes) [] (items_of kind (payload_at b at size)) ≡ items
        → read_list small b at kind v faces ≡ (items and_then λ l. accepted (record { list = l; next = at + header_bytes + size }))
    unfolding read_list
    list_read_lem e h items r =
        rw (record-opened (λ _ p. list_fits small kind p) b at kind, whole, long, eq-eqb (size % kind) 0 e, le-leb size (kind * 512) h, r)

    -- a record without items is an empty list
    pub list-nothing : size % kind ≡ 0 → size ≡ 0 → 0 < kind
        → read_list small b at kind v faces ≡ accepted (record { list = []; next = at + header_bytes + size })
    unfolding read_items
    list-nothing even none some =
        list_read_lem even (omega arith) (accepted [])
        (rw (items-none kind (payload_at b at size) (omega (arith, long, none))) refl)

-- WHAT IS TAKEN.
-- a part of a front is that part of the whole
part_of : (p q : List ℕ) (i width : ℕ) → i + width ≤ length p → take width (drop i p) ≡ take width (drop i (p ++ q))
part_of p q i width inside =
    sym (ap (take width) (drop-append-le i p q (omega arith)) ∙ take-append-le width (drop i p) q (omega (arith, length-drop i p)))

-- The items of a payload are items of the file, behind the record's header.
module _ (b : List ℕ) (at kind v size : ℕ) {p keys first next : List ℕ} {r : ItemsRead} (whole : opened (eqb kind) b at ≡ accepted size)
    (is : p ≡ payload_at b at size) (shape : Shaped p (at + header_bytes) kind) (taken : ItemsTaken p (at + header_bytes) v kind keys first next r) where
  inside : at + header_bytes + size ≤ length b
  inside = opened_inside (eqb kind) b at size whole

  payload-size : length p ≡ size
  payload-size = ap length is ∙ payload-long b at size inside

  in-payload : {i : ℕ} → i < r.count → kind * i + kind ≤ length (payload_at b at size)
  in-payload {i} lt = omega (arith, mul-le-mul_left kind lt, mul-suc kind i, taken.within, payload-size, payload-long b at size inside)

  pub list-taken : size % kind ≡ 0 → size ≤ kind * 512
      → TakenList b at kind v keys first next (record { verdict = r.verdict; count = r.count; next = at + header_bytes + size })
  list-taken even fits = record {
    items = record {
      reads = λ faces sound.
          list_read_lem b at kind v faces size whole even fits _
          (ap (λ (q : List ℕ). read_items kind v faces (at + header_bytes) [] (items_of kind q)) (sym is) ∙ taken.reads faces sound);
      own = λ i lt.
          taken.own i lt ∙ ap (λ (q : List ℕ). take kind (drop (kind * i) q)) is
          ∙ part_of (payload_at b at size) (drop size (drop (at + header_bytes) b)) (kind * i) kind (in-payload lt)
          ∙ ap (λ (l : List ℕ). take kind (drop (kind * i) l)) (take-append-drop size (drop (at + header_bytes) b))
          ∙ ap (take kind) (drop-drop (kind * i) (at + header_bytes) b);
      proper = taken.proper;
      indexed = taken.indexed;
      few = le_of_mul-le-mul_left {k = kind} (omega (arith, taken.within, shape)) (omega (arith, shape));
      within = λ some. omega (arith, taken.within, inside, payload-size);
    };
    ends = ap (λ (s : ℕ). at + header_bytes + s) (sym (ap size_of whole));
  }

-- RULE 8 over what was taken.
module _ {b : List ℕ} {at kind v : ℕ} {keys first next : List ℕ} {taken : Taken} (told : TakenItems b at kind v keys first next taken)
    (faces : List Simplex) (sound : AllSound v faces) where
  abbrev list : List Simplex
  list = simplices_in kind keys taken.count

  abbrev behind : Reading (List Simplex) → Reading Listing
  behind x = x and_then λ l. accepted (record { list = l; next = taken.next })

  -- where it refuses none, what was told when they were taken stands
  kept : ((i : ℕ) → i < taken.count → Paid kind v faces (get_or list i []))
      → reading_of (λ _. record { list = list; next = taken.next }) taken.verdict ≡ read_list small b at kind v faces
  kept paid =
      sym (told.reads faces sound
      ∙ ap behind (faces-listed kind v faces (at + header_bytes) list (reading_of (λ _. list) taken.verdict) (λ i lt. paid i (omega (arith, told.indexed.keyed.count))))
      ∙ reading-then taken.verdict (λ _. list) (λ l. record { list = l; next = taken.next }))

  -- it asks nothing of edges
  pub edges-read : kind ≤ 2 → reading_of (λ _. record { list = list; next = taken.next }) taken.verdict ≡ read_list small b at kind v faces
  edges-read edges = kept (λ i lt. edge-owes-none kind _ faces edges)

  module _ (wide : 2 < kind) {sides : List ℕ} where
    paid : {found : ℕ} → SidesUpTo faces list sides found → (i : ℕ) → i < found → Paid kind v faces (get_or list i [])
    paid looked i lt = others-owe kind _ faces true wide (looked.listed i lt)

    -- all are found: the list is read where no item was refused, and else that item is
    pub all_found : SidesUpTo faces list sides taken.count → taken.verdict ≡ Ok tt → FacesFound b at kind v faces keys sides taken (Ok (record { count = taken.count; next = taken.next }))
    all_found looked fine = record {
      reads = sym (ap (reading_of (λ _. record { list = list; next = taken.next })) fine) ∙ kept (paid looked);
      found = λ l is. subst (SidedList faces kind keys sides taken) (same_read is) (record { fine = fine; count = refl; next = refl; sided = looked.sided });
    }

    pub taken_refused : {e : Refusal} → SidesUpTo faces list sides taken.count → taken.verdict ≡ Err e → FacesFound b at kind v faces keys sides taken (Err e)
    taken_refused looked is = record {
      reads = sym (ap (reading_of (λ _. record { list = list; next = taken.next })) is) ∙ kept (paid looked);
      found = λ l z. absurd (not_read z);
    }

    pub lacking-refused : {found : ℕ} (e : Refusal) → SidesTold faces list sides taken.count (Err found)
        → number_of e.reason ≡ lack_of v (take kind (drop (at + header_bytes + kind * found) b))
        → e.place ≡ at + header_bytes + kind * found → FacesFound b at kind v faces keys sides taken (Err e)
    lacking-refused {found} e (lt, looked, lacking) lack here = record {
      reads =
          ap₂ refused (lack ∙ ap (lack_of v) (sym (told.own found lt))) here
          ∙ sym (told.reads faces sound
          ∙ ap behind (first-lacks kind v faces (at + header_bytes) list (reading_of (λ _. list) taken.verdict) found (omega (arith, told.indexed.keyed.count))
          (paid looked)
          (others-owe kind _ faces false wide lacking)));
      found = λ l z. absurd (not_read z);
    }
