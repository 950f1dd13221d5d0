-- Numbers in memory and the lists that they stand for: each determines the other.
use Rattle.std.specs.Prelude.{ℕ, zero, suc, ◌+◌, ◌-◌, ◌*◌, ◌/◌, ◌%◌, ◌≤◌, ◌<◌, ◌≡◌, length, take, get_or, set}
use native.Mathlib.Omega.{arith}
use Rattle.std.proofs.Common.{add-one, sym, ap₂, ◌∙◌, subst, length-set, ext_get_or, get_or-take, take-suc, take-suc-set}
use Rattle.std.proofs.Math.Path.{refl, ap}
use mathlib.Core.List.{List, [], ◌∷◌, ◌++◌, map, map-append}
use Rattle.std.proofs.Math.ListN.{length-map, length-take}
use Rattle.format.specs.Simplex.{Simplex}
use Rattle.format.specs.Reading.{without}
use Rattle.keys.specs.Number.{digit, number, number-none, number_more, Digits, none, more, digits_of, digits-own}
use Rattle.lists.specs.Meaning.{vertices_of, simplices_of}
use Rattle.lists.specs.Items.{appended}
use Rattle.lists.specs.declared.Simplex as code
use Rattle.lookup.specs.Indexed.{Proper, NumberOf, Keyed, Entered}
use Rattle.lookup.specs.Numbered.{simplices_in}

-- a number's digits are the simplex that it is the number of
pub vertices-own : {s : Simplex} {k width : ℕ} → NumberOf s k → length s ≡ width → digits_of width k ≡ s
vertices-own {s} {k} {width} own wide = ap₂ digits_of (sym wide) own.is ∙ digits-own s own.digits

-- at most four digits, written out, as a struct has them
pub four-digits : (width k : ℕ) → 1 ≤ width → width ≤ 4
    → take (suc (width - 1)) (k % digit ∷ k / digit % digit ∷ k / digit / digit % digit ∷ k / digit / digit / digit % digit ∷ []) ≡ digits_of width k
unfolding digits_of
four-digits zero k p q = absurd (omega arith)
four-digits (suc zero) k p q = refl
four-digits (suc (suc zero)) k p q = refl
four-digits (suc (suc (suc zero))) k p q = refl
four-digits (suc (suc (suc (suc zero)))) k p q = refl
four-digits (suc (suc (suc (suc (suc w))))) k p q = absurd (omega arith)

-- THE NUMBER OF A FACET, from the number of the simplex: one digit is left out.
digit-first : {a k : ℕ} {s : Simplex} → NumberOf (a ∷ s) k → (a ≡ k % digit) × (number s ≡ k / digit)
digit-first {a} {k} {s} own = go own.digits
  where
    go : Digits (a ∷ s) → (a ≡ k % digit) × (number s ≡ k / digit)
    go (more lt d) =
        let whole : k ≡ a + digit * number s = own.is ∙ number_more a s in
        (omega arith, omega arith)

digits-rest : {a k : ℕ} {s : Simplex} → NumberOf (a ∷ s) k → NumberOf s (k / digit)
digits-rest {a} {k} {s} own = go own.digits
  where
    go : Digits (a ∷ s) → NumberOf s (k / digit)
    go (more lt d) = record { is = sym (digit-first own).1; digits = d }

digits-behind : {a k n : ℕ} {s t : Simplex} → NumberOf (a ∷ s) k → NumberOf t n → NumberOf (a ∷ t) (k % digit + digit * n)
digits-behind {a} {k} {n} {s} {t} own rest = go own.digits
  where
    go : Digits (a ∷ s) → NumberOf (a ∷ t) (k % digit + digit * n)
    go (more lt d) = record {
      is = ap₂ (λ (x y : ℕ). x + digit * y) (sym (digit-first own).0) rest.is ∙ sym (number_more a t);
      digits = more lt rest.digits;
    }

facet-first : (s : Simplex) {k : ℕ} → NumberOf s k → 0 < length s → NumberOf (without 0 s) (k / digit)
facet-first [] own some = absurd (omega arith)
facet-first (a ∷ s) own some = digits-rest own

facet-later : (s : Simplex) {k n : ℕ} (skip : ℕ) → NumberOf s k → suc skip < length s
    → ((t : Simplex) → suc (length t) ≡ length s → NumberOf t (k / digit) → skip < length t → NumberOf (without skip t) n)
    → NumberOf (without (suc skip) s) (k % digit + digit * n)
facet-later [] skip own some rest = absurd (omega arith)
facet-later (a ∷ s) skip own some rest = digits-behind own (rest s refl (digits-rest own) (omega arith))

facet-second : (s : Simplex) {k : ℕ} → NumberOf s k → 1 < length s → NumberOf (without 1 s) (k % digit + digit * (k / digit / digit))
facet-second s own lt = facet-later s 0 own lt (λ t size. facet-first t)

facet-third : (s : Simplex) {k : ℕ} → NumberOf s k → 2 < length s
    → NumberOf (without 2 s) (k % digit + digit * (k / digit % digit + digit * (k / digit / digit / digit)))
facet-third s own lt = facet-later s 1 own lt (λ t size. facet-second t)

-- the last of four vertices has no digit behind it
no_digit : (s : Simplex) → length s ≡ 1 → NumberOf (without 0 s) 0
no_digit [] one = absurd (omega arith)
no_digit (a ∷ []) one = record { is = sym number-none; digits = none }
no_digit (a ∷ b ∷ s) one = absurd (omega arith)

facet-fourth : (s : Simplex) {k : ℕ} → NumberOf s k → length s ≤ 4 → 3 < length s
    → NumberOf (without 3 s) (k % digit + digit * (k / digit % digit + digit * (k / digit / digit % digit)))
facet-fourth s {k} own few lt =
    let end : k / digit / digit % digit + digit * 0 ≡ k / digit / digit % digit = omega arith in
    subst (λ (c : ℕ). NumberOf (without 3 s) (k % digit + digit * (k / digit % digit + digit * c))) end
    (facet-later s 2 own lt (λ t size own' lt'.
    facet-later t 1 own' lt' (λ u size' own'' lt''.
    facet-later u 0 own'' lt'' (λ v size'' own''' lt'''. no_digit v (omega arith)))))

-- the same, of the vertex number that is left out
module _ (s : Simplex) {k skip : ℕ} (own : NumberOf s k) (below : skip < length s) where
  pub skip_first : skip ≡ 0 → NumberOf (without skip s) (k / digit)
  skip_first e = subst (λ (j : ℕ). NumberOf (without j s) (k / digit)) (sym e) (facet-first s own (omega arith))

  pub skip-second : skip ≡ 1 → NumberOf (without skip s) (k % digit + digit * (k / digit / digit))
  skip-second e =
      subst (λ (j : ℕ). NumberOf (without j s) (k % digit + digit * (k / digit / digit))) (sym e) (facet-second s own (omega arith))

  pub skip-third : skip ≡ 2 → NumberOf (without skip s) (k % digit + digit * (k / digit % digit + digit * (k / digit / digit / digit)))
  skip-third e =
      subst (λ (j : ℕ). NumberOf (without j s) (k % digit + digit * (k / digit % digit + digit * (k / digit / digit / digit)))) (sym e)
      (facet-third s own (omega arith))

  pub skip-fourth : length s ≤ 4 → skip ≡ 3 → NumberOf (without skip s) (k % digit + digit * (k / digit % digit + digit * (k / digit / digit % digit)))
  skip-fourth few e =
      subst (λ (j : ℕ). NumberOf (without j s) (k % digit + digit * (k / digit % digit + digit * (k / digit / digit % digit)))) (sym e)
      (facet-fourth s own few (omega arith))

-- inside a list it does not matter what stands outside
map_at : (f : ℕ → Simplex) (l : List ℕ) (i : ℕ) → i < length l → get_or (map f l) i [] ≡ f (get_or l i 0)
map_at f [] i lt = absurd (omega arith)
map_at f (x ∷ l) zero lt = refl
map_at f (x ∷ l) (suc i) lt = map_at f l i (omega arith)

module _ (width : ℕ) (keys : List ℕ) where
  pub none_in : simplices_in width keys 0 ≡ []
  unfolding simplices_in
  none_in = refl

  module _ (n : ℕ) (room : n ≤ length keys) where
    pub length-in : length (simplices_in width keys n) ≡ n
    unfolding simplices_in
    length-in = length-map (take n keys) (digits_of width) ∙ length-take n keys ∙ omega arith

    pub simplex-in : (i : ℕ) → i < n → get_or (simplices_in width keys n) i [] ≡ digits_of width (get_or keys i 0)
    unfolding simplices_in
    simplex-in i lt =
        map_at (digits_of width) (take n keys) i (omega (arith, length-take n keys))
        ∙ ap (digits_of width) (get_or-take n keys i 0 lt)

    -- the list whose numbers they are is the one that they stand for
    pub keyed-in : {l : List Simplex} → Proper width l → Keyed l keys n → simplices_in width keys n ≡ l
    keyed-in {l} proper keyed =
        ext_get_or [] _ l (length-in ∙ keyed.count) (λ i lt.
        let below : i < n = omega (arith, length-in) in
        simplex-in i below ∙ vertices-own (keyed.own i below) (proper.wide i (omega (arith, keyed.count))))

  -- the next number is the next simplex
  next-in : (n : ℕ) → n < length keys → simplices_in width keys (suc n) ≡ simplices_in width keys n ++ (digits_of width (get_or keys n 0) ∷ [])
  unfolding simplices_in
  next-in n room =
      ap (map (digits_of width)) (take-suc keys n 0 room) ∙ map-append (digits_of width) (take n keys) (get_or keys n 0 ∷ [])

  -- one more number behind the first n is one more simplex
  pub more-in : {s : Simplex} {keys' first' next' : List ℕ} {n : ℕ} → n < length keys → length s ≡ width
      → Entered s keys keys' first' next' n → simplices_in width keys' (suc n) ≡ simplices_in width keys n ++ (s ∷ [])
  unfolding simplices_in
  more-in {s} {keys'} {n = n} room wide e =
      ap (λ (k : List ℕ). map (digits_of width) (take (suc n) k)) e.put
      ∙ ap (map (digits_of width)) (take-suc-set keys n (number s) room)
      ∙ map-append (digits_of width) (take n keys) (number s ∷ [])
      ∙ ap (λ (t : Simplex). map (digits_of width) (take n keys) ++ (t ∷ []))
      (vertices-own {s = s} {k = number s} (record { is = refl; digits = e.digits }) wide)

-- THE LOOP that lists the simplices of numbers: the first i items are those of the first i numbers.
pub record Listing (width : ℕ) (keys : List ℕ) (items : List code.Simplex) (i : ℕ) : Type 0 where
  pub listed : simplices_of (record { items = items; count = i }) ≡ simplices_in width keys i
  pub full : length items ≡ 512

pub listing_start : (width : ℕ) (keys : List ℕ) (items : List code.Simplex) → length items ≡ 512 → Listing width keys items 0
listing_start width keys items full = record { listed = sym (none_in width keys); full = full }

pub listing-on : {width : ℕ} {keys : List ℕ} {items : List code.Simplex} {i : ℕ} (s : code.Simplex) → Listing width keys items i
    → i < 512 → i < length keys → vertices_of s ≡ digits_of width (get_or keys i 0) → Listing width keys (set items i s) (i + 1)
listing-on {width} {keys} {items} {i} s a lt room here = record {
  listed =
      appended (record { items = items; count = i }) s (omega (arith, a.full))
      ∙ ap₂ (λ (k : List Simplex) (t : Simplex). k ++ (t ∷ [])) a.listed here
      ∙ sym (next-in width keys i room)
      ∙ ap (simplices_in width keys) (sym (add-one i));
  full = length-set items i s ∙ a.full;
}

pub listing-end : {width : ℕ} {keys : List ℕ} {items : List code.Simplex} {i n : ℕ} → Listing width keys items i → i ≡ n
    → simplices_of (record { items = items; count = n }) ≡ simplices_in width keys n
listing-end {width} {keys} {items} a e =
    subst (λ (m : ℕ). simplices_of (record { items = items; count = m }) ≡ simplices_in width keys m) e a.listed
