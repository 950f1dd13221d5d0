-- Sides are found facet by facet, from that without the first vertex on, and taken off again from the last one on.
use Rattle.std.specs.Prelude.{ℕ, zero, suc, ◌+◌, ◌-◌, ◌*◌, ◌/◌, ◌%◌, ◌≤◌, ◌<◌, ◌≡◌, refl, true, false, Option, Some, None, Result, Ok, Err, List, [], length, get_or, set}
use Rattle.std.proofs.Common.{arith, add-one, sym, ap, ◌∙◌, subst, length-set, get_or-set_same, get_or-set_other}
use Rattle.std.proofs.Math.Decide.{ℕ_discrete}
use Rattle.format.specs.Simplex.{Simplex, Rank, ranked, unlisted, rank, facets, all_listed}
use Rattle.format.specs.Listed.{true-not-false}
use Rattle.format.specs.Reading.{without}
use Rattle.format.specs.Moves.{length_without}
use Rattle.format.specs.Facets.{facets_below, facets-below, facet-missing, facet-found, facets-none}
use Rattle.format.specs.Matrix.{Closed}
use Rattle.keys.specs.Number.{digit}
use Rattle.lookup.specs.Indexed.{Proper, NumberOf, Keyed}
use Rattle.lookup.specs.Sides.{Sides, none, more, Sided, FacetsTold, SidesUpTo, SidesTold}

module _ {faces : List Simplex} {s : Simplex} where
  -- one facet more, as the lowest digit
  pub sides-more : {left k i : ℕ} → Sides faces s left k → rank (without left s) faces ≡ ranked i → i < digit
      → Sides faces s (suc left) (k * digit + i)
  sides-more {left} {k} {i} a r lt =
      let low : i ≡ (k * digit + i) % digit = omega arith in
      let high : k ≡ (k * digit + i) / digit = omega arith in
      more (r ∙ ap ranked low) (subst (Sides faces s left) high a)

  -- the last facet is the lowest digit, and the others are those behind it
  pub sides-last : {left k : ℕ} → Sides faces s left k → 0 < left
      → (rank (without (left - 1) s) faces ≡ ranked (k % digit)) × Sides faces s (left - 1) (k / digit)
  sides-last none some = absurd (omega arith)
  sides-last (more {left} {k} r a) some =
      let e : left ≡ suc left - 1 = omega arith in
      (ap (λ (j : ℕ). rank (without j s) faces) (sym e) ∙ r, subst (λ (j : ℕ). Sides faces s j (k / digit)) e a)

-- one facet that is not listed is enough
lacking-one : (s : Simplex) (faces : List Simplex) (n j : ℕ) → j < n → rank (without j s) faces ≡ unlisted
    → all_listed (facets_below n s) faces ≡ false
lacking-one s faces zero j lt out = absurd (omega arith)
lacking-one s faces (suc n) j lt out = go (rank (without n s) faces) refl (λ below. lacking-one s faces n j below out)
  where
    last : n ≡ suc n - 1
    last = omega arith

    here : {r : Rank} → rank (without n s) faces ≡ r → rank (without (suc n - 1) s) faces ≡ r
    here e = ap (λ (k : ℕ). rank (without k s) faces) (sym last) ∙ e

    go : (r : Rank) → rank (without n s) faces ≡ r → (j < n → all_listed (facets_below n s) faces ≡ false)
        → all_listed (facets_below (suc n) s) faces ≡ false
    go unlisted e below = facet-missing s faces (suc n) (omega arith) (here e)
    go (ranked i) e below = elim (ℕ_discrete j n) [
      | yes same ↦ facet-missing s faces (suc n) (omega arith) (here (ap (λ (k : ℕ). rank (without k s) faces) (sym same) ∙ out))
      | no other ↦
          facet-found s faces (suc n) i (omega arith) (here e)
          ∙ ap (λ (k : ℕ). all_listed (facets_below k s) faces) (sym last)
          ∙ below (omega arith)
    ]

-- THE LOOP over the facets: the ranks of those without one of the first `skip` vertices make k, which has so many digits.
pub record Siding (keys : List ℕ) (n number width skip k : ℕ) : Type 0 where
  pub within : skip ≤ width
  pub no_digit : skip ≤ 0 → k < 1
  pub one_digit : skip ≤ 1 → k < 65536
  pub two_digits : skip ≤ 2 → k < 4294967296
  pub three_digits : skip ≤ 3 → k < 281474976710656
  pub found : (s : Simplex) → NumberOf s number → length s ≡ width → (faces : List Simplex) → Proper (width - 1) faces
      → Keyed faces keys n → (all_listed (facets_below skip s) faces ≡ true) × Sides faces s skip k

pub siding-start : (keys : List ℕ) (n number width : ℕ) → Siding keys n number width 0 0
siding-start keys n number width = record {
  within = omega arith;
  no_digit = λ _. omega arith;
  one_digit = λ _. omega arith;
  two_digits = λ _. omega arith;
  three_digits = λ _. omega arith;
  found = λ s own size faces proper keyed. (facets-none s faces 0 (omega arith), none);
}

module _ {keys : List ℕ} {n number width skip k : ℕ} (a : Siding keys n number width skip k) where
  pub siding-end : width ≤ skip → (s : Simplex) → NumberOf s number → length s ≡ width → (faces : List Simplex)
      → Proper (width - 1) faces → Keyed faces keys n → FacetsTold faces s (Some k)
  siding-end end s own size faces proper keyed =
      let all : skip ≡ length s = omega (arith, a.within) in
      let known = a.found s own size faces proper keyed in (
        ap (λ (l : List Simplex). all_listed l faces) (facets-below s)
            ∙ ap (λ (m : ℕ). all_listed (facets_below m s) faces) (sym all)
            ∙ known.0,
        subst (λ (m : ℕ). Sides faces s m k) all known.1,
      )

  -- the facet that leaves out the next vertex was looked up by its number
  module _ (below : skip < width) (few : width ≤ 4) {facet : ℕ}
      (facet-own : (s : Simplex) → NumberOf s number → length s ≤ 4 → skip < length s → NumberOf (without skip s) facet)
      {r : Rank} (looked : (s : Simplex) → NumberOf s facet → (l : List Simplex) → Proper (length s) l → Keyed l keys n → r ≡ rank s l) where
    module _ (s : Simplex) (own : NumberOf s number) (size : length s ≡ width) (faces : List Simplex)
        (proper : Proper (width - 1) faces) (keyed : Keyed faces keys n) where
      facet-ranked : rank (without skip s) faces ≡ r
      facet-ranked =
          let e : width - 1 ≡ length (without skip s) = omega (arith, length_without skip s (omega arith)) in
          sym (looked (without skip s) (facet-own s own (omega arith) (omega arith)) faces
          (subst (λ (w : ℕ). Proper w faces) e proper) keyed)

      pub siding-lacks : r ≡ unlisted → FacetsTold faces s None
      siding-lacks none_found =
          ap (λ (l : List Simplex). all_listed l faces) (facets-below s)
          ∙ lacking-one s faces (length s) skip (omega arith) (facet-ranked ∙ none_found)

    pub siding-on : {i : ℕ} → r ≡ ranked i → i < 65536 → Siding keys n number width (skip + 1) (k * 65536 + i)
    siding-on {i} some low =
        record {
          within = omega arith;
          no_digit = λ le. absurd (omega arith);
          one_digit = λ le. omega (arith, a.no_digit (omega arith));
          two_digits = λ le. omega (arith, a.one_digit (omega arith));
          three_digits = λ le. omega (arith, a.two_digits (omega arith));
          found = λ s own size faces proper keyed.
              let known = a.found s own size faces proper keyed in
              let last : skip ≡ suc skip - 1 = omega arith in
              let next = facet-ranked s own size faces proper keyed ∙ some in
              subst (λ (m : ℕ). (all_listed (facets_below m s) faces ≡ true) × Sides faces s m (k * 65536 + i)) (sym (add-one skip)) (
                facet-found s faces (suc skip) i (omega arith) (ap (λ (m : ℕ). rank (without m s) faces) (sym last) ∙ next)
                    ∙ ap (λ (m : ℕ). all_listed (facets_below m s) faces) (sym last)
                    ∙ known.0,
                sides-more known.1 next low,
              );
        }

-- SIDES OF A LIST: of no simplex, and of one simplex more.
sided-none : {faces l : List Simplex} {sides : List ℕ} → Sided faces l sides 0
sided-none = record { own = λ i lt. absurd (omega arith) }

sided-more : {faces l : List Simplex} {sides : List ℕ} {n k : ℕ} → Sided faces l sides n → n < length sides
    → Sides faces (get_or l n []) (length (get_or l n [])) k → Sided faces l (set sides n k) (suc n)
sided-more {faces} {l} {sides} {n} {k} a room new = record { own = own }
  where
    own : (i : ℕ) → i < suc n → Sides faces (get_or l i []) (length (get_or l i [])) (get_or (set sides n k) i 0)
    own i lt = elim (ℕ_discrete i n) [
      | yes same ↦
          subst (λ (j : ℕ). Sides faces (get_or l j []) (length (get_or l j [])) (get_or (set sides n k) j 0)) (sym same)
          (subst (Sides faces (get_or l n []) (length (get_or l n []))) (sym (get_or-set_same sides n k 0 room)) new)
      | no other ↦
          subst (Sides faces (get_or l i []) (length (get_or l i []))) (sym (get_or-set_other sides n i k 0 other)) (a.own i (omega arith))
    ]

-- what is known of the first n simplices, and of the next
listed_more : (faces l : List Simplex) {n : ℕ} → ((i : ℕ) → i < n → all_listed (facets (get_or l i [])) faces ≡ true)
    → all_listed (facets (get_or l n [])) faces ≡ true → (i : ℕ) → i < suc n → all_listed (facets (get_or l i [])) faces ≡ true
listed_more faces l {n} old new i lt = elim (ℕ_discrete i n) [
  | yes same ↦ ap (λ (j : ℕ). all_listed (facets (get_or l j [])) faces) same ∙ new
  | no other ↦ old i (omega arith)
]

-- THE LOOP over a list: the facets of its first i simplices are listed, and their sides found.
pub record SidesFound (face_keys : List ℕ) (m : ℕ) (keys : List ℕ) (n width : ℕ) (sides₀ sides : List ℕ) (i : ℕ) : Type 0 where
  pub long : length sides ≡ length sides₀
  pub found : (faces l : List Simplex) → Proper (width - 1) faces → Keyed faces face_keys m → Proper width l → Keyed l keys n
      → SidesUpTo faces l sides i

pub finding-start : (face_keys : List ℕ) (m : ℕ) (keys : List ℕ) (n width : ℕ) (sides : List ℕ)
    → SidesFound face_keys m keys n width sides sides 0
finding-start face_keys m keys n width sides =
    record { long = refl; found = λ faces l p k wide own. record { listed = λ j lt. absurd (omega arith); sided = sided-none } }

module _ {face_keys : List ℕ} {m : ℕ} {keys : List ℕ} {n width : ℕ} {sides₀ sides : List ℕ} {i : ℕ}
    (a : SidesFound face_keys m keys n width sides₀ sides i) where
  module _ (below : i < n) (r : Option ℕ)
      (looked : (s : Simplex) → NumberOf s (get_or keys i 0) → length s ≡ width → (faces : List Simplex) → Proper (width - 1) faces
      → Keyed faces face_keys m → FacetsTold faces s r) where
    -- what the look-up of the next simplex says of it in a list
    told : (faces l : List Simplex) → Proper (width - 1) faces → Keyed faces face_keys m → Proper width l → Keyed l keys n
        → FacetsTold faces (get_or l i []) r
    told faces l p k wide own =
        looked (get_or l i []) (own.own i below) (wide.wide i (omega (arith, own.count))) faces p k

    pub finding-on : {k : ℕ} → r ≡ Some k → n ≤ length sides₀ → SidesFound face_keys m keys n width sides₀ (set sides i k) (i + 1)
    finding-on {k} e room =
        subst (SidesFound face_keys m keys n width sides₀ (set sides i k)) (sym (add-one i)) (
        record {
          long = length-set sides i k ∙ a.long;
          found = λ faces l p q wide own.
              let known = a.found faces l p q wide own in
              let new = subst (FacetsTold faces (get_or l i [])) e (told faces l p q wide own) in
              record {
                listed = listed_more faces l known.listed new.0;
                sided = sided-more known.sided (omega (arith, a.long)) new.1;
              };
        }
        )

    -- the next simplex lacks a facet
    pub finding-lacks : r ≡ None → (faces l : List Simplex) → Proper (width - 1) faces → Keyed faces face_keys m → Proper width l
        → Keyed l keys n → SidesTold faces l sides n (Err i)
    finding-lacks e faces l p k wide own =
        (below, a.found faces l p k wide own, subst (FacetsTold faces (get_or l i [])) e (told faces l p k wide own))

  pub finding-end : i ≡ n → (faces l : List Simplex) → Proper (width - 1) faces → Keyed faces face_keys m → Proper width l
      → Keyed l keys n → SidesUpTo faces l sides n
  finding-end end faces l p k wide own = subst (SidesUpTo faces l sides) end (a.found faces l p k wide own)

-- no simplex of a closed list lacks a facet, so that all sides are found
pub sides-closed : {faces l : List Simplex} {sides : List ℕ} {n : ℕ} (r : Result (Unit {0}) ℕ) → SidesTold faces l sides n r
    → n ≡ length l → Closed faces l → Sided faces l sides n
sides-closed (Ok done) found all closed = found.sided
sides-closed (Err i) found all closed = true-not-false _ (closed i (omega (arith, found.0))) found.2
