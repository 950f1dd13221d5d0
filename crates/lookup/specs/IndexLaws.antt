-- Why a list is looked up by its keys: in a proper list the simplex with a number is the only one, so the last place that
-- holds the number is the rank.
use Rattle.std.specs.Prelude.{ℕ, zero, suc, ◌+◌, ◌*◌, ◌≤◌, ◌<◌, ◌≡◌, refl, Bool, true, false, cond, IfSome, List, [], ◌∷◌, ◌++◌, eqb, length, take, get_or, set, replicate}
use Rattle.std.proofs.Common.{sym, ap, ◌∙◌, subst, arith, add-one, length-append, get_or-set_same, get_or-set_other, take-suc, take_all, eq-eqb, eqb-true}
use Rattle.std.proofs.Math.Decide.{ℕ_discrete}
use Rattle.std.proofs.lemmas.List.{length-replicate}
use Rattle.std.proofs.Math.ListN.{get_or-append}
use Rattle.std.proofs.Math.Seq.{get_or-append_seam}
use Rattle.format.specs.Simplex.{Simplex, Rank, ranked, unlisted, rank, listed, same}
use Rattle.format.specs.Listed.{StandsAt, rank-stands, same-equal, true-not-false}
use Rattle.format.specs.Lookup.{first-ranked, stands-listed}
use Rattle.format.specs.Sound.{SoundList, copies, copies-append, unlisted-copies, one_place}
use Rattle.keys.specs.Chained.{Chained, Linked, last_below, place_of, buckets, last_within, last-passes, last_none, chained-none}
use Rattle.keys.specs.Number.{digit, number, number_same, number-four, digits-four}
use Rattle.lists.specs.Meaning.{rank_of}
use Rattle.lookup.specs.Indexed.{Proper, NumberOf, Keyed, Indexed, Blank, Entered}

-- four vertices are those of a simplex if each is
pub four_places : (s : Simplex) {a b e f : ℕ} → a ≡ get_or s 0 0 → b ≡ get_or s 1 0 → e ≡ get_or s 2 0 → f ≡ get_or s 3 0
    → (i : ℕ) → i < 4 → get_or (a ∷ b ∷ e ∷ f ∷ []) i 0 ≡ get_or s i 0
four_places s p q r t zero lt = p
four_places s p q r t (suc zero) lt = q
four_places s p q r t (suc (suc zero)) lt = r
four_places s p q r t (suc (suc (suc zero))) lt = t
four_places s p q r t (suc (suc (suc (suc i)))) lt = absurd (omega arith)

-- A simplex's number, from its four places.
pub number-told : (s : Simplex) (v : List ℕ) → length s ≤ 4 → ((i : ℕ) → i < 4 → get_or v i 0 ≡ get_or s i 0)
    → get_or v 0 0 < digit → get_or v 1 0 < digit → get_or v 2 0 < digit → get_or v 3 0 < digit
    → NumberOf s (get_or v 0 0 + digit * (get_or v 1 0 + digit * (get_or v 2 0 + digit * get_or v 3 0)))
number-told s v few places pa qb re tf =
    let p : get_or v 0 0 ≡ get_or s 0 0 = places 0 (omega arith) in
    let q : get_or v 1 0 ≡ get_or s 1 0 = places 1 (omega arith) in
    let r : get_or v 2 0 ≡ get_or s 2 0 = places 2 (omega arith) in
    let t : get_or v 3 0 ≡ get_or s 3 0 = places 3 (omega arith) in
    record {
      is = omega (arith, number-four s few);
      digits = digits-four s few (omega arith) (omega arith) (omega arith) (omega arith);
    }

-- THE LOOK-UP of the simplex s with number k.
module _ {s : Simplex} {l : List Simplex} {keys : List ℕ} {n k : ℕ} (proper : Proper (length s) l) (keyed : Keyed l keys n)
    (number_of : NumberOf s k) where
  -- where its number stands, it stands itself
  own-place : (j : ℕ) → j < n → get_or keys j 0 ≡ k → StandsAt s l j
  own-place j lt e =
      let there = keyed.own j lt in
      let inside : j < length l = omega (arith, keyed.count) in
      record {
        below = inside;
        here =
            number_same (get_or l j []) s (proper.wide j inside) there.digits number_of.digits
            (sym there.is ∙ e ∙ number_of.is);
      }

  pub number-found : (j : ℕ) → last_below (eqb k) keys n ≡ suc j → rank s l ≡ ranked j
  number-found j e =
      let hit : k ≡ get_or keys j 0 = eqb-true k (get_or keys j 0) (last-passes (eqb k) keys n j e) in
      let stands : StandsAt s l j = own-place j (omega (arith, last_within (eqb k) keys n)) (sym hit) in
      first-ranked s l j stands (λ i lt here.
      let inside : i < length l = omega (arith, stands.below) in
      let twice : i ≡ j = one_place s l (proper.once s) i j inside stands.below here stands.here in
      omega arith)

  pub number-missing : last_below (eqb k) keys n ≡ 0 → rank s l ≡ unlisted
  number-missing e = go (rank s l) refl
    where
      go : (r : Rank) → rank s l ≡ r → rank s l ≡ unlisted
      go unlisted q = q
      go (ranked i) q =
          let stands : StandsAt s l i = rank-stands s l i q in
          let there = keyed.own i (omega (arith, keyed.count, stands.below)) in
          let same : k ≡ get_or keys i 0 = number_of.is ∙ ap number (sym stands.here) ∙ sym there.is in
          true-not-false (eqb k (get_or keys i 0)) (eq-eqb k (get_or keys i 0) same)
          (last_none (eqb k) keys n e i (omega (arith, keyed.count, stands.below)))

  -- the last place that holds the number is the rank
  pub number-ranked : rank_of (place_of (last_below (eqb k) keys n)) ≡ rank s l
  number-ranked = go (last_below (eqb k) keys n) refl
    where
      go : (j : ℕ) → last_below (eqb k) keys n ≡ j → rank_of (place_of j) ≡ rank s l
      go zero e = sym (number-missing e)
      go (suc j) e = sym (number-found j e)

-- and it is below n
pub place-below : (p : ℕ → Bool) (keys : List ℕ) (n : ℕ) → IfSome (place_of (last_below p keys n)) (λ r. r < n)
place-below p keys n = go (last_below p keys n) (last_within p keys n)
  where
    go : (j : ℕ) → j ≤ n → IfSome (place_of j) (λ r. r < n)
    go zero le = tt
    go (suc j) le = omega arith

-- PROPER LISTS: the empty one, one simplex more, and every list that was read.
pub proper-none : (width : ℕ) → Proper width []
unfolding copies
proper-none width = record { wide = λ i lt. absurd (omega arith); once = λ s. omega arith }

-- what a list and one simplex more are known of, place by place
each_more : (P : Simplex → Type 0) (l : List Simplex) (s : Simplex) → ((i : ℕ) → i < length l → P (get_or l i [])) → P s
    → (i : ℕ) → i < length (l ++ (s ∷ [])) → P (get_or (l ++ (s ∷ [])) i [])
each_more P l s old new i lt = elim (ℕ_discrete i (length l)) [
  | yes e ↦ subst P (sym (ap (λ (j : ℕ). get_or (l ++ (s ∷ [])) j []) e ∙ get_or-append_seam l s [] [])) new
  | no other ↦
      let inside : i < length l = omega (arith, length-append l (s ∷ [])) in
      subst P (sym (get_or-append l (s ∷ []) [] i inside)) (old i inside)
]

pub proper-more : {width : ℕ} (l : List Simplex) (s : Simplex) → Proper width l → length s ≡ width → listed s l ≡ false
    → Proper width (l ++ (s ∷ []))
unfolding copies
proper-more {width} l s p w fresh = record {
  wide = each_more (λ (x : Simplex). length x ≡ width) l s p.wide w;
  once = λ t. once t (same t s) refl;
}
  where
    last : (t : Simplex) (x : Bool) → same t s ≡ x → copies t (s ∷ []) ≡ cond x 1 0
    last t x e = rw e (omega arith)

    once : (t : Simplex) (x : Bool) → same t s ≡ x → copies t (l ++ (s ∷ [])) ≤ 1
    once t true e =
        let none : copies t l ≡ 0 = subst (λ (x : Simplex). copies x l ≡ 0) (sym (same-equal t s e)) (unlisted-copies s l fresh) in
        omega (arith, copies-append t l (s ∷ []), last t true e)
    once t false e = omega (arith, copies-append t l (s ∷ []), last t false e, p.once t)

pub sound-proper : {width v : ℕ} {faces l : List Simplex} → SoundList width v faces l → Proper width l
sound-proper {l = l} sound = record {
  wide = λ i lt. sound.wide (get_or l i []) (stands-listed (get_or l i []) l i (record { below = lt; here = refl }));
  once = sound.once;
}

-- links that are all zero chain nothing
pub zeros-blank : Blank (replicate buckets 0) (replicate 512 0)
zeros-blank = record { room = omega (arith, length-replicate {A = ℕ} 512 0); none = refl }

-- INDEXES GROW with their lists.
pub entered : {s : Simplex} {keys keys' first' next' : List ℕ} {n k : ℕ} → Linked keys keys' first' next' n k → NumberOf s k
    → Entered s keys keys' first' next' n
entered {s} {keys} {n = n} l e = record { put = l.put ∙ ap (set keys n) e.is; digits = e.digits; chained = l.chained }

pub indexed-none : {keys first next : List ℕ} → first ≡ replicate buckets 0 → Indexed [] keys first next 0
indexed-none {keys} {first} {next} e = record {
  chained = subst (λ (f : List ℕ). Chained keys f next 0) (sym e) (chained-none keys next);
  keyed = record { count = refl; own = λ i lt. absurd (omega arith) };
}

pub indexed-more : (l : List Simplex) (s : Simplex) {keys first next keys' first' next' : List ℕ} {n : ℕ}
    → Indexed l keys first next n → n < length keys → Entered s keys keys' first' next' n
    → Indexed (l ++ (s ∷ [])) keys' first' next' (suc n)
indexed-more l s {keys} {first} {next} {keys'} {first'} {next'} {n} old room e = record {
  chained = e.chained;
  keyed = record { count = omega (arith, old.keyed.count, length-append l (s ∷ [])); own = own };
}
  where
    own : (i : ℕ) → i < suc n → NumberOf (get_or (l ++ (s ∷ [])) i []) (get_or keys' i 0)
    own i lt = elim (ℕ_discrete i n) [
      | yes same ↦
          let at : i ≡ length l = same ∙ old.keyed.count in
          subst (λ (x : Simplex). NumberOf x (get_or keys' i 0))
          (sym (ap (λ (j : ℕ). get_or (l ++ (s ∷ [])) j []) at ∙ get_or-append_seam l s [] []))
          (record {
            is = ap (λ (k : List ℕ). get_or k i 0) e.put ∙ ap (λ (j : ℕ). get_or (set keys n (number s)) j 0) same
                ∙ get_or-set_same keys n (number s) 0 room;
            digits = e.digits;
          })
      | no other ↦
          let below : i < n = omega arith in
          let inside : i < length l = omega (arith, old.keyed.count) in
          let there = old.keyed.own i below in
          subst (λ (x : Simplex). NumberOf x (get_or keys' i 0)) (sym (get_or-append l (s ∷ []) [] i inside))
          (record {
            is = ap (λ (k : List ℕ). get_or k i 0) e.put ∙ get_or-set_other keys n i (number s) 0 other ∙ there.is;
            digits = there.digits;
          })
    ]

-- THE LOOP over a list: its first i simplices are entered.
pub record Indexing (l : List Simplex) (size : ℕ) (keys₀ next₀ keys first next : List ℕ) (i : ℕ) : Type 0 where
  pub whole : size ≡ length l
  pub within : i ≤ size
  pub keys_long : length keys ≡ length keys₀
  pub next_long : length next ≡ length next₀
  pub entered : Indexed (take i l) keys first next i

pub indexing-start : (l : List Simplex) (size : ℕ) {keys first next : List ℕ} → size ≡ length l → first ≡ replicate buckets 0
    → Indexing l size keys next keys first next 0
indexing-start l size e none =
    record { whole = e; within = omega arith; keys_long = refl; next_long = refl; entered = indexed-none none }

pub indexing-on : {l : List Simplex} {size : ℕ} {keys₀ next₀ keys first next keys' first' next' : List ℕ} {i : ℕ} (s : Simplex)
    → Indexing l size keys₀ next₀ keys first next i → i < size → i < length keys₀ → get_or l i [] ≡ s
    → Entered s keys keys' first' next' i → length keys' ≡ length keys → length next' ≡ length next
    → Indexing l size keys₀ next₀ keys' first' next' (i + 1)
indexing-on {l} {size} {keys₀} {next₀} {keys} {first} {next} {keys'} {first'} {next'} {i} s a lt room here e long long' =
    subst (Indexing l size keys₀ next₀ keys' first' next') (sym (add-one i))
    (record {
      whole = a.whole;
      within = omega arith;
      keys_long = long ∙ a.keys_long;
      next_long = long' ∙ a.next_long;
      entered =
          subst (λ (m : List Simplex). Indexed m keys' first' next' (suc i))
          (sym (take-suc l i [] (omega (arith, a.whole)) ∙ ap (λ (x : Simplex). take i l ++ (x ∷ [])) here))
          (indexed-more (take i l) s a.entered (omega (arith, a.keys_long)) e);
    })

pub indexing-end : {l : List Simplex} {size : ℕ} {keys₀ next₀ keys first next : List ℕ} {i : ℕ}
    → Indexing l size keys₀ next₀ keys first next i → size ≤ i → Indexed l keys first next size
indexing-end {l} {size} {keys = keys} {first = first} {next = next} {i = i} a end =
    let all : i ≡ size = omega (arith, a.within) in
    subst (Indexed l keys first next) all
    (subst (λ (m : List Simplex). Indexed m keys first next i) (take_all i l (omega (arith, a.whole))) a.entered)
