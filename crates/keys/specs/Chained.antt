-- The look-up of a key without going through all keys: each bucket leads to its last key, each key to the one before it in
-- the same bucket. A key that is met last is the last of its kind, so the answer is stated without buckets.
use Rattle.std.specs.Prelude.{ℕ, zero, suc, ◌%◌, ◌≤◌, ◌<◌, ◌≡◌, refl, Bool, true, false, cond, Option, Some, None, List, eqb, length, get_or, set, replicate}
use Rattle.std.proofs.Common.{sym, ap, ap₂, ◌∙◌, subst, arith, length-set, get_or-set_same, get_or-set_other, eq-eqb, ne_eqb}
use Rattle.std.proofs.lemmas.List.{length-replicate}
use Rattle.std.proofs.Math.Decide.{ℕ_discrete}

-- one more than the last place below n whose key passes the test, 0 where none does
unfoldable pub last_below : (ℕ → Bool) → List ℕ → ℕ → ℕ
last_below p l zero = zero
last_below p l (suc n) = cond (p (get_or l n 0)) (suc n) (last_below p l n)

-- that place
abbrev pub place_of : ℕ → Option ℕ
place_of zero = None
place_of (suc i) = Some i

abbrev pub buckets : ℕ
buckets = 1021

abbrev pub in_bucket : ℕ → ℕ → Bool
in_bucket b k = eqb (k % buckets) b

-- the first n keys, chained
pub record Chained (keys first next : List ℕ) (n : ℕ) : Type 0 where
  pub keyed : n ≤ length keys
  pub linked : n ≤ length next
  pub spread : length first ≡ buckets
  pub begin : (b : ℕ) → b < buckets → get_or first b 0 ≡ last_below (in_bucket b) keys n
  pub before : (i : ℕ) → i < n → get_or next i 0 ≡ last_below (in_bucket (get_or keys i 0 % buckets)) keys i

-- what `link` leaves: the key stands at n, and the first n + 1 keys are chained
pub record Linked (keys keys' first' next' : List ℕ) (n key : ℕ) : Type 0 where
  pub put : keys' ≡ set keys n key
  pub chained : Chained keys' first' next' (suc n)

-- ---- the equations

pub last-hit : (p : ℕ → Bool) (l : List ℕ) (n : ℕ) → p (get_or l n 0) ≡ true → last_below p l (suc n) ≡ suc n
unfolding last_below
last-hit p l n e = ap (λ (b : Bool). cond b (suc n) (last_below p l n)) e

pub last-miss : (p : ℕ → Bool) (l : List ℕ) (n : ℕ) → p (get_or l n 0) ≡ false → last_below p l (suc n) ≡ last_below p l n
unfolding last_below
last-miss p l n e = ap (λ (b : Bool). cond b (suc n) (last_below p l n)) e

pub last_within : (p : ℕ → Bool) (l : List ℕ) (n : ℕ) → last_below p l n ≤ n
unfolding last_below
last_within p l zero = omega arith
last_within p l (suc n) = go (p (get_or l n 0)) refl (last_within p l n)
  where
    go : (b : Bool) → p (get_or l n 0) ≡ b → last_below p l n ≤ n → last_below p l (suc n) ≤ suc n
    go true h rec = omega (arith, last-hit p l n h)
    go false h rec = omega (arith, last-miss p l n h)

-- what was met last passes the test
pub last-passes : (p : ℕ → Bool) (l : List ℕ) (n j : ℕ) → last_below p l n ≡ suc j → p (get_or l j 0) ≡ true
unfolding last_below
last-passes p l zero j e = absurd (omega arith)
last-passes p l (suc n) j e = go (p (get_or l n 0)) refl (last-passes p l n j)
  where
    go : (b : Bool) → p (get_or l n 0) ≡ b → (last_below p l n ≡ suc j → p (get_or l j 0) ≡ true) → p (get_or l j 0) ≡ true
    go true h rec =
        let same : n ≡ j = omega (arith, last-hit p l n h) in
        subst (λ (m : ℕ). p (get_or l m 0) ≡ true) same h
    go false h rec = rec (sym (last-miss p l n h) ∙ e)

-- where none was met, none passes the test
pub last_none : (p : ℕ → Bool) (l : List ℕ) (n : ℕ) → last_below p l n ≡ 0 → (i : ℕ) → i < n → p (get_or l i 0) ≡ false
unfolding last_below
last_none p l zero e i lt = absurd (omega arith)
last_none p l (suc n) e i lt = go (p (get_or l n 0)) refl (last_none p l n)
  where
    go : (b : Bool) → p (get_or l n 0) ≡ b → (last_below p l n ≡ 0 → (i : ℕ) → i < n → p (get_or l i 0) ≡ false) → p (get_or l i 0) ≡ false
    go true h rec = absurd (omega (arith, last-hit p l n h))
    go false h rec = elim (ℕ_discrete i n) [
      | yes same ↦ ap (λ (m : ℕ). p (get_or l m 0)) same ∙ h
      | no other ↦ rec (sym (last-miss p l n h) ∙ e) i (omega arith)
    ]

-- behind the last key of a bucket there is no key of that bucket
pub last-through : (p q : ℕ → Bool) (l : List ℕ) → ((k : ℕ) → q k ≡ false → p k ≡ false) → (n : ℕ)
    → last_below p l (last_below q l n) ≡ last_below p l n
unfolding last_below
last-through p q l narrow zero = refl
last-through p q l narrow (suc n) = go (q (get_or l n 0)) refl (last-through p q l narrow n)
  where
    go : (b : Bool) → q (get_or l n 0) ≡ b → last_below p l (last_below q l n) ≡ last_below p l n
        → last_below p l (last_below q l (suc n)) ≡ last_below p l (suc n)
    go true h rec = ap (last_below p l) (last-hit q l n h)
    go false h rec = ap (last_below p l) (last-miss q l n h) ∙ rec ∙ sym (last-miss p l n (narrow (get_or l n 0) h))

-- ---- one key more

-- a key put in at n changes nothing below n
pub last_set : (p : ℕ → Bool) (l : List ℕ) (n key m : ℕ) → m ≤ n → last_below p (set l n key) m ≡ last_below p l m
unfolding last_below
last_set p l n key zero h = refl
last_set p l n key (suc m) h =
    ap₂ (λ (k b : ℕ). cond (p k) (suc m) b) (get_or-set_other l n m key 0 (λ e. omega arith)) (last_set p l n key m (omega arith))

-- the chains with one key more: its bucket leads to it, and it leads where the bucket led
module _ (keys first next : List ℕ) (n key : ℕ) (c : Chained keys first next n) (room : n < length keys) (link : n < length next) where
  abbrev bucket : ℕ
  bucket = key % buckets

  abbrev keys' : List ℕ
  keys' = set keys n key

  here : get_or keys' n 0 ≡ key
  here = get_or-set_same keys n key 0 room

  begins : (b : ℕ) → b < buckets → get_or (set first bucket (suc n)) b 0 ≡ last_below (in_bucket b) keys' (suc n)
  begins b l = elim (ℕ_discrete b bucket) [
    | yes e ↦
        ap (λ (x : ℕ). get_or (set first bucket (suc n)) x 0) e
        ∙ get_or-set_same first bucket (suc n) 0 (omega (arith, c.spread))
        ∙ sym (last-hit (in_bucket b) keys' n (eq-eqb _ b (ap (λ (k : ℕ). k % buckets) here ∙ sym e)))
    | no other ↦
        get_or-set_other first bucket b (suc n) 0 other
        ∙ c.begin b l
        ∙ sym (last_set (in_bucket b) keys n key n (omega arith))
        ∙ sym (last-miss (in_bucket b) keys' n (ne_eqb _ b (λ e. other (sym e ∙ ap (λ (k : ℕ). k % buckets) here))))
  ]

  befores : (i : ℕ) → i < suc n
      → get_or (set next n (get_or first bucket 0)) i 0 ≡ last_below (in_bucket (get_or keys' i 0 % buckets)) keys' i
  befores i l = elim (ℕ_discrete i n) [
    | yes e ↦
        subst
        (λ (m : ℕ). get_or (set next n (get_or first bucket 0)) m 0 ≡ last_below (in_bucket (get_or keys' m 0 % buckets)) keys' m)
        (sym e)
        (get_or-set_same next n _ 0 link
        ∙ c.begin bucket (omega arith)
        ∙ sym (last_set (in_bucket bucket) keys n key n (omega arith))
        ∙ ap (λ (k : ℕ). last_below (in_bucket (k % buckets)) keys' n) (sym here))
    | no other ↦
        get_or-set_other next n i _ 0 other
        ∙ c.before i (omega arith)
        ∙ sym (last_set (in_bucket (get_or keys i 0 % buckets)) keys n key i (omega arith))
        ∙ ap (λ (k : ℕ). last_below (in_bucket (k % buckets)) keys' i) (sym (get_or-set_other keys n i key 0 other))
  ]

  pub chained_more : Chained keys' (set first bucket (suc n)) (set next n (get_or first bucket 0)) (suc n)
  chained_more = record {
    keyed = omega (arith, length-set keys n key);
    linked = omega (arith, length-set next n (get_or first bucket 0));
    spread = length-set first bucket (suc n) ∙ c.spread;
    begin = begins;
    before = befores;
  }

pub linked : {keys first next : List ℕ} {n key : ℕ} (v : ℕ) → Chained keys first next n → n < length keys → n < length next → v ≡ suc n
    → Linked keys (set keys n key) (set first (key % buckets) v) (set next n (get_or first (key % buckets) 0)) n key
linked {keys} {first} {next} {n} {key} v c room link e = record {
  put = refl;
  chained = subst
      (λ (x : ℕ). Chained (set keys n key) (set first (key % buckets) x) (set next n (get_or first (key % buckets) 0)) (suc n))
      (sym e)
      (chained_more keys first next n key c room link);
}

abbrev no_keys : ℕ → List ℕ
no_keys n = replicate n 0

zeros : (n b : ℕ) → get_or (no_keys n) b 0 ≡ 0
zeros zero b = refl
zeros (suc n) zero = refl
zeros (suc n) (suc b) = zeros n b

-- no key at all: each bucket leads nowhere
pub chained-none : (keys next : List ℕ) → Chained keys (replicate buckets 0) next 0
unfolding last_below
chained-none keys next = record {
  keyed = omega arith;
  linked = omega arith;
  spread = length-replicate {A = ℕ} buckets 0;
  begin = λ b l. zeros buckets b;
  before = λ i l. absurd (omega arith);
}
