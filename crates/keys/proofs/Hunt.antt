-- The hunt for a key: place i stands behind a key of the key's bucket, or is 0, and what lies below i decides.
use Prim.Native.Nat.{ℕ, suc, ◌%◌, ◌≤◌, ◌<◌}
use mathlib.Core.Path.{◌≡◌, refl, sym, ap, ◌∙◌}
use mathlib.Core.Bool.{false}
use mathlib.Core.List.{List}
use native.Mathlib.Omega.{arith}
use Rattle.std.proofs.Common.{Some, None}
use lib.Dec.{eqb}
use lib.ListN.{get_or}
use borrow.Author.Tests.{eq-eqb, ne_eqb, eqb-true, eqb-false}
use Rattle.keys.specs.Chained.{Chained, last_below, in_bucket, buckets, place_of, last-hit, last-miss, last_within, last-passes, last-through}

pub record Hunt (keys first next : List ℕ) (n key i : ℕ) : Type 0 where
  pub chained : Chained keys first next n
  pub within : i ≤ n
  pub hit : (j : ℕ) → i ≡ suc j → get_or keys j 0 % buckets ≡ key % buckets
  pub rest : last_below (eqb key) keys n ≡ last_below (eqb key) keys i

-- a key of another bucket is another key
narrow : (key k : ℕ) → in_bucket (key % buckets) k ≡ false → eqb key k ≡ false
narrow key k e = ne_eqb key k (λ same. eqb-false (k % buckets) (key % buckets) e (ap (λ (x : ℕ). x % buckets) (sym same)))

-- going to the last key of the bucket below m passes no key that is asked for
module _ (keys first next : List ℕ) (n key m i : ℕ) (chained : Chained keys first next n) where
  onward : m ≤ n → i ≡ last_below (in_bucket (key % buckets)) keys m → last_below (eqb key) keys n ≡ last_below (eqb key) keys m
      → Hunt keys first next n key i
  onward l at rest = record {
    chained = chained;
    within = omega (arith, last_within (in_bucket (key % buckets)) keys m);
    hit = λ j e. eqb-true (get_or keys j 0 % buckets) (key % buckets) (last-passes (in_bucket (key % buckets)) keys m j (sym at ∙ e));
    rest = rest
        ∙ sym (last-through (eqb key) (in_bucket (key % buckets)) keys (narrow key) m)
        ∙ ap (last_below (eqb key) keys) (sym at);
  }

pub hunt-start : {keys first next : List ℕ} {n key i : ℕ} → Chained keys first next n → i ≡ get_or first (key % buckets) 0
    → Hunt keys first next n key i
hunt-start {keys} {first} {next} {n} {key} {i} c e =
    onward keys first next n key n i c (omega arith) (e ∙ c.begin (key % buckets) (omega arith)) refl

-- place j was reached
module _ {keys first next : List ℕ} {n key i j : ℕ} (h : Hunt keys first next n key i) (at : i ≡ suc j) where
  below : j < n
  below = omega (arith, h.within)

  falling : get_or next j 0 ≡ last_below (in_bucket (key % buckets)) keys j
  falling = h.chained.before j below ∙ ap (λ (b : ℕ). last_below (in_bucket b) keys j) (h.hit j at)

  rests : last_below (eqb key) keys n ≡ last_below (eqb key) keys (suc j)
  rests = h.rest ∙ ap (last_below (eqb key) keys) at

  pub hunt-found : get_or keys j 0 ≡ key → Some j ≡ place_of (last_below (eqb key) keys n)
  hunt-found e = ap place_of (sym (rests ∙ last-hit (eqb key) keys j (eq-eqb key (get_or keys j 0) (sym e))))

  pub hunt-on : (get_or keys j 0 ≡ key → ⊥) → Hunt keys first next n key (get_or next j 0)
  hunt-on e =
      onward keys first next n key j _ h.chained (omega (arith, below)) falling
      (rests ∙ last-miss (eqb key) keys j (ne_eqb key (get_or keys j 0) (λ s. e (sym s))))

  -- the chain falls
  pub hunt-falls : get_or next j 0 < i
  hunt-falls = omega (arith, falling, last_within (in_bucket (key % buckets)) keys j)

pub hunt-end : {keys first next : List ℕ} {n key i : ℕ} → Hunt keys first next n key i → i ≡ 0
    → None ≡ place_of (last_below (eqb key) keys n)
unfolding last_below
hunt-end {keys} {key = key} h none = ap place_of (sym (h.rest ∙ ap (last_below (eqb key) keys) none))
