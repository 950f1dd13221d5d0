-- Why: two different chains have a highest rank at which they differ, and exactly one of them holds it. So of two
-- chains one is smaller, or they are equal, and never two of these at once.
use Rattle.std.specs.Prelude.{ℕ, zero, suc, ◌<◌, ◌≡◌, refl, Bool, true, false, ◌⊎◌, ◌≢◌}
use Rattle.std.proofs.Common.{sym, ◌∙◌, ap, subst, true≢false, inl, inr, arith}
use Rattle.std.proofs.Math.Path.{fun_ext}
use Rattle.std.proofs.lemmas.Bool.{false≢true}
use Rattle.std.proofs.Math.Decide.{dec_lt}
use Rattle.chains.specs.Chain.{Chain, differ, ◌⊕◌, empty, Under, Top, Smaller}
use Rattle.chains.specs.Sum.{differ_self, differ-false, sum_self, same-of-sum, under-sum}

-- One rank: `differ` says whether two members are the same.

pub differ_same : (a b : Bool) → differ a b ≡ false → a ≡ b
differ_same false b e = sym e
differ_same true true e = refl
differ_same true false e = e

pub differ-other : (a b : Bool) → differ a b ≡ true → b ≡ true → a ≡ false
differ-other false b e h = refl
differ-other true true e h = sym e
differ-other true false e h = absurd (false≢true h)

-- The highest rank.

pub top-not-empty : (c : Chain) (i : ℕ) → Top c i → c ≢ empty
top-not-empty c i t e = true≢false (sym t.holds ∙ ap (λ a. a i) e)

pub top_unique : (c : Chain) (i j : ℕ) → Top c i → Top c j → i ≡ j
top_unique c i j s t = go (dec_lt i j) (dec_lt j i)
  where
    go : Dec (i < j) → Dec (j < i) → i ≡ j
    go (yes lt) d = absurd (true≢false (sym t.holds ∙ s.above j lt))
    go (no ge) (yes gt) = absurd (true≢false (sym s.holds ∙ t.above i gt))
    go (no ge) (no le) = omega arith

pub top-under : (n : ℕ) (c : Chain) (i : ℕ) → Under n c → Top c i → i < n
top-under n c i u t = go (dec_lt i n)
  where
    go : Dec (i < n) → i < n
    go (yes lt) = lt
    go (no ge) = absurd (true≢false (sym t.holds ∙ u i (omega arith)))

pub under-zero : (c : Chain) → Under zero c → c ≡ empty
under-zero c u = fun_ext λ i. u i (omega arith)

-- A chain that does not hold its last rank stops below it.
pub under-less : (n : ℕ) (c : Chain) → Under (suc n) c → c n ≡ false → Under n c
under-less n c u e i le = go (dec_lt n i)
  where
    go : Dec (n < i) → c i ≡ false
    go (yes lt) = u i lt
    go (no ge) = let z : n ≡ i = omega arith in subst (λ k. c k ≡ false) z e

-- A chain of finitely many ranks is empty or has a highest one.
unfoldable pub top_of : (n : ℕ) (c : Chain) → Under n c → (c ≡ empty) ⊎ ((i : ℕ) × Top c i × (i < n))
top_of zero c u = inl (under-zero c u)
top_of (suc n) c u = go (λ e. top_of n c (under-less n c u e)) (c n) refl
  where
    wider : (c ≡ empty) ⊎ ((i : ℕ) × Top c i × (i < n)) → (c ≡ empty) ⊎ ((i : ℕ) × Top c i × (i < suc n))
    wider (inl e) = inl e
    wider (inr t) = inr (t.0, t.1, omega (arith, t.2))

    go : (c n ≡ false → (c ≡ empty) ⊎ ((i : ℕ) × Top c i × (i < n))) → (b : Bool) → c n ≡ b
        → (c ≡ empty) ⊎ ((i : ℕ) × Top c i × (i < suc n))
    go less true e = inr (n, record { holds = e; above = λ j h. u j h }, omega arith)
    go less false e = wider (less e)

-- Equality of such chains is decided.
unfoldable pub same_or_not : (n : ℕ) (a b : Chain) → Under n a → Under n b → Dec (a ≡ b)
same_or_not n a b ua ub = go (top_of n (a ⊕ b) (under-sum n a b ua ub))
  where
    go : (a ⊕ b ≡ empty) ⊎ ((i : ℕ) × Top (a ⊕ b) i × (i < n)) → Dec (a ≡ b)
    go (inl e) = yes (same-of-sum a b e)
    go (inr t) = no (λ e. top-not-empty (a ⊕ b) t.0 t.1 (ap (λ x. x ⊕ b) e ∙ sum_self b))

-- P smaller than Q, in parts: Q holds the rank, P does not, and above it they agree.

pub smaller-at : (P Q : Chain) (r : ℕ) → P r ≡ false → Q r ≡ true → ((j : ℕ) → r < j → P j ≡ Q j) → Smaller P Q
smaller-at P Q r out in' agree =
    record {
      rank = r;
      top = record { holds = rw (out, in'); above = λ j h. ap (λ b. differ b (Q j)) (agree j h) ∙ differ_self (Q j) };
      in_q = in';
    }

pub smaller-out : (P Q : Chain) (s : Smaller P Q) → P s.rank ≡ false
smaller-out P Q s = differ-other (P s.rank) (Q s.rank) s.top.holds s.in_q

pub smaller-above : (P Q : Chain) (s : Smaller P Q) (j : ℕ) → s.rank < j → P j ≡ Q j
smaller-above P Q s j h = differ_same (P j) (Q j) (s.top.above j h)

-- The order is strict and total.

pub smaller-irreflexive : (P : Chain) → Smaller P P → ⊥
smaller-irreflexive P s = true≢false (sym s.in_q ∙ smaller-out P P s)

pub smaller-transitive : (P Q R : Chain) → Smaller P Q → Smaller Q R → Smaller P R
smaller-transitive P Q R s t = go (dec_lt s.rank t.rank) (dec_lt t.rank s.rank)
  where
    agree : (j : ℕ) → s.rank < j → t.rank < j → P j ≡ R j
    agree j h k = smaller-above P Q s j h ∙ smaller-above Q R t j k

    go : Dec (s.rank < t.rank) → Dec (t.rank < s.rank) → Smaller P R
    go (yes lt) d =
        smaller-at P R t.rank (smaller-above P Q s t.rank lt ∙ smaller-out Q R t) t.in_q
        (λ j h. agree j (omega arith) h)
    go (no ge) (yes gt) =
        smaller-at P R s.rank (smaller-out P Q s) (sym (smaller-above Q R t s.rank gt) ∙ s.in_q)
        (λ j h. agree j h (omega arith))
    go (no ge) (no le) =
        let z : s.rank ≡ t.rank = omega arith in
        absurd (true≢false (sym s.in_q ∙ ap Q z ∙ smaller-out Q R t))

pub smaller-asymmetric : (P Q : Chain) → Smaller P Q → Smaller Q P → ⊥
smaller-asymmetric P Q s t = smaller-irreflexive P (smaller-transitive P Q P s t)

pub smaller-total : (n : ℕ) (P Q : Chain) → Under n P → Under n Q → (P ≡ Q) ⊎ (Smaller P Q) ⊎ (Smaller Q P)
smaller-total n P Q up uq = go (top_of n (P ⊕ Q) (under-sum n P Q up uq))
  where
    at : (i : ℕ) → Top (P ⊕ Q) i → (b : Bool) → Q i ≡ b → (Smaller P Q) ⊎ (Smaller Q P)
    at i t true e = inl (record { rank = i; top = t; in_q = e })
    at i t false e =
        inr (smaller-at Q P i e (sym (differ-false (P i)) ∙ ap (differ (P i)) (sym e) ∙ t.holds)
        (λ j h. sym (differ_same (P j) (Q j) (t.above j h))))

    go : (P ⊕ Q ≡ empty) ⊎ ((i : ℕ) × Top (P ⊕ Q) i × (i < n)) → (P ≡ Q) ⊎ (Smaller P Q) ⊎ (Smaller Q P)
    go (inl e) = inl (same-of-sum P Q e)
    go (inr t) = inr (at t.0 t.1 (Q t.0) refl)
