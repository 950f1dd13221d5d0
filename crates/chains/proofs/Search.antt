-- Why: there are finitely many chains of n ranks, and the smallest one with a property that can be tested is found by
-- looking first, rank by rank from the highest down, among the chains that do not hold the rank. So a smallest filling
-- exists where any filling does, it can be told whether one does, and every class has a smallest chain.
use Rattle.std.specs.Prelude.{ℕ, zero, suc, ◌<◌, ◌≡◌, refl, Bool, true, false, ◌⊎◌, ◌↔◌}
use Rattle.std.proofs.Common.{sym, ◌∙◌, ap, subst, inl, inr, arith}
use Rattle.chains.specs.Chain.{Chain, differ, ◌⊕◌, empty, unit, Under, Top, Smaller, Smallest, boundary, Fills, InClass, SmallestFilling, SmallestInClass}
use Rattle.chains.specs.Sum.{differ-false, sum-assoc, sum_comm, sum_self, sum_twice, under-empty, under-sum, under_more}
use Rattle.chains.specs.Search.{Found}
use Rattle.chains.specs.Boundary.{unit-here, unit-else, under-unit, boundary-empty, boundary-under}
use Rattle.chains.proofs.Order.{top-under, under-zero, under-less, same_or_not, smaller-at}
use Rattle.chains.proofs.Smallest.{smallest-same}

-- A chain moves to the other side of a comparison that is decided at a rank that it does not hold.
pub smaller-moved : (P Q k : Chain) (s : Smaller P (Q ⊕ k)) → k s.rank ≡ false → Smaller (P ⊕ k) Q
smaller-moved P Q k s e =
    record {
      rank = s.rank;
      top = subst (λ x. Top x s.rank) (ap (λ x. P ⊕ x) (sum_comm Q k) ∙ sym (sum-assoc P k Q)) s.top;
      in_q = sym (differ-false (Q s.rank)) ∙ ap (differ (Q s.rank)) (sym e) ∙ s.in_q;
    }

-- Rank n is put into a chain below it, or taken out of one that holds it as its last.

pub last-in : (n : ℕ) (c : Chain) → Under n c → Under (suc n) (c ⊕ unit n)
last-in n c u =
    under-sum (suc n) c (unit n) (under_more n (suc n) c (omega arith) u) (under-unit n (suc n) (omega arith))

pub last_out : (n : ℕ) (c : Chain) → Under (suc n) c → c n ≡ true → Under n (c ⊕ unit n)
last_out n c u e =
    under-less n (c ⊕ unit n) (under-sum (suc n) c (unit n) u (under-unit n (suc n) (omega arith)))
    (rw (e, unit-here n))

module _ (n : ℕ) (P : Chain → Type 0) where
  -- Where some chain below rank n has the property, the smallest of these is the smallest of all below rank n + 1.
  pub lower : (s : Chain) → Smallest (λ c. Under n c × P c) s → Smallest (λ c. Under (suc n) c × P c) s
  lower s found =
      record {
        has = (under_more n (suc n) s (omega arith) found.has.0, found.has.1);
        least = λ d h. go d h (d n) refl;
      }
    where
      go : (d : Chain) → Under (suc n) d × P d → (b : Bool) → d n ≡ b → (s ≡ d) ⊎ Smaller s d
      go d h false e = found.least d (under-less n d h.0 e, h.1)
      go d h true e =
          inr (smaller-at s d n (found.has.0 n (omega arith)) e
          (λ j lt. found.has.0 j (omega arith) ∙ sym (h.0 j lt)))

  -- Where none has it, each chain with the property holds rank n: the smallest is found by leaving that rank out.
  pub higher : ((c : Chain) → Under n c × P c → ⊥) → (s : Chain) → Smallest (λ c. Under n c × P (c ⊕ unit n)) s
      → Smallest (λ c. Under (suc n) c × P c) (s ⊕ unit n)
  higher none s found =
      record {
        has = (last-in n s found.has.0, found.has.1);
        least = λ d h. go d h (d n) refl;
      }
    where
      back : (d : Chain) → Under n (d ⊕ unit n) → (s ≡ d ⊕ unit n) ⊎ Smaller s (d ⊕ unit n)
          → (s ⊕ unit n ≡ d) ⊎ Smaller (s ⊕ unit n) d
      back d u (inl e) = inl (ap (λ x. x ⊕ unit n) e ∙ sum_twice d (unit n))
      back d u (inr less) =
          let below : less.rank < n
          = top-under n (s ⊕ (d ⊕ unit n)) less.rank (under-sum n s (d ⊕ unit n) found.has.0 u) less.top in
          inr (smaller-moved s d (unit n) less (unit-else n less.rank (omega arith)))

      go : (d : Chain) → Under (suc n) d × P d → (b : Bool) → d n ≡ b → (s ⊕ unit n ≡ d) ⊎ Smaller (s ⊕ unit n) d
      go d h false e = absurd (none d (under-less n d h.0 e, h.1))
      go d h true e =
          let u : Under n (d ⊕ unit n) = last_out n d h.0 e in
          back d u (found.least (d ⊕ unit n) (u, subst P (sym (sum_twice d (unit n))) h.1))

  -- And where there is none either way, there is none.
  pub neither : ((c : Chain) → Under n c × P c → ⊥) → ((c : Chain) → Under n c × P (c ⊕ unit n) → ⊥)
      → (c : Chain) → Under (suc n) c × P c → ⊥
  neither none none' c h = go (c n) refl
    where
      go : (b : Bool) → c n ≡ b → ⊥
      go false e = none c (under-less n c h.0 e, h.1)
      go true e =
          none' (c ⊕ unit n) (last_out n c h.0 e, subst P (sym (sum_twice c (unit n))) h.1)

-- The smallest chain of n ranks with a property that can be tested is found, or it is found that there is none.
unfoldable pub search_all : (n : ℕ) (P : Chain → Type 0) → ((c : Chain) → Under n c → Dec (P c)) → Found (λ c. Under n c × P c)
search_all zero P test = go (test empty (under-empty zero))
  where
    go : Dec (P empty) → Found (λ c. Under zero c × P c)
    go (yes p) =
        inl (empty, record { has = (under-empty zero, p); least = λ d h. inl (sym (under-zero d h.0)) })
    go (no q) = inr (λ c h. q (subst P (under-zero c h.0) h.1))
search_all (suc n) P test =
    go (search_all n P (λ c u. test c (under_more n (suc n) c (omega arith) u)))
    (search_all n (λ c. P (c ⊕ unit n)) (λ c u. test (c ⊕ unit n) (last-in n c u)))
  where
    go : Found (λ c. Under n c × P c) → Found (λ c. Under n c × P (c ⊕ unit n)) → Found (λ c. Under (suc n) c × P c)
    go (inl s) o = inl (s.0, lower n P s.0 s.1)
    go (inr none) (inl s) = inl (s.0 ⊕ unit n, higher n P none s.0 s.1)
    go (inr none) (inr none') = inr (neither n P none none')

-- What is found depends only on which chains have the property.
unfoldable pub found_same : (Has Has' : Chain → Type 0) → ((d : Chain) → Has d ↔ Has' d) → Found Has → Found Has'
found_same Has Has' same (inl s) = inl (s.0, smallest-same Has Has' s.0 same s.1)
found_same Has Has' same (inr none) = inr (λ c h. none c ((same c).1 h))

module _ (D : ℕ → Chain) (n m : ℕ) (columns : (i : ℕ) → i < n → Under m (D i)) where
  unfoldable pub filling_found : (A : Chain) → Under m A → Found (Fills D n A)
  filling_found A u =
      found_same (λ c. Under n c × (boundary D n c ≡ A)) (Fills D n A)
      (λ d. (λ p. record { under = p.0; bounds = p.1 }, λ f. (f.under, f.bounds)))
      (search_all n (λ c. boundary D n c ≡ A)
      (λ c _. same_or_not m (boundary D n c) A (boundary-under D n m c columns) u))

  -- It can be told whether A has a filling.
  unfoldable pub fills_or_not : (A : Chain) → Under m A → ((c : Chain) × Fills D n A c) ⊎ ((c : Chain) → Fills D n A c → ⊥)
  fills_or_not A u = go (filling_found A u)
    where
      go : Found (Fills D n A) → ((c : Chain) × Fills D n A c) ⊎ ((c : Chain) → Fills D n A c → ⊥)
      go (inl s) = inl (s.0, s.1.has)
      go (inr none) = inr none

  -- Where A has a filling, it has a smallest one.
  pub smallest-filling-exists : (A c : Chain) → Fills D n A c → (s : Chain) × SmallestFilling D n A s
  smallest-filling-exists A c f = go (filling_found A (subst (Under m) f.bounds (boundary-under D n m c columns)))
    where
      go : Found (Fills D n A) → (s : Chain) × SmallestFilling D n A s
      go (inl s) = s
      go (inr none) = absurd (none c f)

  -- Every chain's class has a smallest chain.
  unfoldable pub smallest_in_class_exists : (A : Chain) → Under m A → (s : Chain) × SmallestInClass D n m A s
  smallest_in_class_exists A u = go (found_same (λ G. Under m G × Joined G) (InClass D n m A) same (search_all m Joined test))
    where
      -- G and A together bound
      Joined : Chain → Type 0
      Joined G = (x : Chain) × Under n x × (G ⊕ A ≡ boundary D n x)

      test : (G : Chain) → Under m G → Dec (Joined G)
      test G ug = told (fills_or_not (G ⊕ A) (under-sum m G A ug u))
        where
          told : ((c : Chain) × Fills D n (G ⊕ A) c) ⊎ ((c : Chain) → Fills D n (G ⊕ A) c → ⊥) → Dec (Joined G)
          told (inl f) = yes (f.0, f.1.under, sym f.1.bounds)
          told (inr none) = no (λ j. none j.0 (record { under = j.1; bounds = sym j.2 }))

      same : (G : Chain) → (Under m G × Joined G) ↔ InClass D n m A G
      same G = (
        λ p. record { under = p.0; by = p.1.0; by_under = p.1.1; bounds = p.1.2 },
        λ g. (g.under, (g.by, g.by_under, g.bounds)),
      )

      go : Found (InClass D n m A) → (s : Chain) × SmallestInClass D n m A s
      go (inl s) = s
      go (inr none) =
          absurd (none A (record {
            under = u;
            by = empty;
            by_under = under-empty n;
            bounds = sum_self A ∙ sym (boundary-empty D n);
          }))
