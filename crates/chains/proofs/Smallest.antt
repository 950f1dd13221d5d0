-- Why: where the chains with a property differ by the members of a group K, a chain that holds the top rank of some
-- member of K becomes smaller by adding that member. And where it holds no such rank, any other chain with the property
-- differs from it at such a rank first, and so is larger. Document 001 calls such a chain irreducible (its Lemma 1).
use Rattle.std.specs.Prelude.{ℕ, ◌<◌, ◌≡◌, refl, Bool, true, false, ◌⊎◌, ◌↔◌}
use Rattle.std.proofs.Common.{sym, ◌∙◌, ap, subst, true≢false, inl, inr}
use Rattle.chains.specs.Chain.{Chain, differ, ◌⊕◌, empty, Under, Top, Smaller, Smallest}
use Rattle.chains.specs.Sum.{sum_self, sum-twice-left, same-of-sum}
use Rattle.chains.proofs.Order.{top_of, top-not-empty, top_unique, smaller-asymmetric}
use Rattle.chains.specs.Smallest.{Coset, Free, Group}

-- There is at most one smallest chain with a property.
pub smallest-unique : (Has : Chain → Type 0) (c d : Chain) → Smallest Has c → Smallest Has d → c ≡ d
smallest-unique Has c d sc sd = go (sc.least d sd.has) (sd.least c sc.has)
  where
    go : (c ≡ d) ⊎ Smaller c d → (d ≡ c) ⊎ Smaller d c → c ≡ d
    go (inl e) o = e
    go (inr s) (inl e) = sym e
    go (inr s) (inr t) = absurd (smaller-asymmetric c d s t)

-- The smallest chain depends only on which chains have the property.
pub smallest-same : (Has Has' : Chain → Type 0) (c : Chain) → ((d : Chain) → Has d ↔ Has' d) → Smallest Has c
    → Smallest Has' c
smallest-same Has Has' c same s =
    record { has = (same c).0 s.has; least = λ d h. s.least d ((same d).1 h) }

pub free-sum : (K : Chain → Type 0) (c d : Chain) → Free K c → Free K d → Free K (c ⊕ d)
free-sum K c d fc fd k i m t = rw (fc k i m t, fd k i m t)

pub free-empty : (K : Chain → Type 0) → Free K empty
free-empty K k i m t = refl

-- The smaller K is, the more chains are free of it.
pub free-fewer : (K L : Chain → Type 0) (c : Chain) → ((k : Chain) → L k → K k) → Free K c → Free L c
free-fewer K L c sub f k i m t = f k i (sub k m) t

-- No member of K but the empty chain is free of K.
pub free-member : (K : Chain → Type 0) (n : ℕ) (c : Chain) → Under n c → K c → Free K c → c ≡ empty
free-member K n c u m f = go (top_of n c u)
  where
    go : (c ≡ empty) ⊎ ((i : ℕ) × Top c i × (i < n)) → c ≡ empty
    go (inl e) = e
    go (inr t) = absurd (true≢false (sym t.1.holds ∙ f c t.0 m t.1))

module _ (K Has : Chain → Type 0) (n : ℕ) (group : Group K n) (coset : Coset K Has) where
  pub smallest-is-free : (c : Chain) → Smallest Has c → Free K c
  smallest-is-free c s k i m t = go (c i) refl
    where
      -- c ⊕ k has the property too, and gives up rank i, which it would have to hold to be larger.
      worse : c i ≡ true → (c ≡ c ⊕ k) ⊎ Smaller c (c ⊕ k) → ⊥
      worse e (inl same) =
          top-not-empty k i t (sym (sum-twice-left c k) ∙ ap (λ x. c ⊕ x) (sym same) ∙ sum_self c)
      worse e (inr less) =
          let here : less.rank ≡ i
          = top_unique k less.rank i (subst (λ x. Top x less.rank) (sum-twice-left c k) less.top) t in
          true≢false (sym less.in_q ∙ ap (c ⊕ k) here ∙ rw (e, t.holds))

      go : (b : Bool) → c i ≡ b → c i ≡ false
      go false e = e
      go true e = absurd (worse e (s.least (c ⊕ k) (coset.moved c k s.has m)))

  pub free-is-smallest : (c : Chain) → Has c → Free K c → Smallest Has c
  free-is-smallest c h f =
      record {
        has = h;
        least = λ d hd. let m = coset.apart c d h hd in go d m (top_of n (c ⊕ d) (group.under (c ⊕ d) m));
      }
    where
      go : (d : Chain) → K (c ⊕ d) → (c ⊕ d ≡ empty) ⊎ ((i : ℕ) × Top (c ⊕ d) i × (i < n)) → (c ≡ d) ⊎ Smaller c d
      go d m (inl e) = inl (same-of-sum c d e)
      go d m (inr t) =
          let out : c t.0 ≡ false = f (c ⊕ d) t.0 m t.1 in
          inr (record { rank = t.0; top = t.1; in_q = ap (λ b. differ b (d t.0)) (sym out) ∙ t.1.holds })

  -- Smallest means free of K, for any group K by whose members the chains in question differ.
  pub smallest-free : (c : Chain) → Smallest Has c ↔ (Has c × Free K c)
  smallest-free c = (λ s. (s.has, smallest-is-free c s), λ p. free-is-smallest c p.0 p.1)
