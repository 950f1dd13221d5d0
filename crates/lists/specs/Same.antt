-- To be the same simplex is to have the same vertices, and an equivalence.
use Rattle.std.specs.Prelude.{ℕ, ◌≡◌, refl, List, [], ◌∷◌, ◌&&◌, ◌==◌}
use Rattle.std.proofs.Common.{sym, ◌∙◌, ap}
use Rattle.std.specs.Cmp.{IsPartialEquivalence, IsEquivalence, partial_equiv_from_equiv, nat_eq_equiv, on_equiv}
use Rattle.std.specs.Cmp.Lexicographic.{pointwise, lists_equiv}
use Rattle.std.specs.Ordering.{on}
use Rattle.format.specs.Simplex.{same}
use Rattle.format.specs.Listed.{same_refl, same-equal}

pub pointwise-same : (s t : List ℕ) → pointwise ◌==◌ s t ≡ same s t
unfolding same
pointwise-same [] [] = refl
pointwise-same [] (b ∷ t) = refl
pointwise-same (a ∷ s) [] = refl
pointwise-same (a ∷ s) (b ∷ t) = ap (◌&&◌ (a == b)) (pointwise-same s t)

same-equivalence : IsEquivalence same
same-equivalence =
    record {
      refl = same_refl;
      symm = λ s t. sym (pointwise-same s t) ∙ (lists_equiv nat_eq_equiv).symm s t ∙ pointwise-same t s;
      congr = λ s t u e. ap (λ r. same r u) (same-equal s t e);
    }

pub same_always : {A : Type 0} (f : A → List ℕ) → IsEquivalence (on f same)
same_always f = on_equiv f same-equivalence

pub same_of : {A : Type 0} (f : A → List ℕ) → IsPartialEquivalence (on f same)
same_of f = partial_equiv_from_equiv (same_always f)
