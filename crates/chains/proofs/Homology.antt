-- Why: two fillings of A differ by a cycle, and two chains of one class by a boundary. Cycles form a group, and so do
-- boundaries, so the smallest filling and the smallest chain of a class are the ones free of cycles and of boundaries.
use Rattle.std.specs.Prelude.{ℕ, ◌<◌, ◌≡◌, ◌↔◌}
use Rattle.std.proofs.Common.{sym, ◌∙◌, ap, ap₂, subst}
use Rattle.chains.specs.Chain.{Chain, ◌⊕◌, empty, Under, boundary, Fills, InClass, SmallestFilling, SmallestInClass}
use Rattle.chains.specs.Sum.{sum_self, sum-empty, sum-shared, sum-last, under-empty, under-sum}
use Rattle.chains.specs.Boundary.{boundary-sum, boundary-empty, boundary-under, boundary-boundary}
use Rattle.chains.specs.Smallest.{Group, Coset, Free}
use Rattle.chains.proofs.Smallest.{free-empty, smallest-free}
use Rattle.chains.specs.Homology.{Bounds, Cycle}

module _ (D : ℕ → Chain) (n : ℕ) where
  pub cycles-group : Group (Cycle D n) n
  cycles-group =
      record {
        none = record { under = under-empty n; closed = boundary-empty D n };
        sum = λ a b ca cb.
            record {
              under = under-sum n a b ca.under cb.under;
              closed = boundary-sum D n a b ∙ ap₂ ◌⊕◌ ca.closed cb.closed;
            };
        under = λ k ck. ck.under;
      }

  -- Two fillings of one chain differ by a cycle.
  pub fillings-coset : (A : Chain) → Coset (Cycle D n) (Fills D n A)
  fillings-coset A =
      record {
        apart = λ c d fc fd.
            record {
              under = under-sum n c d fc.under fd.under;
              closed = boundary-sum D n c d ∙ ap₂ ◌⊕◌ fc.bounds fd.bounds ∙ sum_self A;
            };
        moved = λ c k fc ck.
            record {
              under = under-sum n c k fc.under ck.under;
              bounds = boundary-sum D n c k ∙ ap₂ ◌⊕◌ fc.bounds ck.closed ∙ sum-empty A;
            };
      }

  -- A filling is the smallest exactly when it holds no rank that is the highest of a cycle.
  pub smallest-filling : (A c : Chain) → SmallestFilling D n A c ↔ (Fills D n A c × Free (Cycle D n) c)
  smallest-filling A c = smallest-free (Cycle D n) (Fills D n A) n cycles-group (fillings-coset A) c

  -- The fillings of two chains add up to a filling of their sum.
  pub fills-sum : (A B c d : Chain) → Fills D n A c → Fills D n B d → Fills D n (A ⊕ B) (c ⊕ d)
  fills-sum A B c d fc fd =
      record {
        under = under-sum n c d fc.under fd.under;
        bounds = boundary-sum D n c d ∙ ap₂ ◌⊕◌ fc.bounds fd.bounds;
      }

  -- "filling an empty A gives the empty chain"
  pub smallest-filling-of-empty : SmallestFilling D n empty empty
  smallest-filling-of-empty =
      (smallest-filling empty empty).1
      (record { under = under-empty n; bounds = boundary-empty D n }, free-empty (Cycle D n))

  -- Only a chain with an empty boundary has a filling, where the boundary of every column is empty.
  pub fills-closed : (E : ℕ → Chain) (m : ℕ) (A c : Chain) → ((i : ℕ) → i < n → boundary E m (D i) ≡ empty) → Fills D n A c
      → boundary E m A ≡ empty
  fills-closed E m A c columns f = ap (boundary E m) (sym f.bounds) ∙ boundary-boundary E D m n c columns

module _ (D : ℕ → Chain) (n m : ℕ) (columns : (i : ℕ) → i < n → Under m (D i)) where
  pub boundaries-group : Group (Bounds D n) m
  boundaries-group =
      record {
        none = record { by = empty; by_under = under-empty n; bounds = boundary-empty D n };
        sum = λ a b ba bb.
            record {
              by = ba.by ⊕ bb.by;
              by_under = under-sum n ba.by bb.by ba.by_under bb.by_under;
              bounds = boundary-sum D n ba.by bb.by ∙ ap₂ ◌⊕◌ ba.bounds bb.bounds;
            };
        under = λ k bk. subst (Under m) bk.bounds (boundary-under D n m bk.by columns);
      }

  -- Two chains of one class differ by a boundary.
  pub class-coset : (A : Chain) → Coset (Bounds D n) (InClass D n m A)
  class-coset A =
      record {
        apart = λ c d ic id.
            record {
              by = ic.by ⊕ id.by;
              by_under = under-sum n ic.by id.by ic.by_under id.by_under;
              bounds =
                  boundary-sum D n ic.by id.by
                  ∙ ap₂ ◌⊕◌ (sym ic.bounds) (sym id.bounds)
                  ∙ sum-shared c d A;
            };
        moved = λ c k ic bk.
            record {
              under = under-sum m c k ic.under (boundaries-group.under k bk);
              by = ic.by ⊕ bk.by;
              by_under = under-sum n ic.by bk.by ic.by_under bk.by_under;
              bounds =
                  sum-last c k A
                  ∙ ap₂ ◌⊕◌ ic.bounds (sym bk.bounds)
                  ∙ sym (boundary-sum D n ic.by bk.by);
            };
      }

  -- A chain of the class is the smallest exactly when it holds no rank that is the highest of a boundary.
  pub smallest-in-class : (A c : Chain) → SmallestInClass D n m A c ↔ (InClass D n m A c × Free (Bounds D n) c)
  smallest-in-class A c = smallest-free (Bounds D n) (InClass D n m A) m boundaries-group (class-coset A) c
