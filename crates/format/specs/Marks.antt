-- A set of simplices as marks, one for each place of a list: what a chain record or a walk marks. Why: no list holds a
-- simplex twice, so a simplex is named exactly where its own place is.
use Rattle.std.specs.Prelude.{ℕ, zero, suc, ◌+◌, ◌≤◌, ◌<◌, ◌≡◌, refl, Bool, true, false, not, ◌||◌, cond, List, [], ◌∷◌, length, get_or, eqb, leb, ltb}
use Rattle.std.proofs.Common.{sym, ◌∙◌, ap, ap₂, subst, arith, eq-eqb, ne_eqb, ltb-true}
use Rattle.std.proofs.Math.Decide.{ℕ_discrete}
use Rattle.format.specs.Numbers.{Limits, chain_item}
use Rattle.format.specs.Simplex.{Simplex, Complex, same, rank, ranked, listed, all_below, simplices, vertex_list}
use Rattle.format.specs.Reading.{Reading, accepted, refused, refuse_if, ◌and_then◌, rising_below, named, read_steps}
use Rattle.format.specs.Listed.{and-true, same_refl, same-equal, rank-stands}
use Rattle.format.specs.Lookup.{differ_same}
use Rattle.format.specs.Sound.{copies, copies-append, one_place, SoundComplex}

-- CHECKS IN A ROW. A reading that hands back what it was given is its checks, and then what follows.
unfoldable pub check_positions : {A : Type 0} (count at least : ℕ) → List ℕ → Reading A → Reading A
check_positions count at least [] next = next
check_positions count at least (p ∷ ps) next =
    refuse_if (ltb p least || leb count p) chain_item at (check_positions count (at + 2) (suc p) ps next)

pub positions-then : {A : Type 0} (count at least : ℕ) (ps : List ℕ) (f : List ℕ → Reading A) → rising_below count at least ps and_then f ≡ check_positions count at least ps (f ps)
unfolding rising_below check_positions
positions-then count at least [] f = refl
positions-then count at least (p ∷ ps) f = go (ltb p least || leb count p) (positions-then count (at + 2) (suc p) ps (λ rest. f (p ∷ rest))) (rising_below count (at + 2) (suc p) ps) refl
  where
    go : (x : Bool) → rising_below count (at + 2) (suc p) ps and_then (λ rest. f (p ∷ rest)) ≡ check_positions count (at + 2) (suc p) ps (f (p ∷ ps)) → (r : Reading (List ℕ)) → rising_below count (at + 2) (suc p) ps ≡ r
        → refuse_if x chain_item at (r and_then λ rest. accepted (p ∷ rest)) and_then f ≡ refuse_if x chain_item at (check_positions count (at + 2) (suc p) ps (f (p ∷ ps)))
    go true ih r e = refl
    go false ih (accepted rest) e = ap (λ x. x and_then (λ rest. f (p ∷ rest))) (sym e) ∙ ih
    go false ih (refused n q) e = ap (λ x. x and_then (λ rest. f (p ∷ rest))) (sym e) ∙ ih

unfoldable pub check_steps : {A : Type 0} (edges : List Simplex) (at : ℕ) → List Simplex → Reading A → Reading A
check_steps edges at [] next = next
check_steps edges at (s ∷ rest) next = refuse_if (not (listed s edges)) chain_item at (check_steps edges (at + 1) rest next)

pub steps_then : {A : Type 0} (edges : List Simplex) (at : ℕ) (walk : List Simplex) (f : List Simplex → Reading A) → read_steps edges at walk and_then f ≡ check_steps edges at walk (f walk)
unfolding read_steps check_steps
steps_then edges at [] f = refl
steps_then edges at (s ∷ walk) f = go (not (listed s edges)) (steps_then edges (at + 1) walk (λ rest. f (s ∷ rest))) (read_steps edges (at + 1) walk) refl
  where
    go : (x : Bool) → read_steps edges (at + 1) walk and_then (λ rest. f (s ∷ rest)) ≡ check_steps edges (at + 1) walk (f (s ∷ walk)) → (r : Reading (List Simplex)) → read_steps edges (at + 1) walk ≡ r
        → refuse_if x chain_item at (r and_then λ rest. accepted (s ∷ rest)) and_then f ≡ refuse_if x chain_item at (check_steps edges (at + 1) walk (f (s ∷ walk)))
    go true ih r e = refl
    go false ih (accepted rest) e = ap (λ x. x and_then (λ rest. f (s ∷ rest))) (sym e) ∙ ih
    go false ih (refused n q) e = ap (λ x. x and_then (λ rest. f (s ∷ rest))) (sym e) ∙ ih

-- ONCE. No simplex stands twice in a list.
abbrev pub Once : List Simplex → Type 0
Once l = (s : Simplex) → copies s l ≤ 1

-- what is listed among the vertices is a vertex below v
pub vertex-below : (v : ℕ) (s : Simplex) → 1 ≤ copies s (vertex_list v) → (a : ℕ) × (a < v) × (s ≡ a ∷ [])
unfolding vertex_list copies
vertex-below zero s h = absurd (omega arith)
vertex-below (suc v) s h = go (same s (v ∷ [])) refl (vertex-below v s)
  where
    go : (x : Bool) → same s (v ∷ []) ≡ x → (1 ≤ copies s (vertex_list v) → (a : ℕ) × (a < v) × (s ≡ a ∷ [])) → (a : ℕ) × (a < suc v) × (s ≡ a ∷ [])
    go true e ih = (v, omega arith, same-equal s (v ∷ []) e)
    go false e ih =
        let n : copies s ((v ∷ []) ∷ []) ≡ 0 = rw e (omega arith) in
        let it = ih (omega (arith, copies-append s (vertex_list v) ((v ∷ []) ∷ []))) in
        (it.0, omega (arith, it.1), it.2)

pub vertices-once : (v : ℕ) → Once (vertex_list v)
unfolding vertex_list copies
vertices-once zero s = omega arith
vertices-once (suc v) s =
    subst (λ n. n ≤ 1) (sym (copies-append s (vertex_list v) ((v ∷ []) ∷ []))) (go (same s (v ∷ [])) refl (copies s (vertex_list v)) refl (vertices-once v s))
  where
    go : (x : Bool) → same s (v ∷ []) ≡ x → (n : ℕ) → copies s (vertex_list v) ≡ n → n ≤ 1 → n + (cond x 1 0 + 0) ≤ 1
    go x e zero z h = few x
      where
        few : (x : Bool) → 0 + (cond x 1 0 + 0) ≤ 1
        few true = omega arith
        few false = omega arith
    go true e (suc n) z h =
        let it = vertex-below v s (omega (arith, z)) in
        let same-vertex : it.0 ∷ [] ≡ v ∷ [] = sym it.2 ∙ same-equal s (v ∷ []) e in
        let clash : it.0 ≡ v = cc in
        absurd (omega (arith, it.1))
    go false e (suc n) z h = omega arith

-- so in every list of a sound complex
pub simplices-once : (L : Limits) (X : Complex) → SoundComplex L X → (k : ℕ) → Once (simplices X k)
unfolding simplices copies
simplices-once L X sound zero = vertices-once X.v
simplices-once L X sound (suc zero) = sound.edges.once
simplices-once L X sound (suc (suc zero)) = sound.triangles.once
simplices-once L X sound (suc (suc (suc zero))) = sound.tetrahedra.once
simplices-once L X sound (suc (suc (suc (suc k)))) = λ s. omega arith

-- MARKS. Whether a place is among some places.
unfoldable pub among : ℕ → List ℕ → Bool
among i [] = false
among i (p ∷ ps) = eqb i p || among i ps

-- two places of a list hold the same simplex only if they are one place
same_place : (l : List Simplex) → Once l → (i p : ℕ) → i < length l → p < length l → same (get_or l i []) (get_or l p []) ≡ eqb i p
same_place l once i p hi hp = go (ℕ_discrete i p)
  where
    go : Dec (i ≡ p) → same (get_or l i []) (get_or l p []) ≡ eqb i p
    go (yes e) = ap (λ x. same (get_or l i []) (get_or l x [])) (sym e) ∙ same_refl (get_or l i []) ∙ sym (eq-eqb i p e)
    go (no n) =
        differ_same (get_or l i []) (get_or l p []) (λ e. n (one_place (get_or l i []) l (once (get_or l i [])) i p hi hp refl (sym e))) ∙
        sym (ne_eqb i p n)

-- a chain record marks the places that it names
pub named-marks : (l : List Simplex) → Once l → (ps : List ℕ) → all_below (length l) ps ≡ true → (i : ℕ) → i < length l → named l ps (get_or l i []) ≡ among i ps
unfolding among listed all_below
named-marks l once [] below i hi = refl
named-marks l once (p ∷ ps) below i hi =
    let both = and-true (ltb p (length l)) (all_below (length l) ps) below in
    ap₂ ◌||◌ (same_place l once i p hi (ltb-true p (length l) both.0)) (named-marks l once ps both.1 i hi)

-- a walk marks the ranks of its steps
pub step-marks : (l : List Simplex) → Once l → (s : Simplex) (r : ℕ) → rank s l ≡ ranked r → (i : ℕ) → i < length l → same (get_or l i []) s ≡ eqb i r
step-marks l once s r e i hi =
    let at = rank-stands s l r e in
    ap (same (get_or l i [])) (sym at.here) ∙ same_place l once i r hi at.below
