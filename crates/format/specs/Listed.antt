-- Laws of looking a simplex up in its list: the test of sameness is equality, a simplex is listed exactly where it has
-- a rank, and at its rank it stands.
use Rattle.std.specs.Prelude.{ℕ, suc, ◌+◌, ◌<◌, ◌≡◌, refl, Bool, true, false, ◌&&◌, ◌||◌, cond, List, [], ◌∷◌, length, get_or, eqb}
use Rattle.std.proofs.Common.{sym, ap₂, subst, arith, eqb-true, eq-eqb}
use Rattle.format.specs.Simplex.{Simplex, same, Rank, ranked, unlisted, rank_from, rank, listed}

pub true-not-false : {A : Type 0} (b : Bool) → b ≡ true → b ≡ false → A
true-not-false b p q = let z : ◌≡◌ {A = ℕ} 0 1 = cc in absurd (omega arith)

pub and-true : (a b : Bool) → a && b ≡ true → (a ≡ true) × (b ≡ true)
and-true true b e = (refl, e)
and-true false b e = true-not-false false e refl

-- SAMENESS. The test is true exactly of equal simplices.
pub same_refl : (s : Simplex) → same s s ≡ true
unfolding same
same_refl [] = refl
same_refl (a ∷ s) = rw (eq-eqb a a refl) (same_refl s)

pub same-equal : (s t : Simplex) → same s t ≡ true → s ≡ t
unfolding same
same-equal [] [] e = refl
same-equal [] (b ∷ t) e = true-not-false false e refl
same-equal (a ∷ s) [] e = true-not-false false e refl
same-equal (a ∷ s) (b ∷ t) e =
    let both : (eqb a b ≡ true) × (same s t ≡ true) = and-true (eqb a b) (same s t) e in
    ap₂ ◌∷◌ (eqb-true a b both.0) (same-equal s t both.1)

-- RANK. What a look-up that found rank i has found: the place is within the list, and the simplex stands there.
pub record StandsAt (s : Simplex) (l : List Simplex) (i : ℕ) : Type 0 where
  pub below : i < length l
  pub here : get_or l i [] ≡ s

stands_from : (k : ℕ) (s : Simplex) (l : List Simplex) (i : ℕ) → rank_from k s l ≡ ranked i → (j : ℕ) × (i ≡ k + j) × StandsAt s l j
unfolding rank_from
stands_from k s [] i e = let z : ◌≡◌ {A = ℕ} 0 1 = cc in absurd (omega arith)
stands_from k s (t ∷ l) i e = go (same s t) refl e (stands_from (suc k) s l i)
  where
    go : (x : Bool) → same s t ≡ x → cond x (ranked k) (rank_from (suc k) s l) ≡ ranked i
        → (rank_from (suc k) s l ≡ ranked i → (j : ℕ) × (i ≡ suc k + j) × StandsAt s l j)
        → (j : ℕ) × (i ≡ k + j) × StandsAt s (t ∷ l) j
    go true p q ih =
        let found : k ≡ i = cc in
        (0, omega arith, record { below = omega arith; here = sym (same-equal s t p) })
    go false p q ih =
        let later : (j : ℕ) × (i ≡ suc k + j) × StandsAt s l j = ih q in
        (suc later.0, omega (arith, later.1), record { below = omega (arith, later.2.below); here = later.2.here })

pub rank-stands : (s : Simplex) (l : List Simplex) (i : ℕ) → rank s l ≡ ranked i → StandsAt s l i
rank-stands s l i e =
    let found : (j : ℕ) × (i ≡ 0 + j) × StandsAt s l j = stands_from 0 s l i e in
    let here : i ≡ found.0 = omega (arith, found.1) in
    subst (StandsAt s l) (sym here) found.2

-- A simplex is listed exactly where its look-up finds a rank.
unfoldable pub is_ranked : Rank → Bool
is_ranked (ranked i) = true
is_ranked unlisted = false

pub listed-ranked : (k : ℕ) (s : Simplex) (l : List Simplex) → listed s l ≡ is_ranked (rank_from k s l)
unfolding listed rank_from is_ranked
listed-ranked k s [] = refl
listed-ranked k s (t ∷ l) = go (same s t) (listed-ranked (suc k) s l)
  where
    go : (x : Bool) → listed s l ≡ is_ranked (rank_from (suc k) s l)
        → x || listed s l ≡ is_ranked (cond x (ranked k) (rank_from (suc k) s l))
    go true ih = refl
    go false ih = ih
