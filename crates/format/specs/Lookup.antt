-- More laws of looking a simplex up, for the readers: what differs anywhere is another simplex, the first place that
-- holds a simplex is its rank, and listing goes along with appending. Each is an induction along the list.
use Rattle.std.specs.Prelude.{ℕ, zero, suc, ◌+◌, ◌<◌, ◌≡◌, refl, Bool, true, false, ◌&&◌, ◌||◌, cond, List, [], ◌∷◌, ◌++◌, get_or}
use Rattle.std.proofs.Common.{add-zero, le_of_suc-le-suc, not-suc-le-zero, zero-lt-suc, arith, sym, ap}
use Rattle.std.proofs.Math.Bool.{or_assoc, and_assoc, or-true}
use Rattle.format.specs.Simplex.{Simplex, same, Rank, ranked, unlisted, rank_from, rank, listed, all_listed}
use Rattle.format.specs.Listed.{same_refl, same-equal, StandsAt}

-- what differs is not the same
pub differ_same : (s t : Simplex) → (s ≡ t → ⊥) → same s t ≡ false
differ_same s t d = go (same s t) refl
  where
    go : (b : Bool) → same s t ≡ b → same s t ≡ false
    go true e = absurd (d (same-equal s t e))
    go false e = e

-- A rank that was counted from another place is moved by that place.
abbrev pub shifted : ℕ → Rank → Rank
shifted k (ranked i) = ranked (k + i)
shifted k unlisted = unlisted

shifted-cond : (k : ℕ) (b : Bool) (q r : Rank) → cond b (shifted k q) (shifted k r) ≡ shifted k (cond b q r)
shifted-cond k true q r = refl
shifted-cond k false q r = refl

shifted-suc : (k : ℕ) (r : Rank) → shifted (suc k) r ≡ shifted k (shifted 1 r)
shifted-suc k (ranked i) = ap ranked (omega arith)
shifted-suc k unlisted = refl

pub rank_from-shifted : (k : ℕ) (s : Simplex) (l : List Simplex) → rank_from k s l ≡ shifted k (rank s l)
unfolding rank_from
rank_from-shifted k s [] = refl
rank_from-shifted k s (t ∷ l) =
    rw (rank_from-shifted (suc k) s l, rank_from-shifted 1 s l, shifted-suc k (rank s l), ← shifted-cond, add-zero)

-- the first place that holds the simplex is its rank
pub first-ranked : (s : Simplex) (l : List Simplex) (i : ℕ) → StandsAt s l i → ((j : ℕ) → j < i → get_or l j [] ≡ s → ⊥) → rank s l ≡ ranked i
unfolding rank_from
first-ranked s [] i h before = absurd (not-suc-le-zero h.below)
first-ranked s (t ∷ l) zero h before = rw (h.here, same_refl s)
first-ranked s (t ∷ l) (suc i) h before =
    let later : rank s l ≡ ranked i =
    first-ranked s l i (record { below = le_of_suc-le-suc h.below; here = h.here }) (λ j below. before (suc j) (omega arith)) in
    rw (differ_same s t (λ e. before 0 (zero-lt-suc i) (sym e)), rank_from-shifted 1 s l, later) (ap ranked (omega arith))

-- what stands in a list is listed
pub stands-listed : (s : Simplex) (l : List Simplex) (i : ℕ) → StandsAt s l i → listed s l ≡ true
unfolding listed
stands-listed s [] i h = absurd (not-suc-le-zero h.below)
stands-listed s (t ∷ l) zero h = rw (h.here, same_refl s)
stands-listed s (t ∷ l) (suc i) h =
    rw (stands-listed s l i (record { below = le_of_suc-le-suc h.below; here = h.here }), or-true)

-- LISTS THAT GROW.
pub listed-append : (s : Simplex) (l m : List Simplex) → listed s (l ++ m) ≡ (listed s l || listed s m)
unfolding listed
listed-append s [] m = refl
listed-append s (t ∷ l) m = rw (listed-append s l m, or_assoc)

pub all_listed-append : (r q l : List Simplex) → all_listed (r ++ q) l ≡ (all_listed r l && all_listed q l)
unfolding all_listed
all_listed-append [] q l = refl
all_listed-append (s ∷ r) q l = rw (all_listed-append r q l, and_assoc)
