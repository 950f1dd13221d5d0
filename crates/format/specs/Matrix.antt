-- Laws of the matrix that a complex gives: its columns hold ranks of the rows' list only, and on a closed complex the
-- boundary of a boundary is empty. Why the latter: leaving out two vertices in either order gives the same simplex, so
-- in the sum every simplex stands twice.
use Rattle.std.specs.Prelude.{ℕ, ◌<◌, ◌≡◌, true, false, List, [], ◌∷◌, ◌++◌, map, length, get_or}
use Rattle.std.proofs.Math.Path.{refl}
use Rattle.std.proofs.Common.{sym, ◌∙◌, ap, ap₂, arith}
use Rattle.std.proofs.lemmas.List.{length-map}
use Rattle.std.proofs.Math.ListN.{get_or-eq_default}
use Rattle.chains.specs.Chain.{Chain, ◌⊕◌, empty, Under, boundary}
use Rattle.chains.specs.Sum.{sum-assoc, sum_self, sum-empty, empty-sum, sum-swap, under-empty, under-sum}
use Rattle.chains.specs.Boundary.{under-unit, boundary-sum, boundary-empty, boundary-unit, boundary-boundary}
use Rattle.format.specs.Simplex.{Simplex, SimplexSet, facets, Rank, ranked, unlisted, rank, listed, all_listed, at_rank, sum_over, simplex_boundary, columns, chain_in}
use Rattle.format.specs.Listed.{true-not-false, and-true, rank-stands, is_ranked, listed-ranked}

-- WITHIN THE ROWS. Whatever a column holds is a rank of the rows' list.
rank-under : (s : Simplex) (rows : List Simplex) → Under (length rows) (at_rank (rank s rows))
unfolding at_rank
rank-under s rows = go (rank s rows) refl
  where
    go : (r : Rank) → rank s rows ≡ r → Under (length rows) (at_rank r)
    go (ranked i) e = under-unit i (length rows) (rank-stands s rows i e).below
    go unlisted e = under-empty (length rows)

sum-under : (n : ℕ) (chain : Simplex → Chain) → ((s : Simplex) → Under n (chain s)) → (l : List Simplex) → Under n (sum_over chain l)
unfolding sum_over
sum-under n chain each [] = under-empty n
sum-under n chain each (s ∷ l) = under-sum n (chain s) (sum_over chain l) (each s) (sum-under n chain each l)

pub columns-under : (rows cols : List Simplex) (i : ℕ) → Under (length rows) (columns rows cols i)
columns-under rows cols i = sum-under (length rows) (λ f. at_rank (rank f rows)) (λ f. rank-under f rows) (facets (get_or cols i []))

pub chain-under : (rows : List Simplex) (A : SimplexSet) → Under (length rows) (chain_in rows A)
chain-under rows A i out = get_or-eq_default (map A rows) false (omega (arith, length-map rows A))

-- SUMS over lists of simplices.
sum-append : (chain : Simplex → Chain) (k l : List Simplex) → sum_over chain (k ++ l) ≡ sum_over chain k ⊕ sum_over chain l
unfolding sum_over
sum-append chain [] l = sym (empty-sum (sum_over chain l))
sum-append chain (s ∷ k) l =
    ap (◌⊕◌ (chain s)) (sum-append chain k l) ∙ sym (sum-assoc (chain s) (sum_over chain k) (sum_over chain l))

sum-map : (chain : Simplex → Chain) (f : Simplex → Simplex) (l : List Simplex) → sum_over chain (map f l) ≡ sum_over (λ s. chain (f s)) l
unfolding sum_over
sum-map chain f [] = refl
sum-map chain f (s ∷ l) = ap (◌⊕◌ (chain (f s))) (sum-map chain f l)

sum_both : (a b : Simplex → Chain) (l : List Simplex) → sum_over (λ s. a s ⊕ b s) l ≡ sum_over a l ⊕ sum_over b l
unfolding sum_over
sum_both a b [] = refl
sum_both a b (s ∷ l) =
    ap (◌⊕◌ (a s ⊕ b s)) (sum_both a b l) ∙ sum-swap (a s) (b s) (sum_over a l) (sum_over b l)

sum_same : (a b : Simplex → Chain) → ((s : Simplex) → a s ≡ b s) → (l : List Simplex) → sum_over a l ≡ sum_over b l
unfolding sum_over
sum_same a b e [] = refl
sum_same a b e (s ∷ l) = ap₂ ◌⊕◌ (e s) (sum_same a b e l)

-- the facets of a simplex with one vertex more in front
sum-facets : (chain : Simplex → Chain) (a : ℕ) (s : Simplex) → sum_over chain (facets (a ∷ s)) ≡ sum_over (λ f. chain (a ∷ f)) (facets s) ⊕ chain s
unfolding facets sum_over
sum-facets chain a s =
    sum-append chain (map (◌∷◌ a) (facets s)) (s ∷ []) ∙
    ap₂ ◌⊕◌ (sum-map chain (◌∷◌ a) (facets s)) (sum-empty (chain s))

-- FACETS OF FACETS cancel, whatever chain each simplex stands for.
pub facets-cancel : (chain : Simplex → Chain) (s : Simplex) → sum_over (λ f. sum_over chain (facets f)) (facets s) ≡ empty
facets-cancel chain [] = unfold facets sum_over in refl
facets-cancel chain (a ∷ s) =
    sum-facets (λ f. sum_over chain (facets f)) a s ∙
    ap (λ x. x ⊕ sum_over chain (facets s))
    (sum_same (λ f. sum_over chain (facets (a ∷ f))) (λ f. sum_over (λ g. chain (a ∷ g)) (facets f) ⊕ chain f) (λ f. sum-facets chain a f) (facets s) ∙
    sum_both (λ f. sum_over (λ g. chain (a ∷ g)) (facets f)) chain (facets s) ∙
    ap (λ x. x ⊕ sum_over chain (facets s)) (facets-cancel (λ g. chain (a ∷ g)) s) ∙
    empty-sum (sum_over chain (facets s))) ∙
    sum_self (sum_over chain (facets s))

-- CLOSED. Each facet of a listed column is a listed row.
abbrev pub Closed : List Simplex → List Simplex → Type 0
Closed rows cols = (i : ℕ) → i < length cols → all_listed (facets (get_or cols i [])) rows ≡ true

-- the boundary of one listed simplex, taken as a chain of its list
boundary-of-listed : (below rows : List Simplex) (f : Simplex) → listed f rows ≡ true → boundary (columns below rows) (length rows) (at_rank (rank f rows)) ≡ simplex_boundary below f
unfolding at_rank is_ranked
boundary-of-listed below rows f e = go (rank f rows) refl
  where
    go : (r : Rank) → rank f rows ≡ r → boundary (columns below rows) (length rows) (at_rank r) ≡ simplex_boundary below f
    go (ranked i) p =
        boundary-unit (columns below rows) (length rows) i (rank-stands f rows i p).below ∙
        ap (simplex_boundary below) (rank-stands f rows i p).here
    go unlisted p = true-not-false (listed f rows) e (listed-ranked 0 f rows ∙ ap is_ranked p)

boundary-of-sum : (below rows l : List Simplex) → all_listed l rows ≡ true → boundary (columns below rows) (length rows) (sum_over (λ f. at_rank (rank f rows)) l) ≡ sum_over (λ f. simplex_boundary below f) l
unfolding sum_over all_listed
boundary-of-sum below rows [] e = boundary-empty (columns below rows) (length rows)
boundary-of-sum below rows (s ∷ l) e =
    let both : (listed s rows ≡ true) × (all_listed l rows ≡ true) = and-true (listed s rows) (all_listed l rows) e in
    boundary-sum (columns below rows) (length rows) (at_rank (rank s rows)) (sum_over (λ f. at_rank (rank f rows)) l) ∙
    ap₂ ◌⊕◌ (boundary-of-listed below rows s both.0) (boundary-of-sum below rows l both.1)

-- the boundary of a boundary is empty
pub closed-boundary : (below rows cols : List Simplex) → Closed rows cols → (c : Chain) → boundary (columns below rows) (length rows) (boundary (columns rows cols) (length cols) c) ≡ empty
closed-boundary below rows cols closed c =
    boundary-boundary (columns below rows) (columns rows cols) (length rows) (length cols) c
    (λ i lt. boundary-of-sum below rows (facets (get_or cols i [])) (closed i lt) ∙ facets-cancel (λ g. at_rank (rank g below)) (get_or cols i []))
