-- The boundary of a set of simplices is the boundary of its chain. Why: the facets of a rising simplex differ from one
-- another, so the sum of its facets holds each of them, and the rows hold no simplex twice.
use Prim.Native.Nat.{ℕ, zero, suc, ◌+◌, ◌≤◌, ◌<◌}
use Rattle.std.specs.Prelude.{◌≡◌, Bool, true, ◌&&◌, ◌||◌, cond, List, [], ◌∷◌, map, get_or, eqb, leb}
use Rattle.std.proofs.Math.Path.{refl, ap}
use Rattle.std.proofs.Common.{sym, ◌∙◌, ap₂, subst, eqb-true, eq-eqb, ne_eqb, leb-true}
use Rattle.std.proofs.Math.Bool.{false, or-true}
use native.Mathlib.Omega.{arith}
use Rattle.std.proofs.Math.Decide.{ℕ_discrete}
use Rattle.std.proofs.Math.ListN.{length}
use Rattle.chains.specs.Chain.{Chain, differ, ◌⊕◌, only, boundary}
use Rattle.chains.specs.Sum.{sum-assoc, sum-empty}
use Rattle.chains.specs.Boundary.{boundary-under}
use Rattle.format.specs.Numbers.{Limits}
use Rattle.format.specs.Simplex.{Simplex, SimplexSet, Complex, sound_simplex, rising_from, all_below, facets, same, Rank, ranked, unlisted, rank, listed, all_listed, at_rank, sum_over, simplex_boundary, columns, chain_in, simplices, lower, vertex_list}
use Rattle.format.specs.Listed.{true-not-false, and-true, same_refl, same-equal, is_ranked, listed-ranked}
use Rattle.format.specs.Lookup.{stands-listed}
use Rattle.format.specs.Matrix.{chain-under, columns-under}
use Rattle.format.specs.Sound.{copies, copies-append, Within, SoundComplex}
use Rattle.format.specs.Rims.{complex-closed}
use Rattle.format.specs.Normal.{Wide}
use Rattle.format.specs.Marks.{Once, step-marks, vertex-below, simplices-once}
use Rattle.format.specs.Members.{listed-copies, simplices-sound}
use Rattle.format.specs.Sets.{is_facet, boundary_set}
use Rattle.format.proofs.SetLaws.{chain-at, chains-agree, listed-stands}
use Rattle.format.specs.SetBoundary.{Layers}

-- FACETS of a rising simplex differ from one another. Those that keep the first vertex differ as what is behind it does,
-- and the one that leaves it out starts higher.
copies-behind : (a b : ℕ) (g : Simplex) (l : List Simplex) → copies (b ∷ g) (map (◌∷◌ a) l) ≤ copies g l
unfolding copies same
copies-behind a b g [] = omega arith
copies-behind a b g (t ∷ l) = go (eqb b a) (copies-behind a b g l)
  where
    go : (x : Bool) → copies (b ∷ g) (map (◌∷◌ a) l) ≤ copies g l
        → cond (x && same g t) 1 0 + copies (b ∷ g) (map (◌∷◌ a) l) ≤ cond (same g t) 1 0 + copies g l
    go true ih = omega arith
    go false ih = omega arith

copies-higher : (a b : ℕ) (g : Simplex) (l : List Simplex) → a < b → copies (b ∷ g) (map (◌∷◌ a) l) ≡ 0
unfolding copies same
copies-higher a b g [] h = refl
copies-higher a b g (t ∷ l) h = rw (ne_eqb b a (omega arith), copies-higher a b g l h) (omega arith)

copies-none : (a : ℕ) (l : List Simplex) → copies [] (map (◌∷◌ a) l) ≡ 0
unfolding copies same
copies-none a [] = refl
copies-none a (t ∷ l) = rw (copies-none a l) (omega arith)

copies-one : (f s : Simplex) → copies f (s ∷ []) ≤ 1
unfolding copies
copies-one f s = go (same f s)
  where
    go : (x : Bool) → cond x 1 0 + 0 ≤ 1
    go true = omega arith
    go false = omega arith

pub facets-once : (least : ℕ) (s : Simplex) → rising_from least s ≡ true → Once (facets s)
unfolding facets rising_from copies same
facets-once least [] r f = omega arith
facets-once least (a ∷ []) r f = copies-one f []
facets-once least (a ∷ b ∷ s) r [] =
    omega (arith, copies-append [] (map (◌∷◌ a) (facets (b ∷ s))) ((b ∷ s) ∷ []), copies-none a (facets (b ∷ s)))
facets-once least (a ∷ b ∷ s) r (c ∷ f) =
    let later = (and-true (leb least a) (rising_from (suc a) (b ∷ s)) r).1 in
    subst (λ n. n ≤ 1) (sym (copies-append (c ∷ f) (map (◌∷◌ a) (facets (b ∷ s))) ((b ∷ s) ∷ [])))
    (go (same (c ∷ f) (b ∷ s)) refl (facets-once (suc a) (b ∷ s) later f)
    (leb-true (suc a) b (and-true (leb (suc a) b) (rising_from (suc b) s) later).0))
  where
    go : (x : Bool) → same (c ∷ f) (b ∷ s) ≡ x → copies f (facets (b ∷ s)) ≤ 1 → suc a ≤ b
        → copies (c ∷ f) (map (◌∷◌ a) (facets (b ∷ s))) + (cond x 1 0 + 0) ≤ 1
    go true e ih h =
        let first : c ≡ b = eqb-true c b (and-true (eqb c b) (same f s) e).0 in
        omega (arith, copies-higher a c f (facets (b ∷ s)) (omega arith))
    go false e ih h = omega (arith, copies-behind a c f (facets (b ∷ s)))

-- BOUNDARY. The chain of one simplex holds the rank of that simplex only.
rank-marks : (rows : List Simplex) → Once rows → (f : Simplex) (i : ℕ) → i < length rows
    → at_rank (rank f rows) i ≡ same (get_or rows i []) f
unfolding at_rank is_ranked
rank-marks rows once f i h = go (rank f rows) refl
  where
    swap : (r : ℕ) → Dec (r ≡ i) → eqb r i ≡ eqb i r
    swap r (yes e) = eq-eqb r i e ∙ sym (eq-eqb i r (sym e))
    swap r (no n) = ne_eqb r i n ∙ sym (ne_eqb i r (λ e. n (sym e)))

    other : rank f rows ≡ unlisted → (b : Bool) → same (get_or rows i []) f ≡ b → false ≡ b
    other p true e =
        true-not-false (listed f rows) (stands-listed f rows i (record { below = h; here = same-equal (get_or rows i []) f e }))
        (listed-ranked 0 f rows ∙ ap is_ranked p)
    other p false e = refl

    go : (r : Rank) → rank f rows ≡ r → at_rank r i ≡ same (get_or rows i []) f
    go (ranked r) p = swap r (ℕ_discrete r i) ∙ sym (step-marks rows once f r p i h)
    go unlisted p = other p (same (get_or rows i []) f) refl

-- The sum of simplices that differ from one another holds each of them.
sum-listed : (rows : List Simplex) → Once rows → (i : ℕ) → i < length rows → (fs : List Simplex)
    → copies (get_or rows i []) fs ≤ 1 → sum_over (λ f. at_rank (rank f rows)) fs i ≡ listed (get_or rows i []) fs
unfolding sum_over listed copies
sum-listed rows once i h [] few = refl
sum-listed rows once i h (f ∷ fs) few =
    ap₂ differ (rank-marks rows once f i h) (sum-listed rows once i h fs (omega (arith, few))) ∙
    go (same (get_or rows i []) f) few (listed (get_or rows i []) fs) refl
  where
    go : (x : Bool) → cond x 1 0 + copies (get_or rows i []) fs ≤ 1 → (y : Bool) → listed (get_or rows i []) fs ≡ y → differ x y ≡ (x || y)
    go false few y e = refl
    go true few false e = refl
    go true few true e = absurd (omega (arith, few, listed-copies (get_or rows i []) fs e))

-- a simplex, which has a vertex, is a facet when it is among the facets
facet-listed : (f s : Simplex) → (f ≡ [] → ⊥) → listed f (facets s) ≡ is_facet f s
unfolding is_facet
facet-listed [] s solid = absurd (solid refl)
facet-listed (a ∷ f) s solid = refl

-- A sum over ranks, begun at the front.
boundary-front : (D : ℕ → Chain) (n : ℕ) (c : Chain)
    → boundary D (suc n) c ≡ only (c 0) (D 0) ⊕ boundary (λ i. D (suc i)) n (λ i. c (suc i))
unfolding boundary
boundary-front D zero c = sym (sum-empty (only (c 0) (D 0)))
boundary-front D (suc n) c =
    ap (λ x. x ⊕ only (c (suc n)) (D (suc n))) (boundary-front D n c) ∙
    sum-assoc (only (c 0) (D 0)) (boundary (λ i. D (suc i)) n (λ i. c (suc i))) (only (c (suc n)) (D (suc n)))

-- At the rank of a row both hold that row.
boundary-at : (rows : List Simplex) → Once rows → (i : ℕ) → i < length rows → (get_or rows i [] ≡ [] → ⊥)
    → (S : SimplexSet) (l : List Simplex) → ((s : Simplex) → listed s l ≡ true → rising_from 0 s ≡ true)
    → boundary (columns rows l) (length l) (chain_in l S) i ≡ boundary_set l S (get_or rows i [])
unfolding boundary boundary_set listed
boundary-at rows once i h solid S [] rising = refl
boundary-at rows once i h solid S (s ∷ l) rising =
    ap (λ c. c i) (boundary-front (columns rows (s ∷ l)) (length l) (chain_in (s ∷ l) S)) ∙
    ap₂ differ (one (S s)) (boundary-at rows once i h solid S l (λ t e. rising t (rw (e, or-true))))
  where
    one : (x : Bool) → only x (simplex_boundary rows s) i ≡ x && is_facet (get_or rows i []) s
    one false = refl
    one true =
        sum-listed rows once i h (facets s) (facets-once 0 s (rising s (rw (same_refl s))) (get_or rows i [])) ∙
        facet-listed (get_or rows i []) s solid

-- Whatever is in a boundary is a facet of some member.
boundary-facets : (rows : List Simplex) (S : SimplexSet) (f : Simplex) (l : List Simplex)
    → ((s : Simplex) → listed s l ≡ true → is_facet f s ≡ true → listed f rows ≡ true)
    → boundary_set l S f ≡ true → listed f rows ≡ true
unfolding boundary_set listed
boundary-facets rows S f [] closed e = true-not-false false e refl
boundary-facets rows S f (s ∷ l) closed e =
    go (S s && is_facet f s) refl e (boundary-facets rows S f l (λ t h. closed t (rw (h, or-true))))
  where
    go : (x : Bool) → S s && is_facet f s ≡ x → differ x (boundary_set l S f) ≡ true → (boundary_set l S f ≡ true → listed f rows ≡ true)
        → listed f rows ≡ true
    go true p e later = closed s (rw (same_refl s)) (and-true (S s) (is_facet f s) p).1
    go false p e later = later e

module _ (rows cols : List Simplex) (layers : Layers rows cols) (S : SimplexSet) where
  -- The chain of a set's boundary is the boundary of its chain.
  pub boundary-chain : chain_in rows (boundary_set cols S) ≡ boundary (columns rows cols) (length cols) (chain_in cols S)
  boundary-chain =
      chains-agree (length rows) (chain_in rows (boundary_set cols S)) (boundary (columns rows cols) (length cols) (chain_in cols S))
      (chain-under rows (boundary_set cols S))
      (boundary-under (columns rows cols) (length cols) (length rows) (chain_in cols S) (λ i h. columns-under rows cols i))
      (λ i h. chain-at rows (boundary_set cols S) i h ∙ sym (boundary-at rows layers.rows_once i h (solid i h) S cols layers.rising))
    where
      solid : (i : ℕ) → i < length rows → get_or rows i [] ≡ [] → ⊥
      solid i h = layers.solid (get_or rows i []) (stands-listed (get_or rows i []) rows i (record { below = h; here = refl }))

  -- The boundary of a set is a set of listed simplices.
  pub boundary-within : Within (boundary_set cols S) rows
  boundary-within f e = boundary-facets rows S f cols (λ s. layers.closed s f) e

-- IN A SOUND COMPLEX any two neighbouring dimensions are such layers.
all_listed_lem : (f : Simplex) (fs rows : List Simplex) → all_listed fs rows ≡ true → listed f fs ≡ true → listed f rows ≡ true
unfolding listed all_listed
all_listed_lem f [] rows all e = true-not-false false e refl
all_listed_lem f (g ∷ fs) rows all e = go (same f g) refl e (all_listed_lem f fs rows both.1)
  where
    both : (listed g rows ≡ true) × (all_listed fs rows ≡ true)
    both = and-true (listed g rows) (all_listed fs rows) all

    go : (x : Bool) → same f g ≡ x → x || listed f fs ≡ true → (listed f fs ≡ true → listed f rows ≡ true) → listed f rows ≡ true
    go true p e later = ap (λ x. listed x rows) (same-equal f g p) ∙ both.0
    go false p e later = later e

facet-inside : (f s : Simplex) → is_facet f s ≡ true → listed f (facets s) ≡ true
unfolding is_facet
facet-inside [] s e = true-not-false false e refl
facet-inside (a ∷ f) s e = e

-- a vertex has no facet
vertex-bare : (a : ℕ) (f : Simplex) → is_facet f (a ∷ []) ≡ false
unfolding is_facet facets listed same
vertex-bare a [] = refl
vertex-bare a (b ∷ f) = refl

module _ (L : Limits) (X : Complex) (sound : SoundComplex L X) where
  -- "its dimension is one less than their count"
  pub simplices-wide : (k : ℕ) → Wide (suc k) (simplices X k)
  unfolding simplices listed
  simplices-wide zero s e = ap length (vertex-below X.v s (listed-copies s (vertex_list X.v) e)).2
  simplices-wide (suc zero) s e = sound.edges.wide s e
  simplices-wide (suc (suc zero)) s e = sound.triangles.wide s e
  simplices-wide (suc (suc (suc zero))) s e = sound.tetrahedra.wide s e
  simplices-wide (suc (suc (suc (suc k)))) s e = true-not-false false e refl

  lower-once : (k : ℕ) → Once (lower X k)
  unfolding lower copies
  lower-once zero s = omega arith
  lower-once (suc k) s = simplices-once L X sound k s

  lower-solid : (k : ℕ) (s : Simplex) → listed s (lower X k) ≡ true → s ≡ [] → ⊥
  unfolding lower listed
  lower-solid zero s e z = true-not-false false e refl
  lower-solid (suc k) s e z =
      let none : length s ≡ 0 = ap length z in
      omega (arith, simplices-wide k s e)

  lower-closed : (k : ℕ) (s f : Simplex) → listed s (simplices X k) ≡ true → is_facet f s ≡ true → listed f (lower X k) ≡ true
  unfolding lower simplices
  lower-closed zero s f e g =
      let it = vertex-below X.v s (listed-copies s (vertex_list X.v) e) in
      true-not-false (is_facet f s) g (ap (is_facet f) it.2 ∙ vertex-bare it.0 f)
  lower-closed (suc k) s f e g =
      let it = listed-stands s (simplices X (suc k)) e in
      let owed = complex-closed L X sound k it.0 it.2.below in
      all_listed_lem f (facets s) (simplices X k) (ap (λ t. all_listed (facets t) (simplices X k)) (sym it.2.here) ∙ owed) (facet-inside f s g)

  pub sound-layers : (k : ℕ) → Layers (lower X k) (simplices X k)
  unfolding sound_simplex
  sound-layers k =
      record {
        rows_once = lower-once k;
        cols_once = simplices-once L X sound k;
        rising = λ s e. (and-true (rising_from 0 s) (all_below X.v s) (simplices-sound L X sound k s e).sound).0;
        solid = lower-solid k;
        closed = lower-closed k;
      }
