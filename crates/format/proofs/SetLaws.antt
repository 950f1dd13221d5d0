-- Sets of simplices and chains of ranks are the same thing said twice. Why: no list holds a simplex twice, so a simplex
-- of the list has one rank and a rank one simplex. So sum, order, record and the smallest are the same on both sides.
use Rattle.std.specs.Prelude.{ℕ, zero, suc, ◌<◌, ◌≡◌, refl, Bool, true, false, ◌&&◌, ◌||◌, cond, List, [], ◌∷◌, ◌⊎◌, length, get_or, drop}
use Rattle.std.proofs.Common.{sym, ◌∙◌, ap, ap₂, subst, inl, inr, arith, le_of_suc-le-suc, not-suc-le-zero}
use Rattle.std.proofs.Math.Path.{fun_ext}
use Rattle.std.proofs.Math.Bool.{and-false}
use Rattle.std.proofs.Math.Decide.{dec_lt}
use Rattle.chains.specs.Chain.{Chain, differ, ◌⊕◌, empty, Under, Smaller, Smallest}
use Rattle.chains.specs.Sum.{under-empty}
use Rattle.format.specs.Simplex.{Simplex, SimplexSet, same, Rank, ranked, unlisted, rank, listed, chain_in}
use Rattle.format.specs.Reading.{items_of}
use Rattle.format.specs.Answer.{members_from, chain_record, vertices_of}
use Rattle.format.specs.Listed.{true-not-false, same-equal, StandsAt, rank-stands, is_ranked, listed-ranked}
use Rattle.format.specs.Lookup.{first-ranked}
use Rattle.format.specs.Matrix.{chain-under}
use Rattle.format.specs.Sound.{one_place, Within}
use Rattle.format.specs.Normal.{Wide, list_back}
use Rattle.format.specs.Marks.{Once}
use Rattle.format.specs.Members.{members-listed}
use Rattle.format.specs.Sets.{no_simplex, ◌△◌, SmallerSet, SmallestSet, members_of, set_record}
use Rattle.format.specs.SetLaws.{held_at, set_of}

-- BY RANK. At a rank of the list a set's chain holds what the set does of the simplex there.
pub chain-at : (l : List Simplex) (S : SimplexSet) (i : ℕ) → i < length l → chain_in l S i ≡ S (get_or l i [])
chain-at [] S i h = absurd (not-suc-le-zero h)
chain-at (s ∷ l) S zero h = refl
chain-at (s ∷ l) S (suc i) h = chain-at l S i (le_of_suc-le-suc h)

-- Two chains of n ranks are equal that agree below n.
pub chains-agree : (n : ℕ) (a b : Chain) → Under n a → Under n b → ((i : ℕ) → i < n → a i ≡ b i) → a ≡ b
chains-agree n a b ua ub same = fun_ext λ i. go i (dec_lt i n)
  where
    go : (i : ℕ) → Dec (i < n) → a i ≡ b i
    go i (yes lt) = same i lt
    go i (no ge) = ua i (omega arith) ∙ sym (ub i (omega arith))

-- a simplex of the list, found by its rank
pub listed-stands : (s : Simplex) (l : List Simplex) → listed s l ≡ true → (i : ℕ) × (rank s l ≡ ranked i) × StandsAt s l i
unfolding is_ranked
listed-stands s l e = go (rank s l) refl
  where
    go : (r : Rank) → rank s l ≡ r → (i : ℕ) × (rank s l ≡ ranked i) × StandsAt s l i
    go (ranked i) p = (i, p, rank-stands s l i p)
    go unlisted p = true-not-false (listed s l) e (listed-ranked 0 s l ∙ ap is_ranked p)

pub set-within : (l : List Simplex) (c : Chain) → Within (set_of l c) l
unfolding held_at is_ranked
set-within l c s e = go (rank s l) refl
  where
    go : (r : Rank) → rank s l ≡ r → listed s l ≡ true
    go (ranked i) p = listed-ranked 0 s l ∙ ap is_ranked p
    go unlisted p = true-not-false (set_of l c s) e (ap (held_at c) p)

-- a simplex that stands at a place of a list without copies has that rank
rank-here : (l : List Simplex) → Once l → (i : ℕ) → i < length l → rank (get_or l i []) l ≡ ranked i
rank-here l once i h =
    first-ranked (get_or l i []) l i (record { below = h; here = refl })
    (λ k lt e. let z : i ≡ k = one_place (get_or l i []) l (once (get_or l i [])) i k h (omega arith) refl e in absurd (omega arith))

-- The chain of the set of a chain is the chain.
pub chain-of-set : (l : List Simplex) → Once l → (c : Chain) → Under (length l) c → chain_in l (set_of l c) ≡ c
unfolding held_at
chain-of-set l once c u =
    chains-agree (length l) (chain_in l (set_of l c)) c (chain-under l (set_of l c)) u
    (λ i h. chain-at l (set_of l c) i h ∙ ap (held_at c) (rank-here l once i h))

-- The set of the chain of a set is the set.
pub set-of-chain : (l : List Simplex) (S : SimplexSet) → Within S l → set_of l (chain_in l S) ≡ S
unfolding held_at is_ranked
set-of-chain l S within = fun_ext λ s. go s (rank s l) refl
  where
    out : (s : Simplex) → listed s l ≡ false → (b : Bool) → S s ≡ b → false ≡ b
    out s e true p = true-not-false (listed s l) (within s p) e
    out s e false p = refl

    go : (s : Simplex) (r : Rank) → rank s l ≡ r → set_of l (chain_in l S) s ≡ S s
    go s (ranked i) p =
        ap (held_at (chain_in l S)) p ∙ chain-at l S i (rank-stands s l i p).below ∙ ap S (rank-stands s l i p).here
    go s unlisted p = ap (held_at (chain_in l S)) p ∙ out s (listed-ranked 0 s l ∙ ap is_ranked p) (S s) refl

-- So sets of one list are equal whose chains are.
pub same-sets : (l : List Simplex) (S T : SimplexSet) → Within S l → Within T l → chain_in l S ≡ chain_in l T → S ≡ T
same-sets l S T ws wt e = sym (set-of-chain l S ws) ∙ ap (set_of l) e ∙ set-of-chain l T wt

-- The empty set is the empty chain.
pub none-chain : (l : List Simplex) → chain_in l no_simplex ≡ empty
none-chain l =
    chains-agree (length l) (chain_in l no_simplex) empty (chain-under l no_simplex) (under-empty (length l)) (chain-at l no_simplex)

pub none_within : (l : List Simplex) → Within no_simplex l
none_within l s e = true-not-false false e refl

-- SUM, rank by rank.
pub chain-sum : (l : List Simplex) (S T : SimplexSet) → chain_in l (S △ T) ≡ chain_in l S ⊕ chain_in l T
chain-sum [] S T = refl
chain-sum (s ∷ l) S T = fun_ext λ i. go i (λ k. ap (λ c. c k) (chain-sum l S T))
  where
    go : (i : ℕ) → ((k : ℕ) → chain_in l (S △ T) k ≡ differ (chain_in l S k) (chain_in l T k))
        → chain_in (s ∷ l) (S △ T) i ≡ differ (chain_in (s ∷ l) S i) (chain_in (s ∷ l) T i)
    go zero later = refl
    go (suc i) later = later i

pub sum-within : (l : List Simplex) (S T : SimplexSet) → Within S l → Within T l → Within (S △ T) l
sum-within l S T ws wt s = go (S s) refl
  where
    go : (b : Bool) → S s ≡ b → differ b (T s) ≡ true → listed s l ≡ true
    go true p e = ws s p
    go false p e = wt s e

-- ORDER. The highest-ranked simplex of the sum stands at the highest rank of the sum.
module _ (l : List Simplex) (P Q : SimplexSet) where
  sum-at : (i : ℕ) → i < length l → (chain_in l P ⊕ chain_in l Q) i ≡ (P △ Q) (get_or l i [])
  sum-at i h = ap₂ differ (chain-at l P i h) (chain-at l Q i h)

  pub smaller-chains : SmallerSet l P Q → Smaller (chain_in l P) (chain_in l Q)
  smaller-chains s =
      record {
        rank = s.rank;
        top = record { holds = sum-at s.rank s.stands ∙ s.in_sum; above = λ i h. above i h (dec_lt i (length l)) };
        in_q = chain-at l Q s.rank s.stands ∙ s.in_q;
      }
    where
      above : (i : ℕ) → s.rank < i → Dec (i < length l) → (chain_in l P ⊕ chain_in l Q) i ≡ false
      above i h (yes lt) = sum-at i lt ∙ s.highest i h lt
      above i h (no ge) = rw (chain-under l P i (omega arith), chain-under l Q i (omega arith))

  pub smaller-sets : Smaller (chain_in l P) (chain_in l Q) → SmallerSet l P Q
  smaller-sets s =
      let stands : s.rank < length l = held (dec_lt s.rank (length l)) in
      record {
        rank = s.rank;
        stands = stands;
        in_sum = sym (sum-at s.rank stands) ∙ s.top.holds;
        in_q = sym (chain-at l Q s.rank stands) ∙ s.in_q;
        highest = λ i h lt. sym (sum-at i lt) ∙ s.top.above i h;
      }
    where
      held : Dec (s.rank < length l) → s.rank < length l
      held (yes lt) = lt
      held (no ge) = true-not-false (chain_in l Q s.rank) s.in_q (chain-under l Q s.rank (omega arith))

-- RECORD. The members of a set in the list's order are those of its chain in rising rank.
members-shift : (k : ℕ) (c : Chain) (l : List Simplex) → members_from (suc k) c l ≡ members_from k (λ i. c (suc i)) l
unfolding members_from
members-shift k c [] = refl
members-shift k c (s ∷ l) = ap (λ m. cond (c (suc k)) (s ∷ m) m) (members-shift (suc k) c l)

members-same : (S : SimplexSet) (l : List Simplex) → members_of S l ≡ members_from 0 (chain_in l S) l
unfolding members_from members_of
members-same S [] = refl
members-same S (s ∷ l) =
    ap (λ m. cond (S s) (s ∷ m) m) (members-same S l ∙ sym (members-shift 0 (chain_in (s ∷ l) S) l))

pub record_same : (d : ℕ) (l : List Simplex) (S : SimplexSet) → set_record d l S ≡ chain_record d l (chain_in l S)
unfolding set_record chain_record
record_same d l S = rw (members-same S l)

pub record-of-set : (d : ℕ) (l : List Simplex) → Once l → (c : Chain) → Under (length l) c → chain_record d l c ≡ set_record d l (set_of l c)
record-of-set d l once c u = ap (chain_record d l) (sym (chain-of-set l once c u)) ∙ sym (record_same d l (set_of l c))

-- A record tells which set it is of, where all simplices of the list have one width: it is cut into its members again.
members-set : (S : SimplexSet) (l : List Simplex) (s : Simplex) → listed s (members_of S l) ≡ S s && listed s l
unfolding members_of listed
members-set S [] s = sym (and-false (S s))
members-set S (t ∷ l) s = go (S t) refl (same s t) refl (members-set S l s)
  where
    go : (x : Bool) → S t ≡ x → (y : Bool) → same s t ≡ y → listed s (members_of S l) ≡ S s && listed s l
        → listed s (cond x (t ∷ members_of S l) (members_of S l)) ≡ S s && (y || listed s l)
    go true p true q ih = rw (q, ap S (same-equal s t q) ∙ p)
    go true p false q ih = rw (q, ih)
    go false p true q ih = ih ∙ rw (ap S (same-equal s t q) ∙ p)
    go false p false q ih = ih

members-back : (S : SimplexSet) (l : List Simplex) → Within S l → (λ s. listed s (members_of S l)) ≡ S
members-back S l within = fun_ext λ s. members-set S l s ∙ go s (S s) refl
  where
    go : (s : Simplex) (x : Bool) → S s ≡ x → x && listed s l ≡ x
    go s true p = within s p
    go s false p = refl

members-wide : (width : ℕ) (S : SimplexSet) (l : List Simplex) → Wide width l → Wide width (members_of S l)
members-wide width S l wide s e = wide s (members-listed 0 (chain_in l S) l s (ap (listed s) (sym (members-same S l)) ∙ e))

pub record-tells : (d width : ℕ) (l : List Simplex) → 0 < width → Wide width l → (S T : SimplexSet) → Within S l → Within T l
    → set_record d l S ≡ set_record d l T → S ≡ T
unfolding set_record
record-tells d width l some wide S T ws wt e =
    let cut : (P : SimplexSet) → items_of width (vertices_of (members_of P l)) ≡ members_of P l =
    λ P. list_back width (members_of P l) some (members-wide width P l wide) in
    let bytes : vertices_of (members_of S l) ≡ vertices_of (members_of T l) = ap (drop 7) e in
    sym (members-back S l ws) ∙ ap (λ m s. listed s m) (sym (cut S) ∙ ap (items_of width) bytes ∙ cut T) ∙ members-back T l wt

-- THE SMALLEST. A property of sets and one of chains that go together have the same smallest.
module _ (l : List Simplex) (once : Once l) (HasSet : SimplexSet → Type 0) (Has : Chain → Type 0)
    (within : (S : SimplexSet) → HasSet S → Within S l) (under : (c : Chain) → Has c → Under (length l) c)
    (chain : (S : SimplexSet) → HasSet S → Has (chain_in l S)) (set : (c : Chain) → Has c → HasSet (set_of l c)) where
  pub smallest-set : (c : Chain) → Smallest Has c → SmallestSet l HasSet (set_of l c)
  smallest-set c s =
      record { has = set c s.has; least = λ T h. go T (within T h) (s.least (chain_in l T) (chain T h)) }
    where
      go : (T : SimplexSet) → Within T l → (c ≡ chain_in l T) ⊎ Smaller c (chain_in l T) → (set_of l c ≡ T) ⊎ SmallerSet l (set_of l c) T
      go T w (inl e) = inl (ap (set_of l) e ∙ set-of-chain l T w)
      go T w (inr less) =
          inr (smaller-sets l (set_of l c) T
          (subst (λ x. Smaller x (chain_in l T)) (sym (chain-of-set l once c (under c s.has))) less))

  pub smallest-chain : (S : SimplexSet) → SmallestSet l HasSet S → Smallest Has (chain_in l S)
  smallest-chain S s =
      record { has = chain S s.has; least = λ d h. go d (under d h) (s.least (set_of l d) (set d h)) }
    where
      go : (d : Chain) → Under (length l) d → (S ≡ set_of l d) ⊎ SmallerSet l S (set_of l d) → (chain_in l S ≡ d) ⊎ Smaller (chain_in l S) d
      go d u (inl e) = inl (ap (chain_in l) e ∙ chain-of-set l once d u)
      go d u (inr less) =
          inr (subst (Smaller (chain_in l S)) (chain-of-set l once d u) (smaller-chains l S (set_of l d) less))
