-- The judgement of an item from its tests, the first of which that holds decides.
use Prim.Native.Nat.{ℕ}
use mathlib.Core.Path.{◌≡◌, refl, sym, ap, ◌∙◌, subst}
use mathlib.Core.Bool.{Bool, true, false}
use mathlib.Core.List.{List}
use lib.ListN.{length}
use Rattle.format.specs.Numbers.{vertex, twice}
use Rattle.format.specs.Simplex.{Simplex, rank, listed}
use Rattle.format.specs.Listed.{is_ranked, listed-ranked}
use Rattle.lists.specs.Meaning.{rank_of}
use Rattle.std.proofs.Common.{Option, Some, None}
use Rattle.std.specs.Option.{is_some}
use Rattle.lookup.specs.Indexed.{Proper, Keyed, NumberOf}
use Rattle.reading_lists.specs.Items.{unsound_edge, refusal_of}

-- a simplex that has a rank is listed
pub entered-told : (s : Simplex) (l : List Simplex) (r : Option ℕ) → rank_of r ≡ rank s l → is_some r ≡ listed s l
unfolding is_ranked
entered-told s l r e = ranked-some r ∙ ap is_ranked e ∙ sym (listed-ranked 0 s l)
  where
    ranked-some : (r : Option ℕ) → is_some r ≡ is_ranked (rank_of r)
    ranked-some None = refl
    ranked-some (Some i) = refl

-- what the look-up of a number says of the simplex that has it
among : {keys : List ℕ} {n : ℕ} {s : Simplex} {width number : ℕ} {repeated : Bool} → length s ≡ width → NumberOf s number
    → ((s : Simplex) → NumberOf s number → (l : List Simplex) → Proper (length s) l → Keyed l keys n → repeated ≡ listed s l)
    → {x : Bool} → repeated ≡ x → (before : List Simplex) → Proper width before → Keyed before keys n → listed s before ≡ x
among {s = s} size own looked is before proper keyed =
    sym (looked s own before (subst (λ (w : ℕ). Proper w before) (sym size) proper) keyed) ∙ is

-- AN ITEM s: the first test that holds decides.
module _ (width v : ℕ) (s : Simplex) where
  pub judged-unsound : unsound_edge width v s ≡ true → (before : List Simplex) → vertex ≡ refusal_of width v before s
  unfolding refusal_of
  judged-unsound unsound before = rw unsound

  -- it is no unsound edge, has a number, and was looked up among the items before
  module _ {keys : List ℕ} {n number : ℕ} (size : length s ≡ width) (own : NumberOf s number) (sound : unsound_edge width v s ≡ false) {repeated : Bool}
      (looked : (s : Simplex) → NumberOf s number → (l : List Simplex) → Proper (length s) l → Keyed l keys n → repeated ≡ listed s l)
      (before : List Simplex) (proper : Proper width before) (keyed : Keyed before keys n) where
    pub judged-twice : repeated ≡ true → twice ≡ refusal_of width v before s
    unfolding refusal_of
    judged-twice again = rw (sound, among size own looked again before proper keyed)

    pub judged-new : repeated ≡ false → 0 ≡ refusal_of width v before s
    unfolding refusal_of
    judged-new fresh = rw (sound, among size own looked fresh before proper keyed)
