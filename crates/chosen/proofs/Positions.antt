-- Reading positions: what is still to be checked and marked, together with what was, is always the whole.
use Prim.Native.Nat.{ℕ, zero, suc, ◌+◌, ◌≤◌, ◌<◌}
use mathlib.Core.Path.{◌≡◌, refl, sym, ◌∙◌, ap, subst}
use mathlib.Core.Bool.{Bool, true, false, ◌||◌, or-false, or-true}
use mathlib.Core.List.{List, [], ◌∷◌}
use native.Mathlib.Omega.{arith}
use native.Mathlib.Nat.{add-zero, add_assoc}
use native.Mathlib.Numerals.{add-one, add-two}
use native.Mathlib.Decide.{ℕ_discrete}
use lib.ListN.{length, get_or, set, drop, replicate, length-set, length-drop, length-replicate}
use lib.Seq.{drop-cons, get_or-set_same, get_or-set_other}
use lib.Dec.{eqb}
use borrow.Author.Tests.{lt-ltb, le-ltb, le-leb, lt-leb, eq-eqb, ne_eqb}
use Rattle.format.specs.Numbers.{chain_item}
use Rattle.format.specs.Simplex.{all_below}
use Rattle.format.specs.Reading.{Reading, accepted, refused, ◌and_then◌, u16_at, positions_of, rising_below}
use Rattle.format.specs.Marks.{check_positions, positions-then, among}
use Rattle.std.proofs.Common.{Ok, Err}
use Rattle.refusals.specs.Readings.{refused_by, not_read, same_read}
use Rattle.refusals.specs.declared.Refusal.{Refusal}
use Rattle.lists.specs.declared.Marks.{Marks}
use Rattle.chosen.specs.Meaning.{PositionsRead}

-- the next position, while two bytes are left; none where fewer are
next-position : (p : List ℕ) (at : ℕ) → at + 1 < length p → positions_of (drop at p) ≡ u16_at p at ∷ positions_of (drop (at + 2) p)
unfolding positions_of
next-position p at h =
    rw (drop-cons p at 0 (omega arith), drop-cons p (suc at) 0 (omega arith), add-one at, add-two at)

few-left : (l : List ℕ) → length l ≤ 1 → positions_of l ≡ []
unfolding positions_of
few-left [] h = refl
few-left (a ∷ []) h = refl
few-left (a ∷ b ∷ l) h = absurd (omega arith)

pub then-accepted : {A : Type 0} (r : Reading A) → r and_then accepted ≡ r
then-accepted (accepted a) = refl
then-accepted (refused n p) = refl

-- all checks, with the positions handed on at their end
abbrev pub Checked : (count at least : ℕ) (ps all : List ℕ) → Reading (List ℕ)
Checked count at least ps all = check_positions count at least ps (accepted all)

rising-checked : (count at least : ℕ) (ps : List ℕ) → rising_below count at least ps ≡ Checked count at least ps ps
rising-checked count at least ps = sym (then-accepted (rising_below count at least ps)) ∙ positions-then count at least ps accepted

-- THE INVARIANT, at byte `at` of the payload.
pub record Marking (p : List ℕ) (base count : ℕ) (on : List Bool) (least at : ℕ) : Type 0 where
  pub long : length on ≡ 512
  pub near : at ≤ length p + 1
  pub rest : rising_below count base 0 (positions_of p) ≡ Checked count (base + at) least (positions_of (drop at p)) (positions_of p)
  pub below : all_below count (positions_of p) ≡ all_below count (positions_of (drop at p))
  pub marked : (i : ℕ) → (get_or on i false || among i (positions_of (drop at p))) ≡ among i (positions_of p)

pub all-off : (n i : ℕ) → get_or (replicate n false) i false ≡ false
all-off zero i = refl
all-off (suc n) zero = refl
all-off (suc n) (suc i) = all-off n i

pub marking-starts : (p : List ℕ) (base count : ℕ) (on : List Bool) → on ≡ replicate 512 false → Marking p base count on 0 0
marking-starts p base count on off =
    record {
      long = ap length off ∙ length-replicate 512 false;
      near = omega arith;
      rest = rising-checked count base 0 (positions_of p) ∙ ap (λ n. Checked count n 0 (positions_of p) (positions_of p)) (sym (add-zero base));
      below = refl;
      marked = λ i. ap (λ x. get_or x i false || among i (positions_of p)) off ∙ ap (λ x. x || among i (positions_of p)) (all-off 512 i);
    }

module _ {p : List ℕ} {base count : ℕ} {on : List Bool} {least at : ℕ} (now : Marking p base count on least at) (more : at + 1 < length p) where
  -- a position that is not above the one before, or not below the count, is refused where it stands
  pub marking-low : u16_at p at < least → rising_below count base 0 (positions_of p) ≡ refused chain_item (base + at)
  unfolding check_positions
  marking-low h = now.rest ∙ rw (next-position p at more, lt-ltb (u16_at p at) least h)

  pub marking-high : count ≤ u16_at p at → rising_below count base 0 (positions_of p) ≡ refused chain_item (base + at)
  unfolding check_positions
  marking-high h = now.rest ∙ rw (next-position p at more, le-leb count (u16_at p at) h, or-true)

  -- any other is marked
  pub marking-goes-on : (q : ℕ) → q ≡ u16_at p at → least ≤ q → q < count → count ≤ 512 → Marking p base count (set on q true) (q + 1) (at + 2)
  unfolding check_positions all_below among
  marking-goes-on q is low high few =
      let next : positions_of (drop at p) ≡ q ∷ positions_of (drop (at + 2) p)
      = next-position p at more ∙ ap (λ x. x ∷ positions_of (drop (at + 2) p)) (sym is) in
      record {
        long = length-set on q true ∙ now.long;
        near = omega arith;
        rest = now.rest ∙ rw (next, le-ltb q least low, lt-leb count q high, add-one q, add_assoc base at 2);
        below = now.below ∙ rw (next, lt-ltb q count high);
        marked = λ i. one i (ℕ_discrete i q) ∙ ap (λ x. get_or on i false || among i x) (sym next) ∙ now.marked i;
      }
    where
      one : (i : ℕ) → Dec (i ≡ q) → (get_or (set on q true) i false || among i (positions_of (drop (at + 2) p))) ≡ (get_or on i false || (eqb i q || among i (positions_of (drop (at + 2) p))))
      one i (yes e) = rw (e, get_or-set_same on q true false (omega (arith, now.long)), eq-eqb q q refl, or-true)
      one i (no n) = rw (get_or-set_other on q i true false n, ne_eqb i q n)

-- at the end everything is checked and marked
module _ {p : List ℕ} {base count : ℕ} {on : List Bool} {least at : ℕ} (now : Marking p base count on least at) (done : length p ≤ at + 1) where
  none_left : positions_of (drop at p) ≡ []
  none_left = few-left (drop at p) (omega (arith, length-drop at p))

  pub marking-accepts : rising_below count base 0 (positions_of p) ≡ accepted (positions_of p)
  unfolding check_positions
  marking-accepts = now.rest ∙ rw none_left

  pub marking-below : all_below count (positions_of p) ≡ true
  unfolding all_below
  marking-below = now.below ∙ rw none_left

  pub marking-marks : (i : ℕ) → get_or on i false ≡ among i (positions_of p)
  unfolding among
  marking-marks i = sym (or-false (get_or on i false)) ∙ ap (λ x. get_or on i false || among i x) (sym none_left) ∙ now.marked i

-- What is handed back with a refusal, and at the end.
pub positions-refused : {p : List ℕ} {base count : ℕ} (e : Refusal) → rising_below count base 0 (positions_of p) ≡ refused_by e → PositionsRead p base count (Err e)
positions-refused e is = record { reading = is; below = λ m f. absurd (not_read f); marks = λ m f. absurd (not_read f) }

pub positions-read : {p : List ℕ} {base count : ℕ} (m : Marks) {least at : ℕ} → Marking p base count m.on least at → length p ≤ at + 1 → PositionsRead p base count (Ok m)
positions-read {p} m now done =
    record {
      reading = marking-accepts now done;
      below = λ n f. marking-below now done;
      marks = λ n f. subst (λ (x : Marks). (i : ℕ) → get_or x.on i false ≡ among i (positions_of p)) (same_read f) (marking-marks now done);
    }
