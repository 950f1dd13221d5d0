-- Reading a walk: what is still to be checked and marked, together with what was, is always the whole.
use Prim.Native.Nat.{ℕ, suc, ◌+◌, ◌≤◌, ◌<◌}
use mathlib.Core.Path.{◌≡◌, refl, sym, ◌∙◌, ap, ap₂, subst}
use mathlib.Core.Bool.{Bool, true, false, ◌||◌, cond, or-false, or-true}
use mathlib.Core.List.{List, [], ◌∷◌}
use native.Mathlib.Omega.{arith}
use native.Mathlib.Nat.{add-zero, add_assoc}
use native.Mathlib.Numerals.{add-one}
use native.Mathlib.Decide.{ℕ_discrete, dec_lt}
use lib.ListN.{length, get_or, set, drop, replicate, length-set, length-replicate, drop_of_length-le}
use lib.Seq.{drop-cons, get_or-set_same, get_or-set_other}
use lib.Dec.{ltb}
use borrow.Author.Tests.{lt-ltb, le-ltb, eq-eqb, ne_eqb}
use Rattle.format.specs.Numbers.{chain_item}
use Rattle.format.specs.Simplex.{Simplex, same, rank, ranked, unlisted, listed}
use Rattle.format.specs.Reading.{accepted, refused, edge_between, steps_from, steps, read_steps, walk_chain}
use Rattle.format.specs.Listed.{is_ranked, listed-ranked, rank-stands}
use Rattle.format.specs.Marks.{check_steps, steps_then, step-marks, Once}
use Rattle.std.proofs.Common.{Ok, Err}
use Rattle.refusals.specs.Readings.{refused_by, not_read, same_read}
use Rattle.refusals.specs.declared.Refusal.{Refusal}
use Rattle.lists.specs.declared.Marks.{Marks}
use Rattle.lists.specs.Meaning.{rank_of}
use Rattle.std.proofs.Common.{Option}
use Rattle.lookup.specs.Indexed.{Proper, Keyed, Indexed}
use Rattle.chosen.specs.Meaning.{WalkRead, step_at}
use Rattle.chosen.proofs.Positions.{then-accepted, all-off}

-- the steps from place i on
unfoldable pub steps_left : List ℕ → ℕ → List Simplex
steps_left p i = cond (ltb i (length p)) (steps_from (get_or p 0 0) (get_or p i 0) (drop (suc i) p)) []

all-steps : (p : List ℕ) → steps_left p 0 ≡ steps p
unfolding steps_left
all-steps [] = refl
all-steps (w ∷ p) = rw (lt-ltb 0 (length (w ∷ p)) (omega arith))

no_steps : (p : List ℕ) (i : ℕ) → length p ≤ i → steps_left p i ≡ []
unfolding steps_left
no_steps p i h = rw (le-ltb i (length p) h)

next-step : (p : List ℕ) (i : ℕ) → i < length p → steps_left p i ≡ step_at p i ∷ steps_left p (i + 1)
unfolding steps_left steps_from
next-step p i h = go (dec_lt (i + 1) (length p))
  where
    go : Dec (i + 1 < length p) → cond (ltb i (length p)) (steps_from (get_or p 0 0) (get_or p i 0) (drop (suc i) p)) [] ≡ step_at p i ∷ cond (ltb (i + 1) (length p)) (steps_from (get_or p 0 0) (get_or p (i + 1) 0) (drop (suc (i + 1)) p)) []
    go (yes more) = rw (lt-ltb i (length p) h, lt-ltb (i + 1) (length p) more, add-one i, drop-cons p (suc i) 0 (omega arith))
    go (no last) = rw (lt-ltb i (length p) h, le-ltb (i + 1) (length p) (omega arith), drop_of_length-le p {i = suc i} (omega arith))

-- THE INVARIANT, at place i of the walk.
pub record Walking (p : List ℕ) (base : ℕ) (edges : List Simplex) (on : List Bool) (i : ℕ) : Type 0 where
  pub long : length on ≡ 512
  pub near : i ≤ length p
  pub rest : read_steps edges base (steps p) ≡ check_steps edges (base + i) (steps_left p i) (accepted (steps p))
  pub marked : Once edges → (j : ℕ) → j < length edges → (get_or on j false || listed (get_or edges j []) (steps_left p i)) ≡ listed (get_or edges j []) (steps p)

pub walking-starts : (p : List ℕ) (base : ℕ) (edges : List Simplex) (on : List Bool) → on ≡ replicate 512 false → Walking p base edges on 0
walking-starts p base edges on off =
    record {
      long = ap length off ∙ length-replicate 512 false;
      near = omega arith;
      rest = sym (then-accepted (read_steps edges base (steps p))) ∙ steps_then edges base (steps p) accepted ∙ ap₂ (λ n l. check_steps edges n l (accepted (steps p))) (sym (add-zero base)) (sym (all-steps p));
      marked = λ once j h. ap (λ x. get_or x j false || listed (get_or edges j []) (steps_left p 0)) off ∙ ap (λ x. x || listed (get_or edges j []) (steps_left p 0)) (all-off 512 j) ∙ ap (listed (get_or edges j [])) (all-steps p);
    }

module _ {p : List ℕ} {base : ℕ} {edges : List Simplex} {on : List Bool} {i : ℕ} (now : Walking p base edges on i) (more : i < length p) where
  -- a step that is no listed edge is refused where it begins
  pub walking-astray : rank (step_at p i) edges ≡ unlisted → read_steps edges base (steps p) ≡ refused chain_item (base + i)
  unfolding check_steps is_ranked
  walking-astray e = now.rest ∙ rw (next-step p i more, listed-ranked 0 (step_at p i) edges, e)

  pub walking-goes-on : (r : ℕ) → rank (step_at p i) edges ≡ ranked r → r < 512 → Walking p base edges (set on r true) (i + 1)
  unfolding check_steps listed is_ranked
  walking-goes-on r e few =
      record {
        long = length-set on r true ∙ now.long;
        near = omega arith;
        rest = now.rest ∙ rw (next-step p i more, listed-ranked 0 (step_at p i) edges, e, add_assoc base i 1);
        marked = λ once j h. one once j h (ℕ_discrete j r) ∙ ap (λ x. get_or on j false || listed (get_or edges j []) x) (sym (next-step p i more)) ∙ now.marked once j h;
      }
    where
      one : Once edges → (j : ℕ) → j < length edges → Dec (j ≡ r) → (get_or (set on r true) j false || listed (get_or edges j []) (steps_left p (i + 1))) ≡ (get_or on j false || (same (get_or edges j []) (step_at p i) || listed (get_or edges j []) (steps_left p (i + 1))))
      one once j h (yes z) = rw (step-marks edges once (step_at p i) r e j h, z, get_or-set_same on r true false (omega (arith, now.long)), eq-eqb r r refl, or-true)
      one once j h (no n) = rw (step-marks edges once (step_at p i) r e j h, get_or-set_other on r j true false n, ne_eqb j r n)

-- What is handed back with a refusal, and at the end.
pub walk_refused : {p : List ℕ} {base : ℕ} {edges : List Simplex} (e : Refusal) → read_steps edges base (steps p) ≡ refused_by e → WalkRead p base edges (Err e)
walk_refused e is = record { reading = is; marks = λ m f. absurd (not_read f) }

pub walk-read : {p : List ℕ} {base : ℕ} {edges : List Simplex} (m : Marks) {i : ℕ} → Walking p base edges m.on i → length p ≤ i → WalkRead p base edges (Ok m)
unfolding check_steps walk_chain listed
walk-read {p} {edges = edges} m {i} now done =
    record {
      reading = now.rest ∙ rw (no_steps p i done);
      marks = λ n f.
          subst (λ (x : Marks). Once edges → (j : ℕ) → j < length edges → get_or x.on j false ≡ walk_chain (steps p) (get_or edges j [])) (same_read f)
          (λ once j h.
          sym (or-false (get_or m.on j false)) ∙ ap (λ x. get_or m.on j false || listed (get_or edges j []) x) (sym (no_steps p i done)) ∙ now.marked once j h);
    }

-- a rank in an index is below the list's limit
pub rank-few : {edges : List Simplex} {keys first next : List ℕ} {n r : ℕ} (s : Simplex) → n ≤ 512 → Indexed edges keys first next n
    → rank s edges ≡ ranked r → r < 512
rank-few {edges} {r = r} s few indexed e = omega (arith, (rank-stands s edges r e).below, indexed.keyed.count)

-- a step is an edge
step-wide : (p : List ℕ) (i : ℕ) → length (step_at p i) ≡ 2
step-wide p i = two (get_or p i 0) (cond (ltb (i + 1) (length p)) (get_or p (i + 1) 0) (get_or p 0 0))
  where
    either : (b : Bool) (x y : ℕ) → length (cond b (x ∷ y ∷ []) (y ∷ x ∷ [])) ≡ 2
    either true x y = refl
    either false x y = refl

    two : (x y : ℕ) → length (edge_between x y) ≡ 2
    two x y = either (ltb x y) x y

-- what the look-up of a step says of the edges, which are entered
pub looked-up : (p : List ℕ) (i : ℕ) {edges : List Simplex} {keys first next : List ℕ} {n : ℕ} {found : Option ℕ} (f : Option ℕ) {s : Simplex}
    → s ≡ step_at p i → ((l : List Simplex) → Proper (length s) l → Keyed l keys n → rank_of found ≡ rank s l)
    → Proper 2 edges → Indexed edges keys first next n → found ≡ f → rank (step_at p i) edges ≡ rank_of f
looked-up p i {edges = edges} f e told proper indexed g =
    ap (λ (x : Simplex). rank x edges) (sym e)
    ∙ sym (told edges (subst (λ (w : ℕ). Proper w edges) (sym (ap length e ∙ step-wide p i)) proper) indexed.keyed)
    ∙ ap rank_of g

-- a step to the next vertex, and the last one, home
pub step-on : (p : List ℕ) (i : ℕ) → i + 1 < length p → step_at p i ≡ edge_between (get_or p i 0) (get_or p (i + 1) 0)
step-on p i h = rw (lt-ltb (i + 1) (length p) h)

pub step-home : (p : List ℕ) (i : ℕ) → length p ≤ i + 1 → step_at p i ≡ edge_between (get_or p i 0) (get_or p 0 0)
step-home p i h = rw (le-ltb (i + 1) (length p) h)
