-- Why the calls do so: each row of the reduction is a turn of the loop that crate `echelon` speaks of, so a reduction
-- that is through, or that is stuck, is one of its endings.
use Rattle.std.specs.Prelude.{ℕ, zero, suc, ◌*◌, ◌≤◌, ◌<◌, ◌≡◌, refl, Bool, true, false, ◌≢◌, List, length, set, replicate, Option, Some, None, is_none}
use Rattle.std.proofs.Common.{sym, ◌∙◌, ap, ap₂, subst, subst₂, arith, get_or-set_same, get_or-set_other}
use Rattle.std.proofs.lemmas.Bool.{false≢true}
use Rattle.std.proofs.Math.Decide.{ℕ_discrete}
use Rattle.chains.specs.Chain.{Chain, empty, unit, only, Under, SmallestInClass}
use Rattle.echelon.proofs.Loops.{echelon-start, Reducing, reducing-start, reducing-skip, reducing-add}
use Rattle.echelon.proofs.Loops.{Put, insert-dropped, insert-kept, fill-found, fill_none}
use Rattle.echelon.proofs.Loops.{Classing, class-start, class-skip, class-vacant, class-add, class-done}
use Rattle.columns.specs.Slot.{room_of, chain_r, chain_v, slot, taken_at, store_slot}
use Rattle.columns.specs.SlotLaws.{slot-stored, slot_kept}
use Rattle.columns.specs.Reduce.{red_bytes, Settled, settled, Settles, Inserts, stored_at, taken_with, Ends}
use Rattle.columns.specs.Reduce.{slot_rows, slot_columns, taken_only, kept_rows, Pivots}
use Rattle.columns.specs.ReduceLaws.{stuck, settled-stuck, inserts-from, length-settled, settled_at}
use Rattle.columns.specs.ReduceChains.{kept-vacant, settle-chains, red-chains}
use Rattle.slots.specs.Slots.{SlotsIn, PutsIn, Answers, FillsIn, ClassesIn}

none-taken : (l r : ℕ) → taken_at (replicate l false) r ≡ false
none-taken zero r = refl
none-taken (suc l) zero = refl
none-taken (suc l) (suc r) = none-taken l r

-- Where no slot is taken, no column is in the slots, whatever bytes the work memory holds.
module _ (h : ℕ) (work : List ℕ) (l : ℕ) where
  pub no-columns : (D : ℕ → Chain) (n m : ℕ) → SlotsIn h work (replicate l false) D n m 0
  no-columns D n m = record {
    echelon = echelon-start D n m _ _
        (λ r low. kept-vacant (replicate l false) r (slot_rows h work) (none-taken l r))
        (λ r low. kept-vacant (replicate l false) r (slot_columns h work) (none-taken l r));
    pivots = λ r e. absurd (false≢true (sym (none-taken l r) ∙ e));
  }

-- A pair that holds row r, stored in slot r, which is taken then, is put into that slot.
module _ (h : ℕ) (work : List ℕ) (taken : List Bool) (room : room_of h ≤ length work) (r : ℕ) (low : r < 8 * h)
    (listed : r < length taken) (left : List ℕ) (long : length left ≡ 2 * h) where
  own-slot : taken_at (set taken r true) r ≡ true
  own-slot = get_or-set_same taken r true false listed

  other-slot : (j : ℕ) → j ≢ r → taken_at (set taken r true) j ≡ taken_at taken j
  other-slot j other = get_or-set_other taken r j true false other

  -- in the table of either half
  put_in : (half : List ℕ → Chain) (m : ℕ)
      → Put m (taken_only taken (λ j. half (slot h work j))) r (half left)
      (taken_only (set taken r true) (λ j. half (slot h (store_slot h work r left) j)))
  put_in half m = record {
    here =
        ap (λ b. only b (half (slot h (store_slot h work r left) r))) own-slot
        ∙ ap half (slot-stored h work r low room left long);
    others = λ j l other.
        ap₂ (λ b c. only b (half c)) (other-slot j other) (slot_kept h work r low room left long j other);
  }

  -- so every slot that is taken still holds its own row
  pivots-put : chain_r h left r ≡ true → Pivots h work taken → Pivots h (store_slot h work r left) (set taken r true)
  pivots-put held pivots j e = elim (ℕ_discrete j r) [
    | yes same ↦ subst (λ i. chain_r h (slot h (store_slot h work r left) i) i ≡ true) (sym same)
        (ap (λ c. chain_r h c r) (slot-stored h work r low room left long) ∙ held)
    | no other ↦ ap (λ c. chain_r h c j) (slot_kept h work r low room left long j other)
        ∙ pivots j (sym (other-slot j other) ∙ e)
  ]

module _ {h m : ℕ} {work : List ℕ} {taken : List Bool} {cur : List ℕ} (low : m ≤ 8 * h) (room : room_of h ≤ length work)
    (whole : length cur ≡ 2 * h) where
  -- A reduction that has settled is one of the endings, whatever chain was in hand.
  settled-reducing : {D : ℕ → Chain} {n k : ℕ} {start first : Chain} {answer : Option ℕ} {left : List ℕ}
      → SlotsIn h work taken D n m k → Settles h work taken m cur answer left → Under m start
      → chain_r h cur ≡ start → chain_v h cur ≡ first
      → Ends (Reducing D n k start first) (kept_rows h work taken) answer (chain_r h left) (chain_v h left)
  settled-reducing {D} {n} {k} {start} {first} {answer} {left} slots s u er ev =
      settle-chains h work taken room slots.pivots (Reducing D n k start first) m low
      (λ r c v l p out. reducing-skip r refl p out)
      (λ r c v l p held full. reducing-add r refl slots.echelon p l full held refl refl)
      cur answer left s whole
      (subst₂ (Reducing D n k start first m) (sym er) (sym ev) (reducing-start D n m k start first u))

  -- an insertion may begin at any row above those that the pair holds
  pub puts-in : {top : ℕ} {answer : Option ℕ} {left after : List ℕ} {taken_after : List Bool} → top ≤ length taken
      → top ≤ m → Under top (chain_r h cur) → Inserts h work taken top cur answer left after taken_after → PutsIn h m work taken cur after taken_after
  puts-in {top} {answer} {left} {after} {taken_after} listed le held from-top = record { next = next }
    where
      s : Inserts h work taken m cur answer left after taken_after
      s = inserts-from h work taken le held from-top

      long : length left ≡ 2 * h
      long = ap length s.settles.what-left ∙ length-settled h work taken m cur ∙ whole

      next : (D : ℕ → Chain) (n k : ℕ) → k < n → Under m (D k) → SlotsIn h work taken D n m k
          → chain_r h cur ≡ D k → chain_v h cur ≡ unit k → SlotsIn h after taken_after D n m (suc k)
      next D n k lt u slots er ev =
          subst₂ (λ a t. SlotsIn h a t D n m (suc k)) (sym s.stored) (sym s.marked)
          (go answer refl (settled-reducing slots s.settles u er ev))
        where
          go : (a : Option ℕ) → answer ≡ a
              → Ends (Reducing D n k (D k) (unit k)) (kept_rows h work taken) a (chain_r h left) (chain_v h left)
              → SlotsIn h (stored_at h work a left) (taken_with taken a) D n m (suc k)
          go None e p = record { echelon = insert-dropped lt slots.echelon p; pivots = slots.pivots }
          go (Some r) e p =
              let below : r < m = (settled_at h work taken m cur r (sym s.settles.where-stuck ∙ e)).0 in
              let inside : r < 8 * h = omega arith in
              let known : r < length taken =
              omega (arith, (settled_at h work taken top cur r (sym from-top.settles.where-stuck ∙ e)).0, listed) in
              record {
                echelon = insert-kept lt slots.echelon refl p.0 below p.2 p.1 _ _
                    (put_in h work taken room r inside known left long (chain_r h) m)
                    (put_in h work taken room r inside known left long (chain_v h) m);
                pivots = pivots-put h work taken room r inside known left long p.1 slots.pivots;
              }

  -- a pair whose highest row has a slot that is not taken is stuck there from the start, so it may be stored as it is
  pub puts-at-once : {top : ℕ} → top < length taken → top < m → Under (suc top) (chain_r h cur) → chain_r h cur top ≡ true
      → taken_at taken top ≡ false → PutsIn h m work taken cur (store_slot h work top cur) (set taken top true)
  puts-at-once {top} listed le under held vacant =
      let at_top : settled h work taken (suc top) cur ≡ record { at = Some top; cur = cur } =
      settled-stuck h work taken top cur (stuck h work taken top cur held vacant) in
      puts-in listed le under (
      record {
        settles = record {
          where-stuck = ap (λ (s : Settled). s.at) (sym at_top);
          what-left = ap (λ (s : Settled). s.cur) (sym at_top);
        };
        stored = refl;
        marked = refl;
      }
      )

  -- Through with all rows, what was collected is the smallest filling; stuck, there is none.
  pub fills-in : {stuck : Option ℕ} {answer : Bool} {left : List ℕ} → Settles h work taken m cur stuck left
      → answer ≡ is_none stuck → FillsIn h m work taken cur answer left
  fills-in {stuck} {answer} {left} s told = record { answers = answers }
    where
      answers : (D : ℕ → Chain) (n : ℕ) (A : Chain) → SlotsIn h work taken D n m n → Under m A
          → chain_r h cur ≡ A → chain_v h cur ≡ empty → Answers D n A answer (chain_v h left)
      answers D n A slots u er ev =
          subst (λ b. Answers D n A b (chain_v h left)) (sym told) (go stuck refl (settled-reducing slots s u er ev))
        where
          go : (a : Option ℕ) → stuck ≡ a → Ends (Reducing D n n A empty) (kept_rows h work taken) a (chain_r h left) (chain_v h left)
              → Answers D n A (is_none a) (chain_v h left)
          go None e p = fill-found slots.echelon p
          go (Some r) e p =
              let below : r < m = (settled_at h work taken m cur r (sym s.where-stuck ∙ e)).0 in
              fill_none slots.echelon refl p.0 below p.2 p.1

  pub classes-in : {left : List ℕ} → left ≡ red_bytes h work taken m cur → ClassesIn h m work taken cur left
  classes-in {left} e = record { smallest = smallest }
    where
      smallest : (D : ℕ → Chain) (n : ℕ) (A : Chain) → SlotsIn h work taken D n m n → ((i : ℕ) → i < n → Under m (D i))
          → Under m A → chain_r h cur ≡ A → SmallestInClass D n m A (chain_r h left)
      smallest D n A slots columns u er =
          subst (λ l. SmallestInClass D n m A (chain_r h l)) (sym e)
          (class-done slots.echelon columns u
          (red-chains h work taken room slots.pivots (λ i now v. Classing (kept_rows h work taken) m A i now) m low
          (λ r c v l p out. class-skip r refl p out)
          (λ r c v l p held full. class-add r refl p held refl)
          (λ r c v l p held out. class-vacant r refl p (slots.echelon.vacant r l out))
          cur whole (subst (Classing (kept_rows h work taken) m A m) (sym er) (class-start (kept_rows h work taken) m A))))
