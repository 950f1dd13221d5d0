-- The loop that reduces until it is stuck: no row from `left` up is both held and dealt with later, so what the
-- reduction of the start settles to is what the reduction of the pair in hand, over the rows below `left`, settles to.
use Prim.Native.Nat.{ℕ, suc, ◌+◌, ◌-◌, ◌*◌, ◌/◌, ◌%◌, ◌≤◌, ◌<◌}
use mathlib.Core.Path.{◌≡◌, refl, sym, ap, ap₂, ◌∙◌, subst}
use mathlib.Core.Bool.{Bool, true, false}
use mathlib.Core.List.{List}
use native.Mathlib.Nat.{mul-mod_left}
use native.Mathlib.Omega.{arith}
use lib.ListN.{length}
use lib.Bits.{bit_xor}
use Rattle.std.specs.Prelude.{Option, Some, None}
use Rattle.chains.specs.Chain.{Chain, differ}
use Rattle.columns.specs.Column.{bit, bit_at, chain_of, xor_bytes}
use Rattle.columns.specs.ColumnLaws.{bit-xor, length-xor, chain_of-xor}
use Rattle.columns.specs.Slot.{room_of, slot, taken_at}
use Rattle.columns.specs.SlotLaws.{bit-half_r, length-slot}
use Rattle.columns.specs.Word.{WordAt}
use Rattle.columns.proofs.Words.{bit-part}
use Rattle.columns.specs.Search.{highest_below, HighestAt, highest-held, highest-skip, highest-at, highest-nothing}
use Rattle.columns.specs.Reduce.{held_at, red_bytes, rows_left, Settled, settled, Settles}
use Rattle.columns.specs.ReduceLaws.{row-add, stuck, not_stuck, settled-stuck, settled_on, settled-skip, settled-red, settled_at, length-settled}

pub record Settling (h : ℕ) (work : List ℕ) (taken : List Bool) (rows : ℕ) (start cur : List ℕ) (left : ℕ) : Type 0 where
  pub low : rows ≤ 8 * h
  pub within : left ≤ rows
  pub long : length cur ≡ length start
  pub same : settled h work taken rows start ≡ settled h work taken left cur

module _ {h : ℕ} {work : List ℕ} {taken : List Bool} {rows : ℕ} {start cur : List ℕ} {left : ℕ}
    (s : Settling h work taken rows start cur left) {answer : Option ℕ} (searched : answer ≡ highest_below (chain_of cur) left) where
  -- row j of those left is a bit of the whole pair
  row-bit : (j : ℕ) → j < left → held_at h j cur ≡ bit_at cur j
  row-bit j l = bit-half_r h cur j (let low = s.low in let w = s.within in omega arith)

  -- nothing is held: it is through
  pub settling-end : answer ≡ None → Settles h work taken rows start None cur
  unfolding settled
  settling-end none =
      let all : settled h work taken rows start ≡ record { at = None; cur = cur } =
      s.same
      ∙ settled-skip h work taken 0 left cur (omega arith)
      (λ j p q. row-bit j q ∙ highest-nothing (chain_of cur) left (sym searched ∙ none) j q) in
      record { where-stuck = sym (ap (λ (t : Settled). t.at) all); what-left = sym (ap (λ (t : Settled). t.cur) all) }

  module _ {r : ℕ} (found : answer ≡ Some r) where
    at_row : HighestAt (chain_of cur) left r
    at_row = highest-at (chain_of cur) left r (sym searched ∙ found)

    pub row_below : r < left
    row_below = at_row.below

    pub row_low : r < 8 * h
    row_low = let a = row_below in let l = s.low in let w = s.within in omega arith

    held : held_at h r cur ≡ true
    held = row-bit r row_below ∙ at_row.holds

    -- the rows above r are not held
    down : settled h work taken left cur ≡ settled h work taken (suc r) cur
    down = settled-skip h work taken (suc r) left cur row_below (λ j p q. row-bit j q ∙ at_row.above j p q)

    -- the slot is not taken: it is stuck
    pub settling-stop : taken_at taken r ≡ false → Settles h work taken rows start (Some r) cur
    settling-stop out =
        let all : settled h work taken rows start ≡ record { at = Some r; cur = cur } =
        s.same ∙ down ∙ settled-stuck h work taken r cur (stuck h work taken r cur held out) in
        record { where-stuck = sym (ap (λ (t : Settled). t.at) all); what-left = sym (ap (λ (t : Settled). t.cur) all) }

    -- the slot is added: on with the rows below
    pub settling-add : {next : List ℕ} → taken_at taken r ≡ true → next ≡ xor_bytes cur (slot h work r)
        → Settling h work taken rows start next r
    settling-add full e = record {
      low = s.low;
      within = let a = row_below in let w = s.within in omega arith;
      long = ap length e ∙ length-xor cur (slot h work r) ∙ s.long;
      same = s.same
          ∙ down
          ∙ settled_on h work taken r cur (not_stuck h work taken r cur full)
          ∙ ap (settled h work taken r) (row-add h work taken r cur held full ∙ sym e);
    }

-- ---- words of sums

-- the word of a pair to which a slot was added is the sum of the two words
word_sum : (h : ℕ) (work : List ℕ) (r : ℕ) → r < 8 * h → room_of h ≤ length work → (cur : List ℕ) (at word other : ℕ)
    → length cur ≡ 2 * h → at + 8 ≤ 2 * h → WordAt cur at word → WordAt work (r * (2 * h) + at) other
    → WordAt (xor_bytes cur (slot h work r)) at (bit_xor word other)
unfolding slot
word_sum h work r low room cur at word other pair within w v = record {
  holds = λ k l.
      let place : 8 * (r * (2 * h) + at) + k ≡ 8 * (r * (2 * h)) + (8 * at + k) = omega arith in
      bit-xor word other k
      ∙ ap₂ differ (w.holds k l) (v.holds k l ∙ ap (bit_at work) place ∙ sym (bit-part work (r * (2 * h)) (2 * h) (8 * at + k) (omega arith)))
      ∙ sym (ap (λ (c : Chain). c (8 * at + k)) (chain_of-xor cur (slot h work r) (omega (arith, length-slot h work r low room))));
}

-- ---- the same loop with a word of the pair kept beside it: the bits of the word are those of the pair from byte `at` on

pub record Scanning (h : ℕ) (work : List ℕ) (taken : List Bool) (rows : ℕ) (start cur : List ℕ) (at left word : ℕ) : Type 0 where
  pub settling : Settling h work taken rows start cur (at * 8 + left)
  pub read : WordAt cur at word
  pub few : left ≤ 64
  pub whole : at % 8 ≡ 0

module _ {h : ℕ} {work : List ℕ} {taken : List Bool} {rows : ℕ} {start cur : List ℕ} {at left word : ℕ}
    (s : Scanning h work taken rows start cur at left word) where
  -- where the word stands, it is within the first half of the pair
  pub scan-low : at ≤ h
  scan-low = omega (arith, s.settling.low, s.settling.within)

  module _ {answer : Option ℕ} (searched : answer ≡ highest_below (bit word) left) where
    -- a bit of the word that is searched is a row of the pair
    word_row : (j : ℕ) → at * 8 ≤ j → j < at * 8 + left → bit word (j - at * 8) ≡ bit_at cur j
    word_row j p q =
        let same : 8 * at + (j - at * 8) ≡ j = omega arith in
        s.read.holds (j - at * 8) (omega (arith, s.few)) ∙ ap (bit_at cur) same

    -- ---- the word holds no row: they are all passed over

    module _ (none : answer ≡ None) where
      passed : Settling h work taken rows start cur (at * 8)
      passed = record {
        low = s.settling.low;
        within = omega (arith, s.settling.within);
        long = s.settling.long;
        same = s.settling.same
            ∙ settled-skip h work taken (at * 8) (at * 8 + left) cur (omega arith)
            (λ j p q.
            bit-half_r h cur j (omega (arith, s.settling.low, s.settling.within))
            ∙ sym (word_row j p q)
            ∙ highest-nothing (bit word) left (sym searched ∙ none) (j - at * 8) (omega arith));
      }

      -- it was the lowest word
      pub scanning-end : at ≡ 0 → Settles h work taken rows start None cur
      unfolding highest_below
      scanning-end z =
          let through : Settling h work taken rows start cur 0 = subst (λ (n : ℕ). Settling h work taken rows start cur (n * 8)) z passed in
          settling-end through {answer = None} refl refl

      -- on with the word below
      pub scanning-down : (at ≡ 0 → ⊥) → (next : ℕ) → WordAt cur (at - 8) next
          → Scanning h work taken rows start cur (at - 8) 64 next
      scanning-down some next w =
          let parts : at * 8 ≡ (at - 8) * 8 + 64 = omega (arith, s.whole) in
          let lower : at - 8 ≡ (at / 8 - 1) * 8 = omega (arith, s.whole) in
          record {
            settling = subst (Settling h work taken rows start cur) parts passed;
            read = w;
            few = omega arith;
            whole = ap (λ (n : ℕ). n % 8) lower ∙ mul-mod_left (at / 8 - 1) 8;
          }

    -- ---- the word holds a row, and none above

    module _ {k : ℕ} (found : answer ≡ Some k) where
      top : HighestAt (bit word) left k
      top = highest-at (bit word) left k (sym searched ∙ found)

      pub bit_below : k < left
      bit_below = top.below

      row-found : Some (at * 8 + k) ≡ highest_below (chain_of cur) (at * 8 + left)
      row-found =
          let back : at * 8 + k - at * 8 ≡ k = omega arith in
          sym (highest-skip (chain_of cur) (suc (at * 8 + k)) (at * 8 + left) (omega (arith, bit_below))
          (λ j p q. sym (word_row j (omega arith) q) ∙ top.above (j - at * 8) (omega arith) (omega arith))
          ∙ highest-held (chain_of cur) (at * 8 + k)
          (sym (word_row (at * 8 + k) (omega arith) (omega (arith, bit_below))) ∙ ap (bit word) back ∙ top.holds))

      scan-row-low : at * 8 + k < 8 * h
      scan-row-low = row_low s.settling row-found refl

      pub scan-row-below : at * 8 + k < rows
      scan-row-below = omega (arith, bit_below, s.settling.within)

      pub scanning-stop : taken_at taken (at * 8 + k) ≡ false → Settles h work taken rows start (Some (at * 8 + k)) cur
      scanning-stop out = settling-stop s.settling row-found refl out

      -- the slot is added to the pair, and its word to the word
      pub scanning-add : {next : List ℕ} (other : ℕ) → 8 ≤ h → room_of h ≤ length work → length start ≡ 2 * h
          → taken_at taken (at * 8 + k) ≡ true
          → next ≡ xor_bytes cur (slot h work (at * 8 + k))
          → WordAt work ((at * 8 + k) * (2 * h) + at) other
          → Scanning h work taken rows start next at k (bit_xor word other)
      scanning-add {next} other big room pair full e w = record {
        settling = settling-add s.settling row-found refl full e;
        read = subst (λ (l : List ℕ). WordAt l at (bit_xor word other)) (sym e) (word_sum h work (at * 8 + k) scan-row-low room cur at word other (s.settling.long ∙ pair) (omega (arith, scan-low)) s.read w);
        few = omega (arith, bit_below, s.few);
        whole = s.whole;
      }

-- ---- the full reduction, from one row at which it is stuck to the next

pub record Reducing (h : ℕ) (work : List ℕ) (taken : List Bool) (rows : ℕ) (start cur : List ℕ) (left : ℕ) : Type 0 where
  pub within : left ≤ rows
  pub long : length cur ≡ length start
  pub same : red_bytes h work taken rows start ≡ red_bytes h work taken left cur

-- where `settle` answers a row, that row is below the rows that it was given
pub stuck-below : {h : ℕ} {work : List ℕ} {taken : List Bool} {rows : ℕ} {cur : List ℕ} {answer : Option ℕ} {l : List ℕ} {r : ℕ}
    → Settles h work taken rows cur answer l → answer ≡ Some r → r < rows
stuck-below {h} {work} {taken} {rows} {cur} {r = r} e found = (settled_at h work taken rows cur r (sym e.where-stuck ∙ found)).0

module _ {h : ℕ} {work : List ℕ} {taken : List Bool} {rows : ℕ} {start cur : List ℕ} {left : ℕ}
    (s : Reducing h work taken rows start cur left) {answer : Option ℕ} {l : List ℕ} (e : Settles h work taken left cur answer l) where
  -- the row at which it settled, and what is left, is as far as the reduction has come
  so_far : red_bytes h work taken rows start ≡ red_bytes h work taken (rows_left answer) l
  so_far =
      s.same
      ∙ settled-red h work taken left cur
      ∙ ap₂ (λ (a : Option ℕ) (c : List ℕ). red_bytes h work taken (rows_left a) c) (sym e.where-stuck) (sym e.what-left)

  pub reducing-end : answer ≡ None → l ≡ red_bytes h work taken rows start
  unfolding red_bytes
  reducing-end none = sym (so_far ∙ ap (λ (a : Option ℕ). red_bytes h work taken (rows_left a) l) none)

  pub reducing-on : {r : ℕ} → answer ≡ Some r → Reducing h work taken rows start l r
  reducing-on found = record {
    within = let b = stuck-below e found in let w = s.within in omega arith;
    long = ap length e.what-left ∙ length-settled h work taken left cur ∙ s.long;
    same = so_far ∙ ap (λ (a : Option ℕ). red_bytes h work taken (rows_left a) l) found;
  }
