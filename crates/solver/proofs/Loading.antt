-- The loop over the columns, in rising rank: the boundary of the next simplex and its rank alone make a pair of columns,
-- and putting it in is one turn of the reduction. A column whose highest row has a slot that is not taken is put in by
-- being written there.
use Prim.Native.Nat.{ℕ, suc, ◌+◌, ◌*◌, ◌≤◌, ◌<◌}
use native.Mathlib.Nat.{mul-le-mul_left, le_of_eq}
use native.Mathlib.Omega.{arith}
use native.Mathlib.Numerals.{add-one}
use mathlib.Core.Path.{◌≡◌, refl, sym, ap, ap₂, ◌∙◌, subst}
use mathlib.Core.Bool.{Bool, true, false}
use mathlib.Core.List.{List, [], ◌++◌, append_assoc}
use lib.ListN.{length, get_or, set, take, drop, replicate, length-replicate}
use lib.Seq.{take_all, drop-drop}
use Rattle.chains.specs.Chain.{Chain, ◌⊕◌, unit, Under}
use Rattle.format.specs.Simplex.{Simplex, simplex_boundary, columns}
use Rattle.format.specs.Matrix.{columns-under}
use Rattle.columns.specs.Column.{flipped}
use Rattle.columns.specs.Slot.{room_of, chain_r, chain_v, slot, store_slot, taken_at}
use Rattle.columns.specs.SlotLaws.{length-slot}
use Rattle.columns.specs.PairLaws.{flipped-v, flipped-v-keeps, half_r-zeros, half_v-zeros}
use Rattle.slots.specs.Slots.{SlotsIn, PutsIn}
use Rattle.slots.specs.Laws.{no-columns, puts-at-once}
use Rattle.solver.specs.Columns.{AddsBoundary, HighestSide, HoldsColumn, WritesColumn, PutsNext, Loads}

-- A COLUMN IS WRITTEN over a pair of columns: zeros, then the boundary, then the rank.
pub column-written : {rows : List Simplex} {s : Simplex} {own : ℕ} {col zeros built made : List ℕ} → zeros ≡ replicate (length col) 0
    → AddsBoundary rows s zeros built → length built ≡ length zeros → made ≡ flipped built own → WritesColumn rows s own col made
column-written {rows} {s} {own} {col} {zeros} {built} {made} cleared added long put = record { column = column }
  where
    column : (h rank : ℕ) → length col ≡ 2 * h → length rows ≤ 8 * h → rank < 8 * h → own ≡ 8 * h + rank → HoldsColumn h rows s rank made
    column h rank whole small below e = record {
      boundary =
          ap (chain_r h) made-is
          ∙ flipped-v-keeps h built built-whole rank below
          ∙ added.adds h zeros-whole small
          ∙ ap (λ c. c ⊕ simplex_boundary rows s) (ap (chain_r h) cleared ∙ half_r-zeros h (length col));
      alone =
          ap (chain_v h) made-is
          ∙ flipped-v h built built-whole rank below
          ∙ ap (λ c. c ⊕ unit rank) (added.keeps h zeros-whole small ∙ ap (chain_v h) cleared ∙ half_v-zeros h (length col));
    }
      where
        zeros-whole : length zeros ≡ 2 * h
        zeros-whole = ap length cleared ∙ length-replicate (length col) 0 ∙ whole

        built-whole : length built ≡ 2 * h
        built-whole = long ∙ zeros-whole

        made-is : made ≡ flipped built (8 * h + rank)
        made-is = put ∙ ap (flipped built) e

-- A SLOT AS A PART of the work memory: k bytes from the first of the slot on.
module _ (h : ℕ) (work : List ℕ) (r k : ℕ) (size : k ≡ 2 * h) where
  pub length_part : r < 8 * h → room_of h ≤ length work → length (take k (drop (r * (2 * h)) work)) ≡ 2 * h
  unfolding slot
  length_part low room = ap (λ (n : ℕ). length (take n (drop (r * (2 * h)) work))) size ∙ length-slot h work r low room

  -- what is written over the part is stored in the slot
  pub part-stored : (col : List ℕ) → length col ≡ 2 * h
      → take (r * (2 * h)) work ++ (col ++ drop k (drop (r * (2 * h)) work)) ≡ store_slot h work r col
  unfolding store_slot
  part-stored col whole =
      let rest : drop k (drop (r * (2 * h)) work) ≡ drop (r * (2 * h) + 2 * h) work =
      drop-drop k (r * (2 * h)) work ∙ ap (λ (n : ℕ). drop (r * (2 * h) + n) work) size in
      ap₂ (λ (c t : List ℕ). take (r * (2 * h)) work ++ (c ++ t)) (sym (take_all (2 * h) col (le_of_eq whole))) rest
      ∙ sym (append_assoc (take (r * (2 * h)) work) (take (2 * h) col) (drop (r * (2 * h) + 2 * h) work))

-- THE NEXT COLUMN IS PUT IN: col is its pair.
module _ {h rank : ℕ} (rows cols : List Simplex) {col : List ℕ} (lt : rank < length cols) (small : length rows ≤ 8 * h)
    (column : HoldsColumn h rows (get_or cols rank []) rank col) where
  puts-next : {work after : List ℕ} {taken taken_after : List Bool} → PutsIn h (length rows) work taken col after taken_after
      → PutsNext h rows cols rank work taken after taken_after
  puts-next put = record {
    next = λ slots.
        put.next (columns rows cols) (length cols) rank lt (columns-under rows cols rank) slots column.boundary column.alone;
  }

  module _ {top : ℕ} (high : HighestSide rows (get_or cols rank []) top) where
    rows_under : Under (suc top) (chain_r h col)
    rows_under j ge = ap (λ (c : Chain). c j) column.boundary ∙ high.top.above j ge

    -- by a reduction that begins at its highest row
    pub next-inserted : {work after : List ℕ} {taken taken_after : List Bool}
        → ((m : ℕ) → top + 1 ≤ m → m ≤ 8 * h → Under (top + 1) (chain_r h col) → PutsIn h m work taken col after taken_after)
        → PutsNext h rows cols rank work taken after taken_after
    next-inserted puts =
        puts-next
        (puts (length rows) (omega (arith, high.below)) small (subst (λ (n : ℕ). Under n (chain_r h col)) (sym (add-one top)) rows_under))

    -- straight into the slot of its highest row, which was not taken
    pub next-written : {work after : List ℕ} {taken : List Bool} → room_of h ≤ length work → length col ≡ 2 * h → top < length taken
        → taken_at taken top ≡ false → after ≡ store_slot h work top col → PutsNext h rows cols rank work taken after (set taken top true)
    next-written {work} {after} {taken} room whole listed vacant stored =
        puts-next
        (subst (λ (l : List ℕ). PutsIn h (length rows) work taken col l (set taken top true)) (sym stored)
        (puts-at-once small room whole listed high.below rows_under
        (ap (λ (c : Chain). c top) column.boundary ∙ high.top.holds) vacant))

-- THE LOOP: the first i columns are in.
pub record Loading (h : ℕ) (rows cols : List Simplex) (i : ℕ) (work₀ : List ℕ) (taken₀ : List Bool) (work cur : List ℕ)
    (taken : List Bool) : Type 0 where
  pub slots : SlotsIn h work taken (columns rows cols) (length cols) (length rows) i
  pub within : i ≤ length cols
  pub long : length work ≡ length work₀
  pub wide : length taken ≡ length taken₀
  pub whole : length cur ≡ 2 * h

module _ {h : ℕ} {rows cols : List Simplex} where
  -- no slot is taken before, so the bytes of the work memory do not matter
  pub loading-start : {work cur : List ℕ} {taken : List Bool} → taken ≡ replicate 512 false → length cur ≡ 2 * h
      → Loading h rows cols 0 work taken work cur taken
  loading-start {work} {cur} {taken} none whole = record {
    slots = subst (λ t. SlotsIn h work t (columns rows cols) (length cols) (length rows) 0) (sym none) (no-columns h work 512 _ _ _);
    within = omega arith;
    long = refl;
    wide = refl;
    whole = whole;
  }

  module _ {i : ℕ} {work₀ : List ℕ} {taken₀ : List Bool} {work cur : List ℕ} {taken : List Bool}
      (a : Loading h rows cols i work₀ taken₀ work cur taken) where
    pub loading-on : {after left : List ℕ} {taken_after : List Bool} → i < length cols
        → PutsNext h rows cols i work taken after taken_after → length after ≡ length work → length left ≡ length cur
        → length taken_after ≡ length taken → Loading h rows cols (i + 1) work₀ taken₀ after left taken_after
    loading-on {after} {left} {taken_after} lt puts kept same as_wide =
        subst (λ k. Loading h rows cols k work₀ taken₀ after left taken_after) (sym (add-one i)) (
        record {
          slots = puts.next a.slots;
          within = lt;
          long = kept ∙ a.long;
          wide = as_wide ∙ a.wide;
          whole = same ∙ a.whole;
        }
        )

    pub loading-end : {m : ℕ} → m ≡ length rows → length cols ≤ i → Loads h rows cols m work taken
    loading-end size ge =
        let e : i ≡ length cols = omega (arith, a.within) in
        record {
          size = size;
          all = subst (λ k. SlotsIn h work taken (columns rows cols) (length cols) (length rows) k) e a.slots;
        }

-- the bits of a pair of columns are fewer than the bytes of the slots
pub halves-fit : (h n : ℕ) → 0 < h → room_of h ≤ n → 8 * h + 8 * h ≤ n
unfolding room_of
halves-fit h n some room =
    let square : 8 * h * 2 ≤ 8 * h * (2 * h) = mul-le-mul_left (8 * h) (omega arith) in
    let all : 8 * h * (2 * h) ≤ n = room in
    omega (arith, square, all)
