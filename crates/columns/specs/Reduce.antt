-- What the code does with a pair of columns and the slots, as functions on byte lists: a full reduction (`red_bytes`),
-- and a reduction that stops at the first row whose slot is not taken (`settled`), which an insertion then takes.
-- Both go through the rows from the top down, and read no slot that is not taken, whatever its bytes are.
use Rattle.std.specs.Prelude.{ℕ, zero, suc, ◌≡◌, Bool, true, false, not, ◌&&◌, cond, List, set, Option, Some, None, unwrap_or}
use Rattle.chains.specs.Chain.{Chain, only}
use Rattle.columns.specs.Column.{xor_bytes}
use Rattle.columns.specs.Slot.{chain_r, chain_v, slot, taken_at, store_slot}

-- whether a pair of columns holds row r, which is a rank of its first half
abbrev pub held_at : ℕ → ℕ → List ℕ → Bool
held_at h r cur = chain_r h cur r

-- one row: the slot is added where cur holds the row and the slot is taken
unfoldable pub red_row : ℕ → List ℕ → List Bool → ℕ → List ℕ → List ℕ
red_row h work taken r cur = cond (held_at h r cur && taken_at taken r) (xor_bytes cur (slot h work r)) cur

-- the rows below r, from the top down
unfoldable pub red_bytes : ℕ → List ℕ → List Bool → ℕ → List ℕ → List ℕ
red_bytes h work taken zero cur = cur
red_bytes h work taken (suc r) cur = red_bytes h work taken r (red_row h work taken r cur)

-- cur holds row r and the slot of that row is not taken
unfoldable pub stuck_at : ℕ → List Bool → ℕ → List ℕ → Bool
stuck_at h taken r cur = held_at h r cur && not (taken_at taken r)

-- where a reduction got stuck, if it did, and what was in hand then
pub record Settled : Type 0 where
  pub at : Option ℕ
  pub cur : List ℕ

-- the rows below r, from the top down, up to the first row at which cur is stuck
unfoldable pub settled : ℕ → List ℕ → List Bool → ℕ → List ℕ → Settled
settled h work taken zero cur = record { at = None; cur = cur }
settled h work taken (suc r) cur =
    cond (stuck_at h taken r cur) (record { at = Some r; cur = cur }) (settled h work taken r (red_row h work taken r cur))

-- how many rows are left below the one at which a reduction settled
abbrev pub rows_left : Option ℕ → ℕ
rows_left at = unwrap_or at 0

-- the answer and the pair in hand that `settle` leaves
pub record Settles (h : ℕ) (work : List ℕ) (taken : List Bool) (rows : ℕ) (cur : List ℕ) (answer : Option ℕ)
    (left : List ℕ) : Type 0 where
  pub where-stuck : answer ≡ (settled h work taken rows cur).at
  pub what-left : left ≡ (settled h work taken rows cur).cur

-- the work memory after an insertion: what is left goes into the slot of the row at which it is stuck
abbrev pub stored_at : ℕ → List ℕ → Option ℕ → List ℕ → List ℕ
stored_at h work (Some r) cur = store_slot h work r cur
stored_at h work None cur = work

-- and that slot is taken then
abbrev pub taken_with : List Bool → Option ℕ → List Bool
taken_with taken (Some r) = set taken r true
taken_with taken None = taken

-- the answer, the pair in hand, the work memory and the array of the slots that are taken, as `insert` leaves them
pub record Inserts (h : ℕ) (work : List ℕ) (taken : List Bool) (rows : ℕ) (cur : List ℕ) (answer : Option ℕ) (left after : List ℕ)
    (taken_after : List Bool) : Type 0 where
  pub settles : Settles h work taken rows cur answer left
  pub stored : after ≡ stored_at h work answer left
  pub marked : taken_after ≡ taken_with taken answer

-- ---- the slots as chains

-- the slots as two tables of chains: the reduced columns, and the sets of columns that they are the sums of
abbrev pub slot_rows : ℕ → List ℕ → ℕ → Chain
slot_rows h work r = chain_r h (slot h work r)

abbrev pub slot_columns : ℕ → List ℕ → ℕ → Chain
slot_columns h work r = chain_v h (slot h work r)

-- of the table W, what belongs to a slot that is taken
abbrev pub taken_only : List Bool → (ℕ → Chain) → ℕ → Chain
taken_only taken W r = only (taken_at taken r) (W r)

-- The slots as the reduction sees them: a slot that is not taken counts as empty, whatever its bytes are.
abbrev pub kept_rows : ℕ → List ℕ → List Bool → ℕ → Chain
kept_rows h work taken = taken_only taken (slot_rows h work)

abbrev pub kept_columns : ℕ → List ℕ → List Bool → ℕ → Chain
kept_columns h work taken = taken_only taken (slot_columns h work)

-- Each slot that is taken holds its own row, so adding it takes that row out.
abbrev pub Pivots : ℕ → List ℕ → List Bool → Type 0
Pivots h work taken = (r : ℕ) → taken_at taken r ≡ true → slot_rows h work r r ≡ true

-- What holds where a reduction has settled, if P is kept on the way: it is through with all rows, or it is stuck at a
-- row that is held and whose slot, of the table R, is vacant.
abbrev pub Ends : (ℕ → Chain → Chain → Type 0) → (ℕ → Chain) → Option ℕ → Chain → Chain → Type 0
Ends P R (Some r) c v = P (suc r) c v × (c r ≡ true) × (R r r ≡ false)
Ends P R None c v = P 0 c v
