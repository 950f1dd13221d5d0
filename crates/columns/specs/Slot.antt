-- The lent work memory is 8·h slots of 2·h bytes, for a half size h. A slot, like the column in hand, is two columns
-- of h bytes: first R, the reduced column, then V, the set of original columns that R is the sum of. Slot r is for the
-- reduced column whose highest rank is r. Which slots hold a column stands in an array of its own, `taken`: a slot that
-- is not taken is not read, whatever its bytes are.
use Rattle.std.specs.Prelude.{ℕ, ◌+◌, ◌*◌, Bool, false, List, ◌++◌, take, drop, get_or}
use Rattle.chains.specs.Chain.{Chain}
use Rattle.columns.specs.Column.{chain_of}

-- how many bytes all slots take
unfoldable pub room_of : ℕ → ℕ
room_of h = 8 * h * (2 * h)

-- the two halves of a pair of columns
unfoldable pub half_r : ℕ → List ℕ → List ℕ
half_r h c = take h c

unfoldable pub half_v : ℕ → List ℕ → List ℕ
half_v h c = take h (drop h c)

-- the chains that they hold
abbrev pub chain_r : ℕ → List ℕ → Chain
chain_r h c = chain_of (half_r h c)

abbrev pub chain_v : ℕ → List ℕ → Chain
chain_v h c = chain_of (half_v h c)

-- the bytes of slot r
unfoldable pub slot : ℕ → List ℕ → ℕ → List ℕ
slot h work r = take (2 * h) (drop (r * (2 * h)) work)

-- whether slot r holds a column; past the end of the array no slot does
abbrev pub taken_at : List Bool → ℕ → Bool
taken_at taken r = get_or taken r false

-- the work memory with slot r replaced by the first 2·h bytes of cur
unfoldable pub store_slot : ℕ → List ℕ → ℕ → List ℕ → List ℕ
store_slot h work r cur = take (r * (2 * h)) work ++ take (2 * h) cur ++ drop (r * (2 * h) + 2 * h) work
