-- A column is a list of bytes that holds one bit for each rank: rank 8·j + k is bit k of byte j.
use Rattle.std.specs.Prelude.{ℕ, ◌/◌, ◌%◌, ◌^◌, Bool, List, [], ◌∷◌, ◌++◌, eqb, get_or, set, drop, replicate}
use Rattle.std.specs.Int.Bits.{bit_xor}
use Rattle.chains.specs.Chain.{Chain}

-- bit k of one byte
unfoldable pub bit : ℕ → ℕ → Bool
bit byte k = eqb (byte / 2 ^ k % 2) 1

-- bit i of a column; past the end nothing is set
unfoldable pub bit_at : List ℕ → ℕ → Bool
bit_at l i = bit (get_or l (i / 8) 0) (i % 8)

-- the chain that a column holds
abbrev pub chain_of : List ℕ → Chain
chain_of l = bit_at l

-- The sum of two columns, byte by byte. It is as long as the first; a second that is shorter counts as followed by zeros.
abbrev pub xor_bytes : List ℕ → List ℕ → List ℕ
xor_bytes [] b = []
xor_bytes (x ∷ a) [] = x ∷ a
xor_bytes (x ∷ a) (y ∷ b) = bit_xor x y ∷ xor_bytes a b

-- the column with bit i turned over; past the end nothing changes
unfoldable pub flipped : List ℕ → ℕ → List ℕ
flipped l i = set l (i / 8) (bit_xor (get_or l (i / 8) 0) (2 ^ (i % 8)))

-- bytes of which the first n are zero
abbrev pub cleared_front : ℕ → List ℕ → List ℕ
cleared_front n l = replicate n 0 ++ drop n l
