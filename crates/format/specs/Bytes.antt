-- Little-endian numbers and records, written and read again. Why nothing is lost: a number below 256 times 256 is its low
-- byte and 256 times its high one, and a header of six bytes says where its payload ends. What stands in a file from a
-- place on is `drop at b`, so each law speaks of one record and whatever follows it.
use Rattle.std.specs.Prelude.{ℕ, ◌+◌, ◌*◌, ◌<◌, ◌≡◌, refl, Bool, true, List, [], ◌∷◌, ◌++◌, take, drop, ltb}
use Rattle.std.proofs.Common.{add-zero, add_assoc, arith, sym, ◌∙◌, ap₂, append_assoc, length-append, length-drop, take_at, get_or-drop, drop-drop}
use Rattle.std.proofs.Math.Path.{ap}
use Rattle.std.proofs.Math.ListN.{length}
use Rattle.std.proofs.Math.Seq.{drop-append_seam}
use borrow.Author.Tests.{ltb-true, le-ltb, lt-leb}
use Rattle.format.specs.Numbers.{header_bytes}
use Rattle.format.specs.Simplex.{all_below}
use Rattle.format.specs.Reading.{accepted, whole, u16_at, u32_at, header_at, payload_at, record_from, record_at, positions_of}
use Rattle.format.specs.Answer.{u16_bytes, u32_bytes, record_of}
use Rattle.format.specs.Writing.{position_bytes}
use Rattle.format.specs.Listed.{and-true}

-- NUMBERS. A number that fits is read back from its bytes, at the front of a list.
pub u16-front : (n : ℕ) → n < 65536 → (rest : List ℕ) → u16_at (u16_bytes n ++ rest) 0 ≡ n
u16-front n fits rest = omega arith

pub u32-front : (n : ℕ) → n < 4294967296 → (rest : List ℕ) → u32_at (u32_bytes n ++ rest) 0 ≡ n
u32-front n fits rest = omega arith

-- A number read at a place is read at the front of what stands there.
pub u16-from : (b : List ℕ) (at k : ℕ) → u16_at b (at + k) ≡ u16_at (drop at b) k
u16-from b at k = rw (get_or-drop at b k 0, get_or-drop at b (k + 1) 0, add_assoc)

pub u32-from : (b : List ℕ) (at : ℕ) → u32_at b at ≡ u32_at (drop at b) 0
u32-from b at = omega (arith, rw add-zero at (u16-from b at 0), u16-from b at 2)

-- and so between any two parts of a file.
at-seam : (pre mid post : List ℕ) → drop (length pre) (pre ++ mid ++ post) ≡ mid ++ post
at-seam pre mid post = ap (drop (length pre)) (append_assoc pre mid post) ∙ drop-append_seam pre (mid ++ post)

pub u16-between : (pre : List ℕ) (n : ℕ) (post : List ℕ) → n < 65536 → u16_at (pre ++ u16_bytes n ++ post) (length pre) ≡ n
u16-between pre n post fits =
    rw add-zero at (u16-from (pre ++ u16_bytes n ++ post) (length pre) 0) ∙ ap (λ l. u16_at l 0) (at-seam pre (u16_bytes n) post) ∙ u16-front n fits post

pub u32-between : (pre : List ℕ) (n : ℕ) (post : List ℕ) → n < 4294967296 → u32_at (pre ++ u32_bytes n ++ post) (length pre) ≡ n
u32-between pre n post fits =
    u32-from (pre ++ u32_bytes n ++ post) (length pre) ∙ ap (λ l. u32_at l 0) (at-seam pre (u32_bytes n) post) ∙ u32-front n fits post

-- RECORDS. In a file `b`, from `at` on, one record stands and then `post`. Such a file has this length.
pub file-length : (b : List ℕ) (at kind : ℕ) (payload post : List ℕ) → drop at b ≡ record_of kind payload ++ post →
    length b ≡ at + header_bytes + length payload + length post
file-length b at kind payload post here = omega (arith, length-drop at b, ap length here, length-append payload post)

module _ (b : List ℕ) (at kind : ℕ) (payload post : List ℕ)
    (here : drop at b ≡ record_of kind payload ++ post) (small-kind : kind < 65536) (short : length payload < 4294967296) where
  -- the header is read as it was written
  pub record-header : header_at b at ≡ whole kind (length payload)
  unfolding header_at
  record-header =
      let size : u32_at b at ≡ length payload = u32-from b at ∙ ap (λ l. u32_at l 0) here ∙ u32-front (length payload) short (u16_bytes kind ++ payload ++ post) in
      let named : u16_at b (at + 4) ≡ kind = u16-from b at 4 ∙ ap (λ l. u16_at l 4) here ∙ u16-front kind small-kind (payload ++ post) in
      let long : length b ≡ at + header_bytes + length payload + length post = file-length b at kind payload post here in
      rw (
        size,
        named,
        lt-leb (length b) at (omega arith),
        le-ltb (length b) (at + header_bytes) (omega arith),
        le-ltb (length b) (at + header_bytes + length payload) (omega arith),
      )

  -- what stands behind the header, and behind the record
  behind-header : drop (at + header_bytes) b ≡ payload ++ post
  behind-header = sym (drop-drop header_bytes at b) ∙ ap (drop header_bytes) here

  pub record-payload : payload_at b at (length payload) ≡ payload
  record-payload = ap (take (length payload)) behind-header ∙ take_at payload post (length payload) refl

  pub behind-record : drop (at + header_bytes + length payload) b ≡ post
  behind-record =
      sym (drop-drop (length payload) (at + header_bytes) b) ∙ ap (drop (length payload)) behind-header ∙
      drop-append_seam payload post

  -- a record that may stand there and has an allowed shape is accepted, and its payload is handed back
  pub record-read : (may : ℕ → Bool) (fits : ℕ → List ℕ → Bool) → may kind ≡ true → fits kind payload ≡ true →
      record_at may fits b at ≡ accepted (record { kind = kind; payload = payload; next = at + header_bytes + length payload })
  unfolding record_from
  record-read may fits m f = rw (record-header, record-payload, m, f)

-- the same of a record in the middle of a file
pub record-between : (pre : List ℕ) (kind : ℕ) (payload post : List ℕ) → kind < 65536 → length payload < 4294967296 →
    (may : ℕ → Bool) (fits : ℕ → List ℕ → Bool) → may kind ≡ true → fits kind payload ≡ true →
    record_at may fits (pre ++ record_of kind payload ++ post) (length pre)
    ≡ accepted (record { kind = kind; payload = payload; next = length pre + header_bytes + length payload })
record-between pre kind payload post small-kind short =
    record-read (pre ++ record_of kind payload ++ post) (length pre) kind payload post
    (at-seam pre (record_of kind payload) post) small-kind short

-- POSITIONS, two bytes each.
pub length-position_bytes : (ps : List ℕ) → length (position_bytes ps) ≡ 2 * length ps
unfolding position_bytes
length-position_bytes [] = refl
length-position_bytes (p ∷ ps) = omega (arith, length-position_bytes ps)

pub positions-back : (ps : List ℕ) → all_below 65536 ps ≡ true → positions_of (position_bytes ps) ≡ ps
unfolding position_bytes positions_of all_below
positions-back [] below = refl
positions-back (p ∷ ps) below =
    let both : (ltb p 65536 ≡ true) × (all_below 65536 ps ≡ true) = and-true (ltb p 65536) (all_below 65536 ps) below in
    ap₂ ◌∷◌ (u16-front p (ltb-true p 65536 both.0) []) (positions-back ps both.1)
