-- The answers of the record stages as the definitions' readings.
use Rattle.std.specs.Prelude.{ℕ, ◌+◌, ◌*◌, ◌%◌, ◌≤◌, ◌<◌, ◌≡◌, List, [], length, get_or, take, drop, eqb, Result}
use Rattle.std.proofs.Common.{Ok, Err}
use Rattle.format.specs.Numbers.{small, header_bytes}
use Rattle.format.specs.Simplex.{Simplex}
use Rattle.format.specs.Reading.{Reading, accepted, refused, ◌and_then◌, Listing, read_list}
use Rattle.format.specs.Opened.{opened}
use Rattle.format.specs.Sound.{AllSound}
use Rattle.refusals.specs.Readings.{refused_by, reading_of}
use Rattle.refusals.specs.declared.Refusal.{Refusal}
use Rattle.lookup.specs.Indexed.{Proper, Indexed}
use Rattle.lookup.specs.Numbered.{simplices_in}
use Rattle.lookup.specs.Sides.{Sided}
use Rattle.reading_lists.specs.Items.{faces_judged}
use Rattle.stages.specs.declared.ListRead.{ListRead}
use Rattle.stages.specs.declared.Taken.{Taken}

-- a record that stands at a place: the length of its payload, or the refusal
abbrev pub opened_of : Result ℕ Refusal → Reading ℕ
opened_of r = reading_of (λ size. size) r

-- how many bytes stand behind the header of the record of one kind at a place, 0 where none stands there
abbrev pub size_of : Reading ℕ → ℕ
size_of (accepted size) = size
size_of (refused number place) = 0

abbrev pub size_at : List ℕ → (at kind : ℕ) → ℕ
size_at b at kind = size_of (opened (eqb kind) b at)

-- the offset behind it
abbrev pub end_at : List ℕ → (at kind : ℕ) → ℕ
end_at b at kind = at + header_bytes + size_at b at kind

-- so many places are room for the list whose record stands there, if it is one that is not too long
abbrev pub RoomAt : List ℕ → (at kind places : ℕ) → Type 0
RoomAt b at kind places = size_at b at kind ≤ kind * 512 → size_at b at kind ≤ kind * places

-- a record of a list's kind and shape: whole items, and not too many of them
pub record SizedList (b : List ℕ) (at kind size : ℕ) : Type 0 where
  pub stands : opened (eqb kind) b at ≡ accepted size
  pub even : size % kind ≡ 0
  pub fits : size ≤ kind * 512

-- what opening a list record comes to: one of a list's shape, or the refusal
abbrev pub ListOpened : List ℕ → (at kind : ℕ) → Result ℕ Refusal → Type 0
ListOpened b at kind (Ok size) = SizedList b at kind size
ListOpened b at kind (Err e) = (v : ℕ) (faces : List Simplex) → read_list small b at kind v faces ≡ refused_by e

-- the list that was read, whose numbers are the first keys
abbrev pub listing_of : (kind : ℕ) → List ℕ → ListRead → Listing
listing_of kind keys l = record { list = simplices_in kind keys l.count; next = l.next }

-- or the refusal
abbrev pub list_read : (kind : ℕ) → List ℕ → Result ListRead Refusal → Reading Listing
list_read kind keys r = reading_of (listing_of kind keys) r

-- What the items that were taken of a list record are: an index of them. The definition's reading, over any sound faces, is then what
-- rule 8 says of the items taken, which stand one behind the other in the file, and where it refuses none of them, what was told
-- when they were taken.
pub record TakenItems (b : List ℕ) (at kind v : ℕ) (keys first next : List ℕ) (r : Taken) : Type 0 where
  pub reads : (faces : List Simplex) → AllSound v faces
      → read_list small b at kind v faces
      ≡ (faces_judged kind v faces (at + header_bytes) (simplices_in kind keys r.count) (reading_of (λ _. simplices_in kind keys r.count) r.verdict)
      and_then λ l. accepted (record { list = l; next = r.next }))
  pub own : (i : ℕ) → i < r.count → get_or (simplices_in kind keys r.count) i [] ≡ take kind (drop (at + header_bytes + kind * i) b)
  pub proper : Proper kind (simplices_in kind keys r.count)
  pub indexed : Indexed (simplices_in kind keys r.count) keys first next r.count
  pub few : r.count ≤ 512
  pub within : 0 < r.count → at + header_bytes + kind * r.count ≤ length b

-- What taking the items of a list record leaves: those, and the offset of the record behind it.
pub record TakenList (b : List ℕ) (at kind v : ℕ) (keys first next : List ℕ) (r : Taken) : Type 0 where
  pub items : TakenItems b at kind v keys first next r
  pub ends : r.next ≡ end_at b at kind

-- A record that is refused as a whole: so is the definition's list, and nothing is entered.
pub record RefusedList (b : List ℕ) (at kind v : ℕ) (keys first next : List ℕ) (e : Refusal) : Type 0 where
  pub reads : (faces : List Simplex) → read_list small b at kind v faces ≡ refused_by e
  pub indexed : Indexed [] keys first next 0

-- what taking the items of a list record comes to
abbrev pub ListTaken : List ℕ → (at kind v : ℕ) (keys first next : List ℕ) → Result Taken Refusal → Type 0
ListTaken b at kind v keys first next (Ok t) = TakenList b at kind v keys first next t
ListTaken b at kind v keys first next (Err e) = RefusedList b at kind v keys first next e

-- What reading a list record without items leaves: the definition's reading, whatever numbers would be its list's.
pub record NothingRead (b : List ℕ) (at kind : ℕ) (r : Result ListRead Refusal) : Type 0 where
  pub reads : (v : ℕ) (faces : List Simplex) (keys : List ℕ) → list_read kind keys r ≡ read_list small b at kind v faces
  pub none : (l : ListRead) → r ≡ Ok l → l.count ≡ 0

-- the list is what was taken, none of it refused, and its sides are found
pub record SidedList (faces : List Simplex) (kind : ℕ) (keys sides : List ℕ) (taken : Taken) (l : ListRead) : Type 0 where
  pub fine : taken.verdict ≡ Ok tt
  pub count : l.count ≡ taken.count
  pub next : l.next ≡ taken.next
  pub sided : Sided faces (simplices_in kind keys l.count) sides l.count

-- What looking up the facets of what was taken leaves: the definition's reading over the list of the faces, and, where nothing is
-- refused, the sides.
pub record FacesFound (b : List ℕ) (at kind v : ℕ) (faces : List Simplex) (keys sides : List ℕ) (taken : Taken) (r : Result ListRead Refusal) : Type 0 where
  pub reads : list_read kind keys r ≡ read_list small b at kind v faces
  pub found : (l : ListRead) → r ≡ Ok l → SidedList faces kind keys sides taken l
