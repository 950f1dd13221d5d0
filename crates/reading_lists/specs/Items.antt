-- The judgement of the items of a list: 7, and of edges 6, one by one, then 8 over those that were taken. A simplex whose facets
-- are all listed is sound, since they are, so 6 is asked of one that is no edge only where it lacks a facet.
use Rattle.std.specs.Prelude.{ℕ, ◌+◌, ◌-◌, ◌*◌, ◌^◌, ◌≤◌, ◌<◌, ◌≡◌, Bool, not, cond, ◌&&◌, List, [], ◌∷◌, length, get_or, take, drop, leb, Result}
use Rattle.std.proofs.Common.{Ok, Err}
use Rattle.format.specs.Numbers.{vertex, twice, face}
use Rattle.format.specs.Simplex.{Simplex, sound_simplex, listed, all_listed}
use Rattle.format.specs.Reading.{Reading, refuse_if, owed_facets, items_of, read_items}
use Rattle.format.specs.Sound.{AllSound}
use Rattle.refusals.specs.Meaning.{number_of}
use Rattle.refusals.specs.Readings.{reading_of}
use Rattle.refusals.specs.declared.Reason.{Reason}
use Rattle.lookup.specs.Indexed.{Proper, Keyed, Indexed}
use Rattle.lookup.specs.Numbered.{simplices_in}
use Rattle.reading_lists.specs.declared.ItemsRead.{ItemsRead}

-- an edge that breaks rule 6
abbrev pub unsound_edge : (width v : ℕ) → Simplex → Bool
unsound_edge width v s = leb width 2 && not (sound_simplex v s)

-- the first of 6, asked of edges, and 7 that refuses an item, behind the items `before`; 0 where neither does
unfoldable pub refusal_of : (width v : ℕ) (before : List Simplex) → Simplex → ℕ
refusal_of width v before s = cond (unsound_edge width v s) vertex (cond (listed s before) twice 0)

-- the number of the reason for which an item is refused, 0 where it is not
abbrev pub judgement_of : Result Unit Reason → ℕ
judgement_of (Ok _) = 0
judgement_of (Err reason) = number_of reason

-- what an item that lacks a facet is refused with: 6 comes before 8
unfoldable pub lack_of : ℕ → Simplex → ℕ
lack_of v s = cond (sound_simplex v s) face vertex

-- Rule 8 over items of which the first stands at `at`: the first that lacks a facet it owes is refused, and where none does, the
-- reading is the one behind them.
unfoldable pub faces_judged : (width v : ℕ) (faces : List Simplex) (at : ℕ) → List Simplex → Reading (List Simplex) → Reading (List Simplex)
faces_judged width v faces at [] behind = behind
faces_judged width v faces at (s ∷ rest) behind =
    refuse_if (not (all_listed (owed_facets width s) faces)) (lack_of v s) at (faces_judged width v faces (at + width) rest behind)

-- the list of the facets, all sound, of which the first m keys are the numbers
pub record FacesIn (width v : ℕ) (faces : List Simplex) (keys : List ℕ) (m : ℕ) : Type 0 where
  pub sound : AllSound v faces
  pub proper : Proper (width - 1) faces
  pub keyed : Keyed faces keys m

-- the simplices that were read, whose numbers are the first keys, or the refusal
abbrev pub items_read : (width : ℕ) → List ℕ → ItemsRead → Reading (List Simplex)
items_read width keys r = reading_of (λ _. simplices_in width keys r.count) r.verdict

-- What a record of the right shape has: a list's width, no more items than a list holds, and places that are numbers of
-- the machine.
pub record Shaped (p : List ℕ) (base width : ℕ) : Type 0 where
  pub least : 2 ≤ width
  pub most : width ≤ 4
  pub fits : length p ≤ width * 512
  pub places : base + length p < 2 ^ 64

-- What taking the items leaves: an index of them. The definition's reading, over any sound faces, is then what rule 8 says of the
-- items taken, from the first on, and where it refuses none of them, what was told when they were taken.
pub record ItemsTaken (p : List ℕ) (base v width : ℕ) (keys first next : List ℕ) (r : ItemsRead) : Type 0 where
  pub reads : (faces : List Simplex) → AllSound v faces
      → read_items width v faces base [] (items_of width p) ≡ faces_judged width v faces base (simplices_in width keys r.count) (items_read width keys r)
  pub own : (i : ℕ) → i < r.count → get_or (simplices_in width keys r.count) i [] ≡ take width (drop (width * i) p)
  pub proper : Proper width (simplices_in width keys r.count)
  pub indexed : Indexed (simplices_in width keys r.count) keys first next r.count
  pub within : width * r.count ≤ length p
