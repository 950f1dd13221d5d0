-- Two worked jobs on which wrong readings of document 01 differ from the right one. What they are read as is
-- computed from their bytes in proofs/Worked.
use Rattle.std.specs.Prelude.{ℕ, ◌≡◌, Bool, true, false, List, [], ◌∷◌, ◌++◌}
use Rattle.format.specs.Numbers.{small}
use Rattle.format.specs.Simplex.{Simplex, same, sound_simplex, rising_from, all_below, listed, all_listed, facets, simplices, vertex_list}
use Rattle.format.specs.Reading.{Reading, accepted, refused, Job, reading, record_from, header_at, read_head, after_head, after_lists, read_list, read_items, items, read_chain, chosen_by, positions_of, rising_below, read_edits, edited, moved, with_list}

-- The reading, open to computation: who unfolds this unfolds all that reading is made of.
unfoldable pub reads_to : List ℕ → Reading Job
unfolding
    reading
    record_from
    header_at
    read_head
    after_head
    after_lists
    read_list
    read_items
    items
    read_chain
    chosen_by
    positions_of
    rising_below
    read_edits
    edited
    moved
    with_list
    sound_simplex
    rising_from
    all_below
    listed
    all_listed
    same
    facets
    simplices
    vertex_list
reads_to b = reading small b

-- Shell, with P2's edit (triangle 012 from 0 to 3) given twice.
abbrev pub same_edit_twice : List ℕ
same_edit_twice =
    (4 ∷ 0 ∷ 0 ∷ 0 ∷ 1 ∷ 0 ∷ 1 ∷ 2 ∷ 4 ∷ 0 ∷ []) ++
    (12 ∷ 0 ∷ 0 ∷ 0 ∷ 2 ∷ 0 ∷ 0 ∷ 1 ∷ 0 ∷ 2 ∷ 0 ∷ 3 ∷ 1 ∷ 2 ∷ 1 ∷ 3 ∷ 2 ∷ 3 ∷ []) ++
    (12 ∷ 0 ∷ 0 ∷ 0 ∷ 3 ∷ 0 ∷ 0 ∷ 1 ∷ 2 ∷ 0 ∷ 1 ∷ 3 ∷ 0 ∷ 2 ∷ 3 ∷ 1 ∷ 2 ∷ 3 ∷ []) ++
    (0 ∷ 0 ∷ 0 ∷ 0 ∷ 4 ∷ 0 ∷ []) ++
    (6 ∷ 0 ∷ 0 ∷ 0 ∷ 5 ∷ 0 ∷ 0 ∷ 0 ∷ 1 ∷ 0 ∷ 3 ∷ 0 ∷ []) ++
    (9 ∷ 0 ∷ 0 ∷ 0 ∷ 7 ∷ 0 ∷ 3 ∷ 0 ∷ 0 ∷ 0 ∷ 3 ∷ 0 ∷ 0 ∷ 1 ∷ 2 ∷ []) ++
    (9 ∷ 0 ∷ 0 ∷ 0 ∷ 7 ∷ 0 ∷ 3 ∷ 0 ∷ 0 ∷ 0 ∷ 3 ∷ 0 ∷ 0 ∷ 1 ∷ 2 ∷ [])

-- Plate, class d 1, A is position 0, and an edit takes edge 01 from 0 to 2.
abbrev pub chain_then_edit : List ℕ
chain_then_edit =
    (4 ∷ 0 ∷ 0 ∷ 0 ∷ 1 ∷ 0 ∷ 2 ∷ 1 ∷ 3 ∷ 0 ∷ []) ++
    (6 ∷ 0 ∷ 0 ∷ 0 ∷ 2 ∷ 0 ∷ 0 ∷ 1 ∷ 0 ∷ 2 ∷ 1 ∷ 2 ∷ []) ++
    (3 ∷ 0 ∷ 0 ∷ 0 ∷ 3 ∷ 0 ∷ 0 ∷ 1 ∷ 2 ∷ []) ++
    (0 ∷ 0 ∷ 0 ∷ 0 ∷ 4 ∷ 0 ∷ []) ++
    (2 ∷ 0 ∷ 0 ∷ 0 ∷ 5 ∷ 0 ∷ 0 ∷ 0 ∷ []) ++
    (8 ∷ 0 ∷ 0 ∷ 0 ∷ 7 ∷ 0 ∷ 2 ∷ 0 ∷ 0 ∷ 0 ∷ 2 ∷ 0 ∷ 0 ∷ 1 ∷ [])

-- whether A holds a simplex, where a job was read
unfoldable pub chosen : Reading Job → Simplex → Bool
chosen (accepted j) s = j.chain s
chosen (refused number place) s = false

-- "A's positions name simplices in the lists as written in the file": A is 01, not 02, which stands at 0 after the edit
abbrev pub ChainOfFile : Type 0
ChainOfFile = (chosen (reads_to chain_then_edit) (0 ∷ 1 ∷ []) ≡ true) × (chosen (reads_to chain_then_edit) (0 ∷ 2 ∷ []) ≡ false)
