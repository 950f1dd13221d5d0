-- Matrices in memory, where each column is one number, the sides of its simplex; building the columns in the pair of columns
-- in hand, and putting them into the slots. The pair has 2·h bytes, for whatever half size h that holds all ranks.
use Rattle.std.specs.Prelude.{ℕ, suc, ◌+◌, ◌*◌, ◌≤◌, ◌<◌, ◌≡◌, Bool, true, false, List, [], length, get_or, take}
use Rattle.chains.specs.Chain.{Chain, ◌⊕◌, empty, unit, Top}
use Rattle.format.specs.Simplex.{Simplex, rising_from, simplex_boundary, columns}
use Rattle.lookup.specs.Sides.{Sides, Sided}
use Rattle.columns.specs.Slot.{chain_r, chain_v}
use Rattle.slots.specs.Slots.{SlotsIn}
use Rattle.lists.specs.declared.Marks.{Marks}
use Rattle.solver.specs.declared.Matrix.{Matrix}

-- a matrix in memory: the sides of the columns' simplices, of so many vertices that rise, among the rows
pub record MatrixIn (h : ℕ) (matrix : Matrix) : Type 0 where
  pub rows : List Simplex
  pub high : List Simplex
  pub row_count : matrix.rows ≡ length rows
  pub count : matrix.columns ≡ length high
  pub wide : (i : ℕ) → i < matrix.columns → length (get_or high i []) ≡ matrix.width
  pub some : 0 < matrix.width
  pub most : matrix.width ≤ 4
  pub rising : (i : ℕ) → i < matrix.columns → rising_from 0 (get_or high i []) ≡ true
  pub sided : Sided rows high matrix.sides.now matrix.columns
  pub few_rows : length rows ≤ 8 * h
  pub few_columns : length high ≤ 8 * h
  pub room : matrix.columns ≤ length matrix.sides.now

-- the sides are those of a simplex of `size` vertices, and its facets are among n rows at most
pub record SidesWithin (n size sides : ℕ) : Type 0 where
  pub rows : List Simplex
  pub simplex : Simplex
  pub sized : length simplex ≡ size
  pub some : 0 < size
  pub sided : Sides rows simplex size sides
  pub few : length rows ≤ n

-- the boundary of s was added to the first half of the pair in hand
pub record AddsBoundary (rows : List Simplex) (s : Simplex) (cur left : List ℕ) : Type 0 where
  pub adds : (h : ℕ) → length cur ≡ 2 * h → length rows ≤ 8 * h → chain_r h left ≡ chain_r h cur ⊕ simplex_boundary rows s
  pub keeps : (h : ℕ) → length cur ≡ 2 * h → length rows ≤ 8 * h → chain_v h left ≡ chain_v h cur

-- a row that is the highest one in the boundary of s
pub record HighestSide (rows : List Simplex) (s : Simplex) (row : ℕ) : Type 0 where
  pub below : row < length rows
  pub top : Top (simplex_boundary rows s) row

-- the pair of columns holds the column of s: its boundary, and its rank alone
pub record HoldsColumn (h : ℕ) (rows : List Simplex) (s : Simplex) (rank : ℕ) (col : List ℕ) : Type 0 where
  pub boundary : chain_r h col ≡ simplex_boundary rows s
  pub alone : chain_v h col ≡ unit rank

-- the column of s was written over a pair of columns, with the bit `own` for its rank
pub record WritesColumn (rows : List Simplex) (s : Simplex) (own : ℕ) (before after : List ℕ) : Type 0 where
  pub column : (h rank : ℕ) → length before ≡ 2 * h → length rows ≤ 8 * h → rank < 8 * h → own ≡ 8 * h + rank
      → HoldsColumn h rows s rank after

-- the columns before the one of this rank were in the slots: now it is in too
pub record PutsNext (h : ℕ) (rows cols : List Simplex) (rank : ℕ) (work : List ℕ) (taken : List Bool) (after : List ℕ)
    (taken_after : List Bool) : Type 0 where
  pub next : SlotsIn h work taken (columns rows cols) (length cols) (length rows) rank
      → SlotsIn h after taken_after (columns rows cols) (length cols) (length rows) (suc rank)

-- the slots hold the matrix of two lists, all its columns, of m rows
pub record Loads (h : ℕ) (rows cols : List Simplex) (m : ℕ) (work : List ℕ) (taken : List Bool) : Type 0 where
  pub size : m ≡ length rows
  pub all : SlotsIn h work taken (columns rows cols) (length cols) (length rows) (length cols)

-- the chain of a list of m that is on in the marks
abbrev pub marked_chain : ℕ → Marks → Chain
marked_chain m marks = λ i. get_or (take m marks.on) i false

-- the pair in hand holds the marked chain, and no columns
pub record Marked (m : ℕ) (marks : Marks) (cur left : List ℕ) : Type 0 where
  pub chain : (h : ℕ) → length cur ≡ 2 * h → m ≤ 8 * h → chain_r h left ≡ marked_chain m marks
  pub columns : (h : ℕ) → length cur ≡ 2 * h → m ≤ 8 * h → chain_v h left ≡ empty
