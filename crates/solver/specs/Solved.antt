-- The answers to the two questions: `rows` is the list that the asked chain A is made of, `cols` the list one dimension
-- higher, `lower` the one below.
use Rattle.std.specs.Prelude.{ℕ, ◌≡◌, Bool, true, false, List, [], length}
use Rattle.std.proofs.Common.{arith, subst, true≢false}
use Rattle.std.proofs.Math.Path.{fun_ext}
use Rattle.chains.specs.Chain.{Chain, empty, boundary, SmallestInClass}
use Rattle.chains.specs.Boundary.{boundary-under}
use Rattle.format.specs.Simplex.{Simplex, columns}
use Rattle.format.specs.Matrix.{columns-under}
use Rattle.columns.specs.Slot.{chain_r, chain_v}
use Rattle.slots.specs.Slots.{Answers}
use Rattle.lists.specs.declared.Marks.{Marks}
use Rattle.solver.specs.Columns.{marked_chain, Loads}

-- the marked chain of a list
abbrev pub asked : List Simplex → Marks → Chain
asked rows marks = marked_chain (length rows) marks

-- its boundary
abbrev pub rim_of : List Simplex → List Simplex → Marks → Chain
rim_of lower rows marks = boundary (columns lower rows) (length rows) (asked rows marks)

-- whether the rim of the marked chain is empty
pub record RimTold (lower rows : List Simplex) (marks : Marks) (answer : Bool) : Type 0 where
  pub is_closed : answer ≡ true → rim_of lower rows marks ≡ empty
  pub is_open : answer ≡ false → rim_of lower rows marks ≡ empty → ⊥

-- over the empty list every rim is empty: no facet is listed there
pub no-rim : (rows : List Simplex) (marks : Marks) → RimTold [] rows marks true
no-rim rows marks = record {
  is_closed = λ e. fun_ext λ j.
      boundary-under (columns [] rows) (length rows) 0 (asked rows marks) (λ c lt. columns-under [] rows c) j (omega arith);
  is_open = λ e. absurd (true≢false e);
}

-- the slots hold the matrix of the two lists, and the pair in hand holds the marked chain of the m rows, and no columns
pub record Prepared (h : ℕ) (rows cols : List Simplex) (marks : Marks) (m : ℕ) (work : List ℕ) (taken : List Bool)
    (cur : List ℕ) : Type 0 where
  pub loads : Loads h rows cols m work taken
  pub chain : chain_r h cur ≡ asked rows marks
  pub no-columns : chain_v h cur ≡ empty

-- What each answer says of the chain c that comes with it: c is "the smallest d-chain with boundary A", or "no d-chain has
-- boundary A".
abbrev pub FillSays : List Simplex → List Simplex → Marks → Bool → Chain → Type 0
FillSays rows cols marks answer c = Answers (columns rows cols) (length cols) (asked rows marks) answer c

-- the answer of a fill question, with the chain that it leaves
pub record FillTold (rows cols : List Simplex) (marks : Marks) (answer : Bool) (c : Chain) : Type 0 where
  pub says : FillSays rows cols marks answer c

-- the same, of the answer as a test of it found it
pub fill-says : {rows cols : List Simplex} {marks : Marks} {answer a : Bool} {c : Chain}
    → FillTold rows cols marks answer c → answer ≡ a → FillSays rows cols marks a c
fill-says {rows} {cols} {marks} {c = c} told e = subst (λ x. FillSays rows cols marks x c) e told.says

-- c is "the smallest d-chain G for which G+A is the boundary of some (d+1)-chain"
abbrev pub ClassTold : List Simplex → List Simplex → Marks → Chain → Type 0
ClassTold rows cols marks c = SmallestInClass (columns rows cols) (length cols) (length rows) (asked rows marks) c
