-- What each call does, as facts about every matrix D: the work memory holds slots, of which those that are taken count
-- (`SlotsIn`), and the pair in hand holds a chain of rows in its first half and a chain of columns in its second.
use Rattle.std.specs.Prelude.{ℕ, suc, ◌<◌, ◌≡◌, Bool, true, false, List}
use Rattle.chains.specs.Chain.{Chain, empty, unit, Under, Fills, SmallestFilling, SmallestInClass}
use Rattle.echelon.specs.Echelon.{Echelon}
use Rattle.columns.specs.Slot.{chain_r, chain_v}
use Rattle.columns.specs.Reduce.{kept_rows, kept_columns, Pivots}

-- The first k of the n columns of D, each a chain of m rows, are in the slots of the work memory. A slot that is not taken
-- counts as empty, so this says nothing of its bytes.
pub record SlotsIn (h : ℕ) (work : List ℕ) (taken : List Bool) (D : ℕ → Chain) (n m k : ℕ) : Type 0 where
  pub echelon : Echelon D n m k (kept_rows h work taken) (kept_columns h work taken)
  pub pivots : Pivots h work taken

-- the pair in hand was column k: now it is in the slots too
pub record PutsIn (h m : ℕ) (work : List ℕ) (taken : List Bool) (cur after : List ℕ) (taken_after : List Bool) : Type 0 where
  pub next : (D : ℕ → Chain) (n k : ℕ) → k < n → Under m (D k) → SlotsIn h work taken D n m k
      → chain_r h cur ≡ D k → chain_v h cur ≡ unit k → SlotsIn h after taken_after D n m (suc k)

-- what an answer, whether A has a filling, says of A and of the chain c that is given with it: c is the smallest filling, or
-- there is none
abbrev pub Answers : (ℕ → Chain) → ℕ → Chain → Bool → Chain → Type 0
Answers D n A true c = SmallestFilling D n A c
Answers D n A false c = (other : Chain) → Fills D n A other → ⊥

-- the pair in hand was the chain A, with no columns yet: now it holds the columns of the answer
pub record FillsIn (h m : ℕ) (work : List ℕ) (taken : List Bool) (cur : List ℕ) (answer : Bool) (left : List ℕ) : Type 0 where
  pub answers : (D : ℕ → Chain) (n : ℕ) (A : Chain) → SlotsIn h work taken D n m n → Under m A
      → chain_r h cur ≡ A → chain_v h cur ≡ empty → Answers D n A answer (chain_v h left)

-- the pair in hand was the chain A: now it is the smallest chain of its class
pub record ClassesIn (h m : ℕ) (work : List ℕ) (taken : List Bool) (cur left : List ℕ) : Type 0 where
  pub smallest : (D : ℕ → Chain) (n : ℕ) (A : Chain) → SlotsIn h work taken D n m n → ((i : ℕ) → i < n → Under m (D i))
      → Under m A → chain_r h cur ≡ A → SmallestInClass D n m A (chain_r h left)
