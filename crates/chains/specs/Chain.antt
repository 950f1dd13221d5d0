-- What a reader must believe about chains. One dimension of a complex is a matrix: its simplices are known by
-- their ranks 0, 1, .., and `D i` is the boundary of the simplex of rank i, a chain one dimension lower.
use Rattle.std.specs.Prelude.{ℕ, zero, suc, ◌+◌, ◌^◌, ◌≤◌, ◌<◌, ◌≡◌, Bool, true, false, not, ◌⊎◌, eqb}

-- "A chain is a set of simplices of one dimension": which ranks it holds.
abbrev pub Chain : Type 0
Chain = ℕ → Bool

-- exactly one of the two
abbrev pub differ : Bool → Bool → Bool
differ false b = b
differ true b = not b

infixl 65 ◌⊕◌
-- "Addition is symmetric difference."
abbrev pub ◌⊕◌ : Chain → Chain → Chain
a ⊕ b = λ i. differ (a i) (b i)

-- "The empty chain is a chain."
abbrev pub empty : Chain
empty = λ i. false

-- the chain that holds rank i and no other
abbrev pub unit : ℕ → Chain
unit i = λ j. eqb i j

-- c holds ranks below n only: it is a chain of a dimension that lists n simplices
abbrev pub Under : ℕ → Chain → Type 0
Under n c = (i : ℕ) → n ≤ i → c i ≡ false

-- a where the test holds, else nothing
abbrev pub only : Bool → Chain → Chain
only true a = a
only false a = empty

-- "The boundary of a chain is the sum over its members", of which there are n to look at.
unfoldable pub boundary : (ℕ → Chain) → ℕ → Chain → Chain
boundary D zero c = empty
boundary D (suc n) c = boundary D n c ⊕ only (c n) (D n)

-- i is the highest rank that c holds
pub record Top (c : Chain) (i : ℕ) : Type 0 where
  pub holds : c i ≡ true
  pub above : (j : ℕ) → i < j → c j ≡ false

-- "Chain P is smaller than Q when they differ and the highest-ranked simplex of P+Q is in Q."
pub record Smaller (P Q : Chain) : Type 0 where
  pub rank : ℕ
  pub top : Top (P ⊕ Q) rank
  pub in_q : Q rank ≡ true

-- the smallest chain with a property: it has it, and every other chain that has it is larger
pub record Smallest (Has : Chain → Type 0) (c : Chain) : Type 0 where
  pub has : Has c
  pub least : (d : Chain) → Has d → (c ≡ d) ⊎ Smaller c d

-- "Fill: .. d-chain with boundary A": c is a chain of the n columns, and its boundary is A.
pub record Fills (D : ℕ → Chain) (n : ℕ) (A c : Chain) : Type 0 where
  pub under : Under n c
  pub bounds : boundary D n c ≡ A

-- "Class: .. G for which G+A is the boundary of some (d+1)-chain": G is a chain of the m rows.
pub record InClass (D : ℕ → Chain) (n m : ℕ) (A G : Chain) : Type 0 where
  pub under : Under m G
  pub by : Chain
  pub by_under : Under n by
  pub bounds : G ⊕ A ≡ boundary D n by

abbrev pub SmallestFilling : (ℕ → Chain) → ℕ → Chain → Chain → Type 0
SmallestFilling D n A = Smallest (Fills D n A)

abbrev pub SmallestInClass : (ℕ → Chain) → ℕ → ℕ → Chain → Chain → Type 0
SmallestInClass D n m A = Smallest (InClass D n m A)

-- "comparing numbers in which the simplex of rank i weighs 2 to the i": what the ranks below n weigh
unfoldable pub weight : ℕ → Chain → ℕ
weight zero c = 0
weight (suc n) c = weight n c + weigh (c n) n
  where
    weigh : Bool → ℕ → ℕ
    weigh true i = 2 ^ i
    weigh false i = 0
