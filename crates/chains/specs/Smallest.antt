-- What the theorems on smallest chains (proofs/Smallest) speak of: groups of chains, chains that differ by a group, and
-- chains that hold no highest rank of a member.
use Rattle.std.specs.Prelude.{ℕ, ◌≡◌, false}
use Rattle.chains.specs.Chain.{Chain, ◌⊕◌, empty, Under, Top}

-- K is a group of chains below rank n: sums of members are members.
pub record Group (K : Chain → Type 0) (n : ℕ) : Type 0 where
  pub none : K empty
  pub sum : (a b : Chain) → K a → K b → K (a ⊕ b)
  pub under : (k : Chain) → K k → Under n k

-- The chains with a property differ by members of K, and adding a member of K keeps the property.
pub record Coset (K Has : Chain → Type 0) : Type 0 where
  pub apart : (c d : Chain) → Has c → Has d → K (c ⊕ d)
  pub moved : (c k : Chain) → Has c → K k → Has (c ⊕ k)

-- c holds no rank that is the highest of some member of K: nothing of K can make it smaller.
abbrev pub Free : (Chain → Type 0) → Chain → Type 0
Free K c = (k : Chain) (i : ℕ) → K k → Top k i → c i ≡ false
