-- Chains over Z/2 as sets of ranks: sum, boundary, the order of document 001, and what the smallest filling and
-- the smallest chain of a class are. `Chain` holds the definitions that a reader must believe; the other modules, here
-- and in proofs/, prove theorems about them, with no algorithm in sight.
pub mod Chain
-- the sum is a group in which every chain is its own inverse
pub mod Sum
-- the boundary is additive, and the boundary of a boundary is empty
pub mod Boundary
-- what the theorems on smallest chains speak of: groups of chains, what is left of a chain by them
pub mod Smallest
-- the groups of cycles and of boundaries
pub mod Homology
-- the outcome of a search for a smallest chain
pub mod Search
