-- Lemmas of the proofs of this crate, one file for each loop.
pub mod Facets
pub mod Adding
pub mod Climbing
pub mod Loading
pub mod Marking
pub mod Rimming
pub mod Solving
