-- Laws that several proofs of this crate cite.
pub mod Four
pub mod Moving
