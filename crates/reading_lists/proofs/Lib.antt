-- Laws that the proofs of this crate cite.
pub mod Soundness
pub mod Faced
pub mod Judging
pub mod Facing
pub mod Taking
