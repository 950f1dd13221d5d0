-- Laws that this crate's proofs share.
pub mod Editing
pub mod Holding
