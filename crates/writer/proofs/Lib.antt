-- Laws and loop invariants that this crate's proofs share.
pub mod Runs
pub mod Records
