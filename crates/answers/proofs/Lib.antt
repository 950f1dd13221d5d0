-- Laws and the loops' invariant that this crate's proofs share.
pub mod Members
