-- Laws of the edits that this crate's proofs share.
pub mod Laws
pub mod Taking
