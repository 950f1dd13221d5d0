-- Laws of the write call that this crate's proofs share.
pub mod Laws
