-- Laws of the stages that this crate's proofs share.
pub mod Laws
