-- Laws of the stage that this crate's proofs share.
pub mod Laws
