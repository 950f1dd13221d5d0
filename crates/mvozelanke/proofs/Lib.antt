-- Laws that the calls' proofs share.
pub mod Laws
