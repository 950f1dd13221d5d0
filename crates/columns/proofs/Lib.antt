-- Laws that the functions' proofs share.
pub mod Laws
pub mod Words
pub mod Settling
