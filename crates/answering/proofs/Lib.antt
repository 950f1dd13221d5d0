-- Laws that this crate's proofs share.
pub mod Numbering
pub mod Lists
pub mod Told
