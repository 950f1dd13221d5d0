-- What the write call's parts speak of.
pub mod Meaning
