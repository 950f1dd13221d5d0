-- The bytes of answer records, as the code puts them.
pub mod Meaning
