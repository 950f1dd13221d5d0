-- What the record stages of a job hand back, in the words of crate `format`.
pub mod Meaning
