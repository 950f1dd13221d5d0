-- What the head reader's answers mean in the words of crate `format`.
pub mod Meaning
