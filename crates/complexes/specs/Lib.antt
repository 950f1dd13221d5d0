-- What the code's complex and job mean in the words of crate `format`.
pub mod Meaning
