-- What the stage of the chain record or walk hands back, in the words of crate `format`.
pub mod Meaning
