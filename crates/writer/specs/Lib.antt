-- What the job writer does to the lent bytes.
pub mod Splice
pub mod Meaning
pub mod Normal
