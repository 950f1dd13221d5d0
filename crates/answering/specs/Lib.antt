-- What answering a job that was read leaves in the output.
pub mod Meaning
