-- What the readers of a chain record and of a walk hand back.
pub mod Meaning
