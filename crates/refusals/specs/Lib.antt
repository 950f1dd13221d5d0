-- What a refusal means, and how an answer that may be one is the reading that crate `format` defines.
pub mod Meaning
pub mod Readings
pub mod Numbers
