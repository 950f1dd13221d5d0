-- What reading a job comes to, stage by stage.
pub mod Meaning
pub mod Known
