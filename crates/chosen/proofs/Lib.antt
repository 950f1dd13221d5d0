-- The loops' invariants, each with its start, its steps and its end.
pub mod Positions
pub mod Steps
