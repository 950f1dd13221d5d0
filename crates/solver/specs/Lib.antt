-- What the solver's calls do, in the terms of crates `chains` and `format`: the columns that are built and put into
-- the slots (`Columns`), and the answers to the two questions (`Solved`).
pub mod Columns
pub mod Solved
-- how a caller meets what they ask
pub mod Room
