-- Theorems, by files: of each file some fall where a must-fail edit changes a definition of specs/. They stand here, so that the edited
-- definition still reads and is refused by what no longer holds of it.
-- laws of the edits
pub mod EditLaws
-- the worked jobs, computed
pub mod Worked
-- what is known of every accepted job
pub mod Accepted
-- the round trip, of every accepted file
pub mod Rewritten
-- which refusals a file can have, where they point, and what a caller can read off an outcome
pub mod Places
pub mod Results
-- demand 3 about sets of simplices: the laws of its definitions, and the theorems
pub mod SetLaws
pub mod SetBoundary
pub mod SetAnswers
pub mod Demands
