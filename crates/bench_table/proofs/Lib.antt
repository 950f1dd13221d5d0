-- Theorems, by files: of each file some fall where a must-fail edit changes a definition of specs/. They stand here, so that the edited
-- definition still reads and is refused by what no longer holds of it.
-- each of the twelve jobs has its answer
pub mod Table
