-- Theorems, by files: of each file some fall where a must-fail edit changes a definition of specs/. They stand here, so that the edited
-- definition still reads and is refused by what no longer holds of it.
-- the reduction of one chain by slots, a pure function
pub mod Reduce
-- the slots after some columns, as a record of facts
pub mod Echelon
-- the reduction under way, with the columns collected
pub mod Reducing
-- one more column
pub mod Insert
-- the smallest filling and the smallest chain of a class
pub mod Answer
-- the lemmas by the place of the loop that needs them, for the programs that do this on bytes
pub mod Loops
-- the loops as functions on chains: the lemmas suffice
pub mod Run
