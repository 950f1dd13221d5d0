-- The reduction of a boundary matrix over Z/2, as functions on chains: slots keyed by their highest row, filled column by
-- column, and what they answer. The theorems stand in proofs/ under the same names; for the programs that do this on bytes
-- `Loops` there gathers what their proofs need.
-- the reduction of one chain by slots, a pure function
pub mod Reduce
-- the slots after some columns, as a record of facts
pub mod Echelon
-- the reduction under way, with the columns collected
pub mod Reducing
-- one more column
pub mod Insert
-- the smallest chain of a class
pub mod Answer
-- slots as functions on chains
pub mod Run
