-- Theorems, by files: of each file some fall where a must-fail edit changes a definition of specs/. They stand here, so that the edited
-- definition still reads and is refused by what no longer holds of it.
-- the order is strict and total
pub mod Order
-- the order compares weights
pub mod Weight
-- there is at most one smallest chain, and what makes a chain the smallest
pub mod Smallest
-- the same for fillings and for classes
pub mod Homology
-- a smallest chain exists
pub mod Search
