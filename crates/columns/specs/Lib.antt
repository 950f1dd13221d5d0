-- Columns of bits in lent bytes: what a column means as a chain, where the slots of the work memory lie, and what
-- the search, the reduction and the insertion compute. The solver's proofs use the laws stated here, not the text.
pub mod Column
pub mod ColumnLaws
pub mod Slot
pub mod SlotLaws
pub mod PairLaws
pub mod Word
pub mod Search
pub mod Reduce
pub mod ReduceLaws
pub mod ReduceChains
