-- The twelve bench jobs that document 01 marks to be proved: `Jobs` is the data, `Table` what is to be shown of each. That it
-- holds of all twelve is the one theorem of proofs/Table.
pub mod Jobs
pub mod Table
