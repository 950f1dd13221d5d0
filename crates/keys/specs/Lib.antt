-- Keys in rank order and the chains that lead through the keys of one bucket.
pub mod Chained
pub mod Number
