-- What the structs of this crate mean in the terms of crate `format`: a struct is a simplex, an array of them with a
-- count is a list of simplices, and an answer of the look-up is a rank.
pub mod Meaning
pub mod Items
pub mod Moved
pub mod Same
