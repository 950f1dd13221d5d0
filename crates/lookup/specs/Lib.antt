-- A list of simplices as an index of their numbers: what it is (`Indexed`), and why the look-up may use it (`IndexLaws`).
pub mod Indexed
pub mod IndexLaws
pub mod Numbered
pub mod NumberedLaws
-- simplices by the ranks of their facets
pub mod Sides
pub mod SidesLaws
pub mod EdgeSides
