-- A complex in lent arrays, by the numbers of its simplices, for the job reader and for those who answer it.
pub mod Held
pub mod HeldLaws
