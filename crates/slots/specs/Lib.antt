-- What the slots in the work memory do for a matrix: from slots of which none is taken to the smallest filling and the
-- smallest chain of a class. The contracts speak of chains; the bytes are crate `columns`, the reasons are crate `echelon`.
pub mod Slots
pub mod Laws
