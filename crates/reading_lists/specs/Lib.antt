-- What the list reader hands back, in the terms of crate `format`.
pub mod Items
