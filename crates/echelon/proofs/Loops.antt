-- What the loops of a program need, gathered in one place: the invariants, and a lemma for each start, turn and end.
-- D are n columns of m rows, and the slots are R and W. A loop over rows goes downward: i is one above the row r at hand,
-- `suc r ≡ i`, so it starts at m and ends at zero. A turn that adds a slot takes the new chains as equations.

-- The loop over the columns, in rising rank. Invariant: `Echelon D n m k R W`, the first k columns are in.
pub use Rattle.echelon.specs.Echelon.{Echelon}
pub use Rattle.echelon.proofs.Echelon.{echelon-start, slot-top, slot-under, vacant-columns}
-- The loop over the rows, while column k is put in (`Inserting`) or A is filled (`Filling`). At each row the chain does not
-- hold it (`reducing-skip`), or its slot is occupied and is added to both sides (`reducing-add`), or the loop stops.
pub use Rattle.echelon.specs.Reducing.{Reducing, Inserting, Filling}
pub use Rattle.echelon.proofs.Reducing.{reducing-start, reducing-skip, reducing-add}
-- Column k: the loop came to its end (`insert-dropped`), or it stopped at a vacant slot, which now takes what is left of
-- the column (`insert-kept`). Either way k + 1 columns are in.
pub use Rattle.echelon.specs.Insert.{Put}
pub use Rattle.echelon.proofs.Insert.{insert-dropped, dropped-cycle, insert-kept}
-- Fill: the loop came to its end with the smallest filling (`fill-found`), or it stopped and there is none (`fill_none`).
pub use Rattle.echelon.proofs.Answer.{fill-found, fill_none}
-- Class: a loop over the rows that never stops, and ends with the smallest chain of the class (`class-done`).
pub use Rattle.echelon.specs.Answer.{Classing}
pub use Rattle.echelon.proofs.Answer.{class-start, class-skip, class-vacant, class-add, class-done, class-found}
