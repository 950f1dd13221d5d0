-- What moving one item comes to.
use Rattle.std.specs.Prelude.{ℕ, ◌≤◌, ◌<◌, ◌≡◌, length, take}
use Rattle.format.specs.Reading.{moved}
use Rattle.lists.specs.Meaning.{simplices_of}
use Rattle.lists.specs.declared.SimplexList.{SimplexList}
use Rattle.lists.specs.declared.Marks.{Marks}

-- "An edit takes the simplex from its seen position and puts it at the new one": `after` is that list, where there is
-- such a new position, and else the list as it was
pub record MovedList (before after : SimplexList) (seen new : ℕ) : Type 0 where
  pub simplices : new < length (simplices_of before) → simplices_of after ≡ moved seen new (simplices_of before)
  pub otherwise : length (simplices_of before) ≤ new → after ≡ before
  pub count : after.count ≡ before.count

-- The same of marks: a chain keeps its simplices when their ranks move. `front` says so of the ranks of a list.
pub record MovedMarks (before after : Marks) (seen new : ℕ) : Type 0 where
  pub whole : new < 512 → after.on ≡ moved seen new before.on
  pub front : (n : ℕ) → n ≤ 512 → seen < n → new < n → take n after.on ≡ moved seen new (take n before.on)
  pub otherwise : 512 ≤ new → after ≡ before
