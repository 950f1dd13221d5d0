-- The reasons by their numbers in the table, each by its name among the numbers of the paper.
use Rattle.std.specs.Prelude.{ℕ}
use Rattle.format.specs.Numbers as format
use Rattle.refusals.specs.declared.Reason.{Reason}
use Rattle.refusals.specs.declared.Reason.TheVariants.{TooLong, Cut, Kind, Shape, Head, Vertex, Twice, Face, ChainItem, Stale, Target, RimOpen, NoFilling, Room}

abbrev pub number_of : Reason → ℕ
number_of TooLong = format.too_long
number_of Cut = format.cut
number_of Kind = format.wrong_kind
number_of Shape = format.shape
number_of Head = format.bad_head
number_of Vertex = format.vertex
number_of Twice = format.twice
number_of Face = format.face
number_of ChainItem = format.chain_item
number_of Stale = format.stale
number_of Target = format.target
number_of RimOpen = format.rim_open
number_of NoFilling = format.no_filling
number_of Room = format.room
