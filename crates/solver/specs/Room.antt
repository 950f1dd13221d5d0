-- How a caller meets what the solver asks, with slots of half size 64: the work memory has room for them.
use Rattle.std.specs.Prelude.{◌≡◌, refl}
use Rattle.columns.specs.Slot.{room_of}

-- "65,536 bytes of work memory"
pub room_small : room_of 64 ≡ 65536
unfolding room_of
room_small = refl
