use Rattle.std.proofs.Common.{◌≡◌, map, take}
use Rattle.wp_seats.specs.New.{client_of}
use Rattle.wp_seats.proofs.room.names_of.Given as goal

abbrev pub invariant-loop-part : goal.invariant-loop-part
invariant-loop-part l = l.names.items ≡ map client_of (take l.part-index l.parts)
