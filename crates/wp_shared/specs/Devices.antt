-- What a seat remembers of the devices that it called.
use Rattle.std.specs.Prelude.{◌≡◌, Bool, true, false, List, ◌++◌, filter}
use Rattle.wp_core.specs.Views.{Event, installed, renewed, tables_failed, log_failed, log_stopped}
use Rattle.wp_core.specs.World.{Participant}

-- a call of a device left this mark: an edit was installed, a device failed, or the log was stopped with the segment that was written for it
abbrev pub is_device_mark : Event → Bool
is_device_mark (installed edit compacts) = true
is_device_mark (renewed edit) = true
is_device_mark (tables_failed last edit) = true
is_device_mark (log_failed entries) = true
is_device_mark log_stopped = true
is_device_mark other = false

abbrev pub device_marks : Participant → List Event
device_marks p = filter is_device_mark p.past

-- Between the two the seat called no device. Each call of one leaves its mark before the seat gives the turn. A record that was appended is
-- in the history, under numbers of the seat's own, or its append failed. A segment that was written is used, behind a renewed edit, or the
-- log is stopped with it. A table that was written is installed with its edit, or the install failed, or the log did. Neither of the two
-- can be dropped. (The install of an edit that changes nothing would leave no mark, but it may fail, and no answer has that.)
pub record CalledNoDevice (old new : Participant) : Type 0 where
  pub own : new.own ≡ old.own
  pub marks : device_marks new ≡ device_marks old

-- Between the two it left just these marks.
pub record LeftMarks (events : List Event) (old new : Participant) : Type 0 where
  pub own : new.own ≡ old.own
  pub marks : device_marks new ≡ device_marks old ++ events
