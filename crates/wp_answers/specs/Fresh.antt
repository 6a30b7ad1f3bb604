-- That what is read, told and heard, and what was flushed, compacted or renewed are of the store as it was while the command ran.
use Rattle.std.specs.Prelude.{Ok}
use Rattle.wp_text.specs.declared.script.Command.{Command}
use Rattle.wp_text.specs.declared.script.Command.TheVariants as command
use Rattle.wp_text.specs.declared.reply.Reply.{Reply}
use Rattle.wp_text.specs.declared.reply.Reply.TheVariants as reply
use Rattle.wp_shared.specs.Seats.{SharedState, SeatState}
use Rattle.wp_maint.specs.Calls.{Flushes}
use Rattle.wp_compact.specs.Calls.{Compacts}
use Rattle.wp_maint.specs.Renewal.{Renews}
use Rattle.wp_client.specs.Fresh.{NamesSeen}

-- A flush and a compaction have the number and the count of versions of the call that made the table, and a renewal the number and the
-- count of entries of the call that carried them. Of other replies it is what `NamesSeen` says.
abbrev pub NamesPublished : {D : Type 0} → SharedState D → SeatState → SeatState → Command → Reply → Type 0
NamesPublished z old new command.Flush (reply.Flushed n versions) = Flushes z old (Ok (record { at = n; versions = versions })) new
NamesPublished z old new command.Compact (reply.Compacted n versions) = Compacts z old (Ok (record { at = n; versions = versions })) new
NamesPublished z old new command.Renew (reply.Renewed n carried) = Renews z old (Ok (record { at = n; carried = carried })) new
NamesPublished z old new command answer = NamesSeen z old new command answer
