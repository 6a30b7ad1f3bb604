-- What a client is answered when nobody else changes the store, and what that leaves of the store.
use Rattle.std.specs.Prelude.{◌≡◌, ℕ, false, List, [], ◌∷◌}
use Rattle.std.specs.FinMap as map
use Rattle.wp_text.specs.declared.script.Command.{Command}
use Rattle.wp_text.specs.declared.reply.Reply.{Reply}
use Rattle.wp_replies.specs.Client.{Client}
use Rattle.wp_replies.specs.Due.{Store, IsReply, store_after, client_after}
use Rattle.wp_replies.specs.Known.{StoredState}
use Rattle.wp_replies.specs.Replies.{Limits}

-- the store as it was opened, with nothing on the board
abbrev pub opened_store : Limits → StoredState → Store
opened_store limits found =
    record { base = found.edit.segment.base; history = found.history; stopped = false; limit = limits.opened; renewed_limit = limits.renewed; cells = limits.cells; installed = found.edit; halted = false; board = map.empty; locked = [] }

-- Each command is answered as the store is then, and leaves it so to the next; the last one leaves this store, and this client. For each
-- there is a place, which counts where it is a renewal that puts the log's segment there.
abbrev pub RunsAlone : (places : List ℕ) → Store → Client → List Command → List Reply → Store → Client → Type 0
RunsAlone [] old was [] [] new now = (new ≡ old) × (now ≡ was)
RunsAlone (place ∷ places) old was (first ∷ commands) (answer ∷ answers) new now =
    IsReply old was first answer × RunsAlone places (store_after place old was first answer) (client_after old.history was first answer) commands answers new now
RunsAlone places old was commands answers new now = ⊥
