-- What one client alone is answered, and leaves.
use Rattle.std.specs.Prelude.{◌≡◌, ℕ, true, List, [], ◌∷◌}
use Rattle.wp_text.specs.declared.script.Part.{Part}
use Rattle.wp_text.specs.declared.reply.Reply.{Reply}
use Rattle.wp_replies.specs.Asked.{AsksLog, AsksEdit, FaultAsks}
use Rattle.wp_replies.specs.Client.{Client, new_client}
use Rattle.wp_replies.specs.Current.{opened_store, RunsAlone}
use Rattle.wp_replies.specs.Due.{Store}
use Rattle.wp_replies.specs.Kind.{is_tables_fault, stops_log}
use Rattle.wp_replies.specs.Known.{StoredState}
use Rattle.wp_replies.specs.Replies.{Untaken, Limits}

abbrev pub stored_in : Store → StoredState
stored_in store = record { history = store.history; edit = store.installed }

-- With one client, nobody else changes the store: what is left is what its replies leave, and what a device failed to take
-- is what the very command asked for that was answered so. A renewal asked the log for no entry.
abbrev pub IsExact : Limits → (found left : StoredState) → Untaken → List Part → List (List Reply) → Type 0
IsExact limits found left failed (part ∷ []) (answers ∷ []) =
    (places : List ℕ) × (last : Store) × (client : Client) × RunsAlone places (opened_store limits found) new_client part.commands answers last client × (left ≡ stored_in last)
    × (last.stopped ≡ true → FaultAsks stops_log (AsksLog failed.entries) places (opened_store limits found) new_client part.commands answers)
    × (last.halted ≡ true → FaultAsks (λ command answer. is_tables_fault answer) (AsksEdit failed.edit) places (opened_store limits found) new_client part.commands answers)
IsExact limits found left failed script sessions = Unit {0}
