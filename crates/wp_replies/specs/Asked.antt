-- What the devices failed to take was asked for by the very command that was answered so, where nobody else changes the store.
use Rattle.std.specs.Prelude.{◌≡◌, ◌⊎◌, ℕ, Bool, true, List, ◌∷◌, Option, IfSome}
use Rattle.wp_model.specs.declared.entry.Entry.{Entry}
use Rattle.wp_model.specs.Flushed.{InstalledEdit}
use Rattle.wp_text.specs.declared.script.Command.{Command}
use Rattle.wp_text.specs.declared.reply.Reply.{Reply}
use Rattle.wp_replies.specs.Client.{Client}
use Rattle.wp_replies.specs.Due.{Store, plan_in, edit_of, store_after, client_after}
use Rattle.wp_replies.specs.Plan.{asked_of}

-- the command asks the log for these entries
abbrev pub AsksLog : List Entry → Store → Client → Command → Type 0
AsksLog entries store client command = entries ≡ asked_of (plan_in store client command)

-- it asks the tables for this edit, which in a renewal names a place of the log
abbrev pub AsksTables : InstalledEdit → Store → Client → Command → Type 0
AsksTables edit store client command = (place : ℕ) × (edit ≡ edit_of place store client (plan_in store client command))

-- likewise, where it came as far as an edit
abbrev pub AsksEdit : Option InstalledEdit → Store → Client → Command → Type 0
AsksEdit edit store client command = IfSome edit (λ next. AsksTables next store client command)

-- one of a client's commands was answered by such a fault, and asked so, where the renewals before it put the log at these places
abbrev pub FaultAsks : (is_failed : Command → Reply → Bool) (Asks : Store → Client → Command → Type 0) → (places : List ℕ) → Store → Client → List Command → List Reply → Type 0
FaultAsks is_failed Asks (place ∷ places) store client (first ∷ commands) (answer ∷ answers) =
    ((is_failed first answer ≡ true) × Asks store client first)
    ⊎ FaultAsks is_failed Asks places (store_after place store client first answer) (client_after store.history client first answer) commands answers
FaultAsks is_failed Asks places store client commands answers = ⊥
