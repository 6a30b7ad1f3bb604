-- What a reply leaves of the client.
use Rattle.std.specs.Prelude.{ℕ, not, List, [], ◌∷◌, ◌++◌, Some, None, if◌then◌else◌}
use Rattle.std.specs.List.{filter}
use Rattle.std.specs.Str.{bytes_eq}
use Rattle.wp_model.specs.declared.change.Change.{Change}
use Rattle.wp_model.specs.declared.change.Change.TheVariants as change
use Rattle.wp_model.specs.Batch.{key_of, with_change}
use Rattle.wp_model.specs.LockState.{is_among_keys}
use Rattle.wp_text.specs.declared.script.Command.{Command}
use Rattle.wp_text.specs.declared.script.Command.TheVariants as command
use Rattle.wp_text.specs.declared.reply.Reply.{Reply}
use Rattle.wp_text.specs.declared.reply.Reply.TheVariants as reply
use Rattle.wp_replies.specs.declared.client.LabelledSnapshot.{LabelledSnapshot}
use Rattle.wp_replies.specs.Txn.{Txn, Idle, Open, Prepared}
use Rattle.wp_replies.specs.Client.{Client, without_label}

-- an open transaction with one change more: a key that it locked without one has one now
abbrev pub with_staged : Txn → Change → Txn
with_staged (Open own) change = Open (record own { batch = with_change own.batch change; locked = filter (λ key. not (bytes_eq key (key_of change))) own.locked })
with_staged other change = other

-- an open transaction with the key locked, where it was not yet
abbrev pub with_locked_key : Txn → List ℕ → Txn
with_locked_key (Open own) key = Open (record own { locked = if is_among_keys own.locked key then own.locked else own.locked ++ key ∷ [] })
with_locked_key other key = other

-- an open transaction that is pinned at the number
abbrev pub with_pin : Txn → ℕ → Txn
with_pin (Open own) n = Open (record own { pin = Some n })
with_pin other n = other

abbrev pub after_staged : Client → Command → Client
after_staged client (command.Put key value) = record client { txn = with_staged client.txn (change.Put key value) }
after_staged client (command.Del key) = record client { txn = with_staged client.txn (change.Del key) }
after_staged client other = client

-- what is read under a lock is locked
abbrev pub after_read : Client → Command → Client
after_read client (command.Lock key) = record client { txn = with_locked_key client.txn key }
after_read client other = client

abbrev pub after_begun : Client → Command → Client
after_begun client (command.Begin name) = record client { txn = Open (record { name = name; batch = []; locked = []; pin = None }) }
after_begun client other = client

abbrev pub after_took : ℕ → Client → Command → Client
after_took p client (command.Take name) = record client { txn = Prepared p }
after_took p client other = client

-- a pin, a prepare and a decision change the transaction by their replies alone
abbrev pub after_decision : Client → Reply → Client
after_decision client (reply.Pinned n) = record client { txn = with_pin client.txn n }
after_decision client (reply.Prepared n) = record client { txn = Prepared n }
after_decision client (reply.Committed n) = record client { txn = Idle }
after_decision client reply.Dropped = record client { txn = Idle }
after_decision client (reply.RolledBack n) = record client { txn = Idle }
after_decision client reply.Left = record client { txn = Idle }
after_decision client other = client

-- the snapshots once the client has the reply
abbrev pub labels_after : List LabelledSnapshot → Command → Reply → List LabelledSnapshot
labels_after snapshots (command.Snap label) (reply.Snapped n) = snapshots ++ record { label = label; number = n } ∷ []
labels_after snapshots (command.Free label) reply.Freed = without_label snapshots label
labels_after snapshots other answer = snapshots

abbrev pub with_labels_after : Client → Command → Reply → Client
with_labels_after client command answer = record client { snapshots = labels_after client.snapshots command answer }

-- the client once it has the reply; `took` gives it the prepare with the number p
abbrev pub after_reply : ℕ → Client → Command → Reply → Client
after_reply p client command reply.Held = after_staged client command
after_reply p client command (reply.Got value n) = after_read client command
after_reply p client command (reply.Missing n) = after_read client command
after_reply p client command (reply.Snapped n) = with_labels_after client command (reply.Snapped n)
after_reply p client command reply.Freed = with_labels_after client command reply.Freed
after_reply p client command reply.Begun = after_begun client command
after_reply p client command reply.Took = after_took p client command
after_reply p client command other = after_decision client other
