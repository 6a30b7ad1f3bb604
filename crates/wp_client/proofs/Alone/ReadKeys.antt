-- What a client is answered that is alone and reads a key or a range, or that its own state refuses.
use Rattle.std.proofs.Common.{◌≡◌, inl, ℕ, ◌≤◌, List, [], length, refl, sym, ap, ◌∙◌, append-nil, Option, Some, None, arith}
use Rattle.wp_model.specs.declared.change.Change.{Change}
use Rattle.wp_model.specs.declared.entry.Entry.{Entry}
use Rattle.wp_model.specs.Batch.{change_to}
use Rattle.wp_model.specs.Flushed.{InstalledEdit}
use Rattle.wp_model.specs.History.{prepared_batch, batch_at, value_at}
use Rattle.wp_model.specs.LockState.{Labels}
use Rattle.wp_model.specs.Rows.{Pair, rows}
use Rattle.wp_text.specs.declared.script.Command.{Command}
use Rattle.wp_text.specs.declared.script.Command.TheVariants as command
use Rattle.wp_text.specs.declared.reply.Reply.TheVariants as reply
use Rattle.wp_core.specs.World.{World}
use Rattle.wp_shared.specs.Seats.{SharedState, SeatState, Stands}
use Rattle.wp_open_txns.specs.Calls.{Keeps}
use Rattle.wp_open_txns.specs.Txn.{PreparedState, HasPrepared}
use Rattle.wp_replies.specs.declared.client.LabelledSnapshot.{LabelledSnapshot}
use Rattle.wp_replies.specs.Txn.{Txn, Idle}
use Rattle.wp_replies.specs.Client.{Client, number_of, own_batch}
use Rattle.wp_replies.specs.Due.{Store, due, board_after, client_after}
use Rattle.wp_replies.specs.Plan.{read_reply, get_reply, get_at_reply, rows_reply, scan_at_reply}
use Rattle.wp_client.specs.Alone.{IsOnly, IsStoreOf, AnswersAlone}
use Rattle.wp_client.proofs.Alone.Kept.{goes_still}
use Rattle.wp_client.proofs.Alone.Seated.{none_quiet, follows_on, seen_still}
use Rattle.wp_client.proofs.Alone.Quiet.{LeavesStore, at_once, quiet_answers}

-- what is read says of no change of the store, nor of the client
read_leaves : (key : List ℕ) (value : Option (List ℕ)) (n : ℕ) → LeavesStore (command.Get key) (read_reply value n)
read_leaves key (Some value) n = record { logged = refl; fault = refl; installed = refl; tables = refl; board = λ b. refl }
read_leaves key None n = record { logged = refl; fault = refl; installed = refl; tables = refl; board = λ b. refl }

read_at_leaves : (key label : List ℕ) (value : Option (List ℕ)) (n : ℕ) → LeavesStore (command.GetAt key label) (read_reply value n)
read_at_leaves key label (Some value) n = record { logged = refl; fault = refl; installed = refl; tables = refl; board = λ b. refl }
read_at_leaves key label None n = record { logged = refl; fault = refl; installed = refl; tables = refl; board = λ b. refl }

read_keeps : (history : List Entry) (was : Client) (key : List ℕ) (value : Option (List ℕ)) (n : ℕ) → was ≡ client_after history was (command.Get key) (read_reply value n)
read_keeps history was key (Some value) n = refl
read_keeps history was key None n = refl

read_at_keeps : (history : List Entry) (was : Client) (key label : List ℕ) (value : Option (List ℕ)) (n : ℕ) → was ≡ client_after history was (command.GetAt key label) (read_reply value n)
read_at_keeps history was key label (Some value) n = refl
read_at_keeps history was key label None n = refl

-- a refusal by the client's own state leaves the board, whatever the command
state_board : (c : Command) (b : Labels) → board_after b c reply.State ≡ b
state_board (command.Tell label) b = refl
state_board _ b = refl

module _ {D : Type 0} (z : SharedState D) (first : InstalledEdit) (old new : SeatState) (only : IsOnly old) (store : Store) (is : IsStoreOf z first old.knows.participant store) where
  -- the client's own state refuses the command
  pub state_alone : new ≡ old → (was : Client) (c : Command) → due store was c ≡ reply.State → AnswersAlone z first old new was was c reply.State store
  state_alone same was c is_due =
      at_once z first old new only store is same was was c reply.State (record { logged = refl; fault = refl; installed = refl; tables = refl; board = λ b. state_board c b }) (inl (sym is_due)) refl refl

  -- the changes of a prepared transaction are those of its prepare
  pub prepared_changes : (t : PreparedState) → HasPrepared old t → batch_at store.history t.number ≡ t.batch
  prepared_changes t has = ap (λ (h : List Entry). batch_at h t.number) is.history ∙ ap prepared_batch has.stands

  module _ (txn : Txn) (snapshots : List LabelledSnapshot) where
    abbrev client : Client
    client = record { txn = txn; snapshots = snapshots }

    -- ---- what its own transaction says

    module _ (batch : List Change) (own : own_batch store.history txn ≡ batch) (key : List ℕ) where
      pub got_own_alone : new ≡ old → (value : List ℕ) → change_to batch key ≡ Some (Some value) → AnswersAlone z first old new client client (command.Get key) (reply.GotOwn value) store
      got_own_alone same value said =
          at_once z first old new only store is same client client (command.Get key) (reply.GotOwn value) (record { logged = refl; fault = refl; installed = refl; tables = refl; board = λ b. refl })
          (inl (sym (ap (λ (o : Option (Option (List ℕ))). get_reply store.history o key) (ap (λ (cs : List Change). change_to cs key) own ∙ said)))) refl refl

      pub missing_own_alone : new ≡ old → change_to batch key ≡ Some None → AnswersAlone z first old new client client (command.Get key) reply.MissingOwn store
      missing_own_alone same said =
          at_once z first old new only store is same client client (command.Get key) reply.MissingOwn (record { logged = refl; fault = refl; installed = refl; tables = refl; board = λ b. refl })
          (inl (sym (ap (λ (o : Option (Option (List ℕ))). get_reply store.history o key) (ap (λ (cs : List Change). change_to cs key) own ∙ said)))) refl refl

      -- ---- what a snapshot for this alone shows

      pub read_alone : (stood : (w : World) × Stands z new w) → change_to batch key ≡ None → (value : Option (List ℕ)) (at : ℕ) → Keeps z old new → length old.knows.participant.seen ≤ at → at ≤ length new.knows.participant.seen
          → value ≡ value_at new.knows.participant.seen key at → AnswersAlone z first old new client client (command.Get key) (read_reply value at) store
      read_alone stood said value at keeps low high value_is =
          let f = follows_on _ z old new _ keeps [] refl (sym (append-nil old.knows.participant.past)) in
          let seen = seen_still z first old new only store is stood [] f in
          let now : length new.knows.participant.seen ≡ length store.history = ap (λ (h : List Entry). length h) seen in
          let then : length store.history ≡ length old.knows.participant.seen = ap (λ (h : List Entry). length h) is.history in
          let at_is : at ≡ length store.history = omega (arith, low, high, now, then) in
          let shown : value ≡ value_at store.history key (length store.history) = value_is ∙ ap (λ (x : List Entry × ℕ). value_at x.0 key x.1) (λ i. (seen i, at_is i)) in
          quiet_answers z first old new only store is stood [] f none_quiet client client (command.Get key) (read_reply value at) (read_leaves key value at)
          (inl (ap (λ (x : Option (List ℕ) × ℕ). read_reply x.0 x.1) (λ i. (shown i, at_is i)) ∙ sym (ap (λ (o : Option (Option (List ℕ))). get_reply store.history o key) (ap (λ (cs : List Change). change_to cs key) own ∙ said))))
          (read_keeps store.history client key value at) (goes_still z old new _ keeps refl txn store)

    -- ---- at a snapshot of its own

    pub read_at_alone : (stood : (w : World) × Stands z new w) (key label : List ℕ) (n : ℕ) → number_of snapshots label ≡ Some n → Keeps z old new → (value : Option (List ℕ)) → value ≡ value_at new.knows.participant.seen key n
        → AnswersAlone z first old new client client (command.GetAt key label) (read_reply value n) store
    read_at_alone stood key label n labelled keeps value value_is =
        let f = follows_on _ z old new _ keeps [] refl (sym (append-nil old.knows.participant.past)) in
        let shown : value ≡ value_at store.history key n = value_is ∙ ap (λ (h : List Entry). value_at h key n) (seen_still z first old new only store is stood [] f) in
        quiet_answers z first old new only store is stood [] f none_quiet client client (command.GetAt key label) (read_reply value n) (read_at_leaves key label value n)
        (inl (ap (λ (v : Option (List ℕ)). read_reply v n) shown ∙ sym (ap (λ (o : Option ℕ). get_at_reply store.history o key label) labelled))) (read_at_keeps store.history client key label value n) (goes_still z old new _ keeps refl txn store)

    pub unknown_snapshot_alone : new ≡ old → (key label : List ℕ) → number_of snapshots label ≡ None → AnswersAlone z first old new client client (command.GetAt key label) (reply.UnknownSnapshot label) store
    unknown_snapshot_alone same key label none =
        at_once z first old new only store is same client client (command.GetAt key label) (reply.UnknownSnapshot label) (record { logged = refl; fault = refl; installed = refl; tables = refl; board = λ b. refl })
        (inl (sym (ap (λ (o : Option ℕ). get_at_reply store.history o key label) none))) refl refl

  -- ---- ranges, where no transaction is begun

  module _ (snapshots : List LabelledSnapshot) where
    abbrev idle : Client
    idle = record { txn = Idle; snapshots = snapshots }

    pub scanned_alone : (stood : (w : World) × Stands z new w) (from to : List ℕ) (pairs : List Pair) (at : ℕ) → Keeps z old new → length old.knows.participant.seen ≤ at → at ≤ length new.knows.participant.seen
        → pairs ≡ rows new.knows.participant.seen from to at → AnswersAlone z first old new idle idle (command.Scan from to) (reply.Rows pairs at) store
    scanned_alone stood from to pairs at keeps low high rows_are =
        let f = follows_on _ z old new _ keeps [] refl (sym (append-nil old.knows.participant.past)) in
        let seen = seen_still z first old new only store is stood [] f in
        let now : length new.knows.participant.seen ≡ length store.history = ap (λ (h : List Entry). length h) seen in
        let then : length store.history ≡ length old.knows.participant.seen = ap (λ (h : List Entry). length h) is.history in
        let at_is : at ≡ length store.history = omega (arith, low, high, now, then) in
        quiet_answers z first old new only store is stood [] f none_quiet idle idle (command.Scan from to) (reply.Rows pairs at) (record { logged = refl; fault = refl; installed = refl; tables = refl; board = λ b. refl })
        (inl (ap (λ (ps : List Pair). reply.Rows ps at) rows_are ∙ ap (λ (x : List Entry × ℕ). rows_reply x.0 from to x.1) (λ i. (seen i, at_is i)))) refl (goes_still z old new _ keeps refl Idle store)

    pub scanned_at_alone : (stood : (w : World) × Stands z new w) (from to label : List ℕ) (n : ℕ) → number_of snapshots label ≡ Some n → Keeps z old new → (pairs : List Pair) → pairs ≡ rows new.knows.participant.seen from to n
        → AnswersAlone z first old new idle idle (command.ScanAt from to label) (reply.Rows pairs n) store
    scanned_at_alone stood from to label n labelled keeps pairs rows_are =
        let f = follows_on _ z old new _ keeps [] refl (sym (append-nil old.knows.participant.past)) in
        let shown : pairs ≡ rows store.history from to n = rows_are ∙ ap (λ (h : List Entry). rows h from to n) (seen_still z first old new only store is stood [] f) in
        quiet_answers z first old new only store is stood [] f none_quiet idle idle (command.ScanAt from to label) (reply.Rows pairs n) (record { logged = refl; fault = refl; installed = refl; tables = refl; board = λ b. refl })
        (inl (ap (λ (ps : List Pair). reply.Rows ps n) shown ∙ sym (ap (λ (o : Option ℕ). scan_at_reply store.history o from to label) labelled))) refl (goes_still z old new _ keeps refl Idle store)

    pub unknown_scan_alone : new ≡ old → (from to label : List ℕ) → number_of snapshots label ≡ None → AnswersAlone z first old new idle idle (command.ScanAt from to label) (reply.UnknownSnapshot label) store
    unknown_scan_alone same from to label none =
        at_once z first old new only store is same idle idle (command.ScanAt from to label) (reply.UnknownSnapshot label) (record { logged = refl; fault = refl; installed = refl; tables = refl; board = λ b. refl })
        (inl (sym (ap (λ (o : Option ℕ). scan_at_reply store.history o from to label) none))) refl refl
