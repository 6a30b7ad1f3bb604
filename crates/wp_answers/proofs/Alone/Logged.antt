-- What is answered to a command that asks the log for entries: they are put there, or it refuses them, or it fails.
use Rattle.std.proofs.Common.{◌≡◌, ⊎_elim, inl, inr, ℕ, ◌+◌, ◌<◌, ◌≤◌, Bool, true, false, ◌||◌, nat_lt, List, [], ◌∷◌, ◌++◌, length, refl, sym, subst, ap, ◌∙◌, append-nil, append_assoc, length-append, Some, arith}
use Rattle.std.specs.Prelude.{if◌then◌else◌}
use Rattle.std.proofs.lemmas.Bool.Decides.{nat_tests}
use Rattle.wp_model.specs.declared.entry.Entry.{Entry}
use Rattle.wp_model.specs.Flushed.{InstalledEdit}
use Rattle.wp_model.specs.Legal.{IsLegal}
use Rattle.wp_model.specs.LockState.{Labels}
use Rattle.wp_history_laws.proofs.Growth.{legal_before}
use Rattle.wp_text.specs.declared.script.Command.{Command}
use Rattle.wp_text.specs.declared.reply.Reply.{Reply}
use Rattle.wp_text.specs.declared.reply.Reply.TheVariants as reply
use Rattle.wp_core.specs.Lists.{IsIn, one_if}
use Rattle.wp_core.specs.World.{Participant, World}
use Rattle.wp_core.specs.Sound.Pasts.{closes_log, is_tables_fault, last_installed}
use Rattle.wp_core.specs.Views.{Event, Fact, log_failed, log_stopped, tables_failed, stopped, based_at}
use Rattle.wp_core.proofs.EachStep.{reached_is_sound}
use Rattle.wp_records.specs.Writing.{FoundLog}
use Rattle.wp_records.specs.Records.{numbers_behind, IsAboutNone}
use Rattle.wp_rule.proofs.Knows.{one_was_first}
use Rattle.wp_shared.specs.Calls.{IsLoose, ContinuesWith}
use Rattle.wp_shared.specs.Limits.{limit_at}
use Rattle.wp_parts.specs.Parts.{content}
use Rattle.wp_shared.specs.Seats.{SharedState, SeatState, Stands}
use Rattle.wp_open_txns.specs.declared.error.TxnError.TheVariants.{NumbersFull, LogFault, Stopped}
use Rattle.wp_txn.specs.Writes.{HasPut, RefusesWith}
use Rattle.wp_replies.specs.Txn.{Txn}
use Rattle.wp_replies.specs.Client.{Client}
use Rattle.wp_replies.specs.Due.{Store, plan_in, logged, due, edit_of, board_after, locked_after, store_after, client_after}
use Rattle.wp_replies.specs.Kind.{is_logged, is_fault, is_installed, is_renewed, is_renewal, calls_log}
use Rattle.wp_replies.specs.Kind as kind
use Rattle.wp_replies.specs.Plan.{asked_of}
use Rattle.wp_client.specs.Alone.{log_faults, IsOnly, IsStoreOf, AreLockedOf, AreLockedIn, AnswersAlone}
use Rattle.wp_client.proofs.Alone.Kept.{goes_still}
use Rattle.wp_client.proofs.Alone.Published.{total_both, none_if, if_one, in_both, not_counted}
use Rattle.wp_client.proofs.Growing.{in_back}
use Rattle.wp_client.proofs.Alone.Worlds.{has_seen, no_log_fault, only_of, was_stopped}
use Rattle.wp_client.proofs.Alone.Seated.{LeaveTables, AreQuiet, one_quiet, one_leaves, both_leave, both_quiet, Follows, alone_at, follows, follows_on, is_alone, last_over, begins_opened, log_now, log_still, past_still, seen_still, such_store}
use Rattle.wp_answers.proofs.Alone.Putting.{few_put, put_behind}
use Rattle.wp_client.proofs.Alone.Quiet.{never_stops, never_renews, locked_same, LeavesStore, quiet_answers}

-- ---- what is due

log_takes : (store : Store) (needed : ℕ) (r : Reply) → store.stopped ≡ false → length store.history + needed ≤ store.limit → logged store needed r ≡ r
log_takes store needed r running room =
    let few : nat_lt store.limit (length store.history + needed) ≡ false = grind (arith, nat_tests) in
    ap (λ (b : Bool). if b then reply.Stopped (length store.history) else (if nat_lt store.limit (length store.history + needed) then reply.Full (length store.history) store.limit else r)) running
    ∙ ap (λ (b : Bool). if b then reply.Full (length store.history) store.limit else r) few

log_is_full : (store : Store) (needed : ℕ) (r : Reply) → store.stopped ≡ false → store.limit < length store.history + needed → logged store needed r ≡ reply.Full (length store.history) store.limit
log_is_full store needed r running full =
    let many : nat_lt store.limit (length store.history + needed) ≡ true = grind (arith, nat_tests) in
    ap (λ (b : Bool). if b then reply.Stopped (length store.history) else (if nat_lt store.limit (length store.history + needed) then reply.Full (length store.history) store.limit else r)) running
    ∙ ap (λ (b : Bool). if b then reply.Full (length store.history) store.limit else r) many

log_is_stopped : (store : Store) (needed : ℕ) (r : Reply) → store.stopped ≡ true → logged store needed r ≡ reply.Stopped (length store.history)
log_is_stopped store needed r failed = ap (λ (b : Bool). if b then reply.Stopped (length store.history) else (if nat_lt store.limit (length store.history + needed) then reply.Full (length store.history) store.limit else r)) failed

-- the command comes to these entries, so many, which that reply acknowledges
pub record AsksFor (store : Store) (was : Client) (c : Command) (needed : ℕ) (r : Reply) (entries : List Entry) : Type 0 where
  pub due_is : due store was c ≡ logged store needed r
  pub asked : asked_of (plan_in store was c) ≡ entries
  pub logged : is_logged r ≡ true
  pub fault : is_fault r ≡ false
  pub installed : is_installed r ≡ false
  pub tables : kind.is_tables_fault r ≡ false
  pub board : (b : Labels) (answer : Reply) → board_after b c answer ≡ b

-- the store with the entries
store_with : (store : Store) (was : Client) (c : Command) (needed : ℕ) (r : Reply) (entries : List Entry) → AsksFor store was c needed r entries → store_after 0 store was c r ≡ record store { history = store.history ++ entries; locked = locked_after store.locked was.txn r }
store_with store was c needed r entries a = λ i. record {
  base = store.base;
  history = (ap (λ (b : Bool). store.history ++ (if b then asked_of (plan_in store was c) else [])) a.logged ∙ ap (λ (es : List Entry). store.history ++ es) a.asked) i;
  stopped = ap (λ (b : Bool). if b then true else store.stopped) (never_stops (is_renewal c) (kind.kind r) a.fault a.tables) i;
  limit = ap (λ (b : Bool). if b then store.renewed_limit else store.limit) (never_renews (kind.kind r) a.installed) i;
  renewed_limit = store.renewed_limit;
  cells = store.cells;
  installed = ap (λ (b : Bool). if b then edit_of 0 store was (plan_in store was c) else store.installed) a.installed i;
  halted = ap (λ (b : Bool). if b then true else store.halted) a.tables i;
  board = a.board store.board r i;
  locked = locked_after store.locked was.txn r;
}

-- the store with its log failed
store_failed : (store : Store) (was : Client) (c : Command) (needed : ℕ) (r : Reply) (entries : List Entry) → AsksFor store was c needed r entries → store_after 0 store was c reply.FaultLog ≡ record store { stopped = true }
store_failed store was c needed r entries a = λ i. record {
  base = store.base;
  history = append-nil store.history i;
  stopped = true;
  limit = store.limit;
  renewed_limit = store.renewed_limit;
  cells = store.cells;
  installed = store.installed;
  halted = store.halted;
  board = a.board store.board reply.FaultLog i;
  locked = locked_same store.locked was.txn reply.FaultLog refl i;
}

-- who goes on as this participant, but for what it remembers, knows of the locked keys what it knew
abbrev pub StillLocks : {D : Type 0} → (Fact → Type 0) → SharedState D → SeatState → SeatState → Participant → Txn → Store → Type 0
StillLocks Stays z old new after txn store = (p : Participant) → p.transactions ≡ after.transactions → ContinuesWith Stays z old new p → AreLockedIn z old txn store → AreLockedIn z new txn store

pub loose_locks : {D : Type 0} (z : SharedState D) (old new : SeatState) (after : Participant) (txn : Txn) (store : Store) → after.transactions ≡ old.knows.participant.transactions → StillLocks IsLoose z old new after txn store
loose_locks z old new after txn store same = λ p has goes. goes_still z old new p goes (has ∙ same) txn store

of_last : (others es : List Entry) → IsIn (log_failed others) (log_failed es ∷ []) → others ≡ es
of_last others es (inl same) = let e : log_failed es ≡ log_failed others = same in cc
of_last others es (inr none) = absurd none

not_stopped : (es : List Entry) → IsIn log_stopped (log_failed es ∷ []) → ⊥
not_stopped es (inl same) = let e : log_failed es ≡ log_stopped = same in cc
not_stopped es (inr none) = none

module _ {D : Type 0} (z : SharedState D) (first : InstalledEdit) (old new : SeatState) (only : IsOnly old) (store : Store) (is : IsStoreOf z first old.knows.participant store) where
  -- the log was found running, so it had not failed before
  pub not_failed : (found : Participant) (history : List Entry) (pre : List Event) → found.past ≡ old.knows.participant.past ++ pre → FoundLog z old found history false → log_faults old.knows.participant.past ≡ 0
  not_failed found history pre past k =
      let none = no_log_fault k.world k.there.reached old.by k.actor k.there.there k.closed_is in
      let both = total_both (λ (e : Event). one_if (closes_log e)) old.knows.participant.past pre in
      let same : log_faults k.actor.participant.past ≡ log_faults (old.knows.participant.past ++ pre) = ap log_faults (ap (λ (q : Participant). q.past) k.participant ∙ past) in omega (arith, none, both, same)

  pub store_runs : (found : Participant) (history : List Entry) (pre : List Event) → found.past ≡ old.knows.participant.past ++ pre → FoundLog z old found history false → store.stopped ≡ false
  store_runs found history pre past k = none_if store.stopped (is.stopped ∙ not_failed found history pre past k)

  -- its last edit was the store's
  edit_found : (found : Participant) (history : List Entry) (closed : Bool) (pre : List Event) → found.past ≡ old.knows.participant.past ++ pre → LeaveTables pre → (k : FoundLog z old found history closed) → k.world.installed.last ≡ store.installed
  edit_found found history closed pre past leave k =
      let alone = alone_at z old.by k.actor k.world k.there only.by (k.made ∙ only.made) (k.joined ∙ only.joined) in
      let began : k.world.first_edit ≡ first = one_was_first content z.first k.world.first_edit first k.there.first_edit is.first_is in
      let past_then : k.actor.participant.past ≡ old.knows.participant.past ++ pre = ap (λ (q : Participant). q.past) k.participant ∙ past in
      (only_of k.world k.there.reached k.actor alone).edit
      ∙ (ap (λ (edit : InstalledEdit). last_installed edit k.actor.participant.past) began ∙ (ap (last_installed first) past_then
      ∙ (last_over first old.knows.participant.past pre ∙ (leave.edits (last_installed first old.knows.participant.past) ∙ sym is.installed))))

  -- so the limit was its limit
  limit_found : (found : Participant) (history : List Entry) (closed : Bool) (pre : List Event) → found.past ≡ old.knows.participant.past ++ pre → LeaveTables pre → (k : FoundLog z old found history closed)
      → limit_at z k.world.installed.last.segment.base ≡ store.limit
  limit_found found history closed pre past leave k = ap (λ (edit : InstalledEdit). limit_at z edit.segment.base) (edit_found found history closed pre past leave k) ∙ sym is.limit

  module _ (stood : (w : World) × Stands z new w) where
    abbrev behind_it : World
    behind_it = stood.0

    legal_seen : IsLegal new.knows.participant.seen
    legal_seen =
        let s = reached_is_sound behind_it stood.1.reached in let k = has_seen behind_it stood.1.reached new.by new.knows stood.1.there in
        legal_before new.knows.participant.seen k.0 (subst IsLegal k.1 s.history.legal)

    -- ---- the entries are put

    module _ (Stays : Fact → Type 0) (found after : Participant) (pre : List Event) (found_past : found.past ≡ old.knows.participant.past ++ pre) (after_own : after.own ≡ old.knows.participant.own)
        (after_past : after.past ≡ old.knows.participant.past ++ pre) (quiet : AreQuiet pre) where
      put_follows : (history entries : List Entry) → HasPut Stays z old new found after history entries → Follows old new (numbers_behind (length history) entries) pre
      put_follows history entries put =
          follows (λ fact. Stays fact × IsAboutNone history entries fact) z old new _ put.goes_on (numbers_behind (length history) entries) pre (ap (λ (own : List ℕ). own ++ numbers_behind (length history) entries) after_own) after_past

      pub put_answers : (history entries : List Entry) → HasPut Stays z old new found after history entries → (was now : Client) (c : Command) (r : Reply)
          → (history ≡ store.history → IsLegal (history ++ entries) → AsksFor store was c (length entries) r entries) → now ≡ client_after store.history was c r
          → (history ≡ store.history → IsLegal (history ++ entries) → AreLockedIn z old was.txn store → AreLockedOf z new now.txn (store.history ++ entries) (locked_after store.locked was.txn r)) → AnswersAlone z first old new was now c r store
      put_answers history entries put was now c r asks client locks =
          let f = put_follows history entries put in
          let behind = put_behind z first old new only store is stood history entries pre f put.grown put.seen in
          let a = asks behind (subst IsLegal put.seen legal_seen) in
          let running = store_runs found history pre found_past put.found_log in
          let room : length store.history + length entries ≤ store.limit =
          (let size : length history ≡ length store.history = ap (λ (h : List Entry). length h) behind in let both = length-append history entries in let most = put.within in let limit = limit_found found history false pre found_past quiet.leave put.found_log in omega (arith, size, both, most, limit)) in
          let still = past_still z first old new only store is stood (numbers_behind (length history) entries) pre f quiet.leave in
          let grown : IsStoreOf z first new.knows.participant (record store { history = store.history ++ entries; locked = locked_after store.locked was.txn r }) = record {
            first_is = is.first_is;
            at = is.at;
            base = is.base;
            risen = is.risen;
            history = ap (λ (h : List Entry). h ++ entries) (sym behind) ∙ sym put.seen;
            opened = begins_opened z first old new only store is stood (numbers_behind (length history) entries) pre f;
            own = few_put z first old new only store is stood history entries pre f put.grown put.seen;
            stopped = log_still z first old new only store is stood (numbers_behind (length history) entries) pre f quiet.log;
            limit = is.limit;
            renewed_limit = is.renewed_limit;
            cells = is.cells;
            installed = still.installed;
            halted = still.halted;
            board = still.board;
          } in record {
            replied = inl (sym (a.due_is ∙ log_takes store (length entries) r running room));
            place = 0;
            store_is = subst (λ (x : Store). IsStoreOf z first new.knows.participant x) (sym (store_with store was c (length entries) r entries a)) grown;
            locked = λ are. subst (AreLockedIn z new now.txn) (sym (store_with store was c (length entries) r entries a)) (locks behind (subst IsLegal put.seen legal_seen) are);
            client = client;
            events = pre;
            past = f.past;
            asked = λ es there. absurd (not_counted closes_log pre (log_failed es) quiet.log there refl);
            asked_none = λ there. absurd (not_counted closes_log pre log_stopped quiet.log there refl);
            asked_edit = λ last edit there. absurd (not_counted is_tables_fault pre (tables_failed last (Some edit)) quiet.leave.tables there refl);
          }

      -- ---- they are refused

      module _ (needed : ℕ) (Asks : List Entry → Type 0) (was : Client) (c : Command) (r : Reply) (entries : List Entry)
          (asks : (closed : Bool) → FoundLog z old found new.knows.participant.seen closed → new.knows.participant.seen ≡ store.history → AsksFor store was c needed r entries) (locks_stay : StillLocks Stays z old new after was.txn store) where
        leaves_for : (answer : Reply) → is_logged answer ≡ false → is_fault answer ≡ false → is_installed answer ≡ false → kind.is_tables_fault answer ≡ false → AsksFor store was c needed r entries → LeavesStore c answer
        leaves_for answer l f i t a = record { logged = l; fault = f; installed = i; tables = t; board = λ b. a.board b answer }

        pub stopped_answers : (n : ℕ) → RefusesWith Stays z old new needed Asks found after (Stopped n) → was ≡ client_after store.history was c (reply.Stopped n) → AnswersAlone z first old new was was c (reply.Stopped n) store
        stopped_answers n k client =
            let events : List Event = pre ++ stopped n ∷ [] in
            let all_quiet : AreQuiet events = both_quiet pre (stopped n ∷ []) quiet (one_quiet (stopped n) refl refl (λ edit. refl) (λ label m e. absurd cc)) in
            let f = follows_on _ z old new _ k.2 events after_own (ap (λ (es : List Event). es ++ stopped n ∷ []) after_past ∙ append_assoc old.knows.participant.past pre (stopped n ∷ [])) in
            let seen = seen_still z first old new only store is stood events f in
            let a = asks true k.1 seen in
            let alone = is_alone z first old new only store is stood [] events f in
            let there : IsIn (stopped n) new.knows.participant.past = subst (IsIn (stopped n)) (sym f.past) (in_back (stopped n) old.knows.participant.past events (in_back (stopped n) pre (stopped n ∷ []) (inl refl))) in
            let closed = (was_stopped behind_it stood.1.reached new.knows alone n there).0 in
            let failed : store.stopped ≡ true = if_one store.stopped (log_still z first old new only store is stood [] events f all_quiet.log ∙ ((only_of behind_it stood.1.reached new.knows alone).closed ∙ ap one_if closed)) in
            quiet_answers z first old new only store is stood events f all_quiet was was c (reply.Stopped n) (leaves_for (reply.Stopped n) refl refl refl refl a)
            (inl (sym (a.due_is ∙ (log_is_stopped store needed r failed ∙ ap reply.Stopped (sym (k.0 ∙ ap (λ (h : List Entry). length h) seen)))))) client (locks_stay _ refl k.2)

        pub full_answers : (published limit : ℕ) → RefusesWith Stays z old new needed Asks found after (NumbersFull published limit) → was ≡ client_after store.history was c (reply.Full published limit) → AnswersAlone z first old new was was c (reply.Full published limit) store
        full_answers published limit k client =
            let last : Event = based_at published k.2.world.installed.last.segment.base in
            let events : List Event = pre ++ last ∷ [] in
            let all_quiet : AreQuiet events = both_quiet pre (last ∷ []) quiet (one_quiet last refl refl (λ edit. refl) (λ label m e. absurd cc)) in
            let f = follows_on _ z old new _ k.4 events after_own (ap (λ (es : List Event). es ++ last ∷ []) after_past ∙ append_assoc old.knows.participant.past pre (last ∷ [])) in
            let seen = seen_still z first old new only store is stood events f in
            let a = asks false k.2 seen in
            let running = store_runs found new.knows.participant.seen pre found_past k.2 in
            let size : published ≡ length store.history = k.0 ∙ ap (λ (h : List Entry). length h) seen in
            let most : limit ≡ store.limit = k.3 ∙ limit_found found new.knows.participant.seen false pre found_past quiet.leave k.2 in
            let full : store.limit < length store.history + needed = (let over = k.1 in omega (arith, size, most, over)) in
            quiet_answers z first old new only store is stood events f all_quiet was was c (reply.Full published limit) (leaves_for (reply.Full published limit) refl refl refl refl a)
            (inl (sym (a.due_is ∙ (log_is_full store needed r running full ∙ ap (λ (x : ℕ × ℕ). reply.Full x.0 x.1) (λ i. (sym size i, sym most i)))))) client (locks_stay _ refl k.4)

        pub fault_answers : ((es : List Entry) → new.knows.participant.seen ≡ store.history → Asks es → es ≡ entries) → RefusesWith Stays z old new needed Asks found after LogFault → was ≡ client_after store.history was c reply.FaultLog → AnswersAlone z first old new was was c reply.FaultLog store
        fault_answers same k client =
            let es = k.2.0 in let asks_it = k.2.1 in
            let events : List Event = pre ++ log_failed es ∷ [] in
            let leave : LeaveTables events = both_leave pre (log_failed es ∷ []) quiet.leave (one_leaves (log_failed es) refl (λ edit. refl) (λ label m e. absurd cc)) in
            let f = follows_on _ z old new _ k.2.2 events after_own (ap (λ (xs : List Event). xs ++ log_failed es ∷ []) after_past ∙ append_assoc old.knows.participant.past pre (log_failed es ∷ [])) in
            let seen = seen_still z first old new only store is stood events f in
            let a = asks false k.0 seen in
            let running = store_runs found new.knows.participant.seen pre found_past k.0 in
            let size : length new.knows.participant.seen ≡ length store.history = ap (λ (h : List Entry). length h) seen in
            let room : length store.history + needed ≤ store.limit = (let most = k.1 in let limit = limit_found found new.knows.participant.seen false pre found_past quiet.leave k.0 in omega (arith, most, size, limit)) in
            let still = past_still z first old new only store is stood [] events f leave in
            let once : one_if true ≡ log_faults new.knows.participant.past =
            (let now = log_now z first old new only store is stood [] events f in let both = total_both (λ (e : Event). one_if (closes_log e)) pre (log_failed es ∷ []) in let none = quiet.log in let not : one_if store.stopped ≡ 0 = ap one_if running in
            omega (arith, now, both, none, not)) in
            let failed = such_store z first old new only store is stood events f leave.edits true store.halted store.board once still.halted still.board in record {
              replied = inr (inl (refl, ap calls_log (a.due_is ∙ log_takes store needed r running room) ∙ ap (λ (b : Bool). b || is_renewed r) a.logged));
              place = 0;
              store_is = subst (λ (x : Store). IsStoreOf z first new.knows.participant x) (sym (store_failed store was c needed r entries a)) failed;
              locked = λ are. subst (AreLockedIn z new was.txn) (sym (store_failed store was c needed r entries a)) (locks_stay _ refl k.2.2 are);
              client = client;
              events = events;
              past = f.past;
              asked = λ others there. (
                refl,
                ⊎_elim
                    (λ (k : IsIn (log_failed others) pre). absurd (not_counted closes_log pre (log_failed others) quiet.log k refl))
                    (λ (k : IsIn (log_failed others) (log_failed es ∷ [])). of_last others es k ∙ (same es seen asks_it ∙ sym a.asked))
                    (in_both (log_failed others) pre (log_failed es ∷ []) there),
              );
              asked_none = λ there. ⊎_elim
                  (λ (k : IsIn log_stopped pre). absurd (not_counted closes_log pre log_stopped quiet.log k refl))
                  (λ (k : IsIn log_stopped (log_failed es ∷ [])). absurd (not_stopped es k))
                  (in_both log_stopped pre (log_failed es ∷ []) there);
              asked_edit = λ last edit there. absurd (not_counted is_tables_fault events (tables_failed last (Some edit)) leave.tables there refl);
            }
