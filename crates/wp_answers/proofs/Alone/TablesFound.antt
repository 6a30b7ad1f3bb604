-- What a client is answered that is alone and asks something of the tables: an edit is installed, or there is nothing to do, or the
-- devices fail, or have failed before.
use Rattle.std.proofs.Common.{◌≡◌, inl, inr, ℕ, ◌≤◌, Bool, true, false, List, [], ◌∷◌, ◌++◌, refl, sym, subst, ap, ◌∙◌, append-nil, Option, Some, arith}
use Rattle.std.specs.Prelude.{IfSome, if◌then◌else◌}
use Rattle.wp_model.specs.Flushed.{InstalledEdit}
use Rattle.wp_model.specs.LockState.{Labels}
use Rattle.wp_text.specs.declared.script.Command.{Command}
use Rattle.wp_text.specs.declared.reply.Reply.{Reply}
use Rattle.wp_text.specs.declared.reply.Reply.TheVariants as reply
use Rattle.wp_core.specs.Alone.{IsAlone}
use Rattle.wp_core.specs.Lists.{IsIn, one_if, total}
use Rattle.wp_core.specs.Sound.Pasts.{closes_log, is_tables_fault, last_after, last_installed}
use Rattle.wp_core.specs.States.{Installed, installed}
use Rattle.wp_core.specs.Views.{Event, log_failed, log_stopped, tables_failed, told}
use Rattle.wp_core.specs.Views as event
use Rattle.wp_core.specs.World.{World}
use Rattle.wp_rule.specs.Shows.{WasLast}
use Rattle.wp_rule.proofs.Knows.{held_is, one_was_first}
use Rattle.wp_parts.specs.Parts.{content}
use Rattle.wp_shared.specs.Calls.{Continues, with_events}
use Rattle.wp_shared.specs.Limits.{limit_at}
use Rattle.wp_shared.specs.Seats.{SharedState, SeatState, Stands, place_at}
use Rattle.wp_maint.specs.Calls.{Finds, found_by}
use Rattle.wp_replies.specs.Client.{Client}
use Rattle.wp_replies.specs.Due.{Store, plan_in, due, unless_halted, edit_of, board_after, store_after, client_after}
use Rattle.wp_replies.specs.Kind.{is_logged, is_fault, is_installed, is_renewed, is_renewal}
use Rattle.wp_replies.specs.Kind as kind
use Rattle.wp_replies.specs.Plan.{asked_of}
use Rattle.wp_client.specs.Alone.{log_faults, tables_faults, IsOnly, IsStoreOf, AreLockedIn, AnswersAlone}
use Rattle.wp_client.proofs.Alone.Kept.{goes_still}
use Rattle.wp_client.proofs.Alone.Published.{none_if, if_one, not_counted}
use Rattle.wp_client.proofs.Alone.Worlds.{only_of}
use Rattle.wp_client.proofs.Alone.Seated.{last_over, AreQuiet, one_quiet, Follows, follows_on, alone_at, begins_opened, few_now, log_still, tables_now, board_still, seen_still, such_store}
use Rattle.wp_client.proofs.Alone.Quiet.{never_stops, locked_same, quiet_answers}

-- where the tables are not halted, the command is answered so, and has the tables take this edit; a renewal puts the log's segment at
-- the place
pub record AsksTablesFor (store : Store) (was : Client) (c : Command) (ready : Reply) (next : InstalledEdit) : Type 0 where
  pub due_is : due store was c ≡ unless_halted store ready
  pub place : ℕ
  pub edit_is : edit_of place store was (plan_in store was c) ≡ next
  pub board : (b : Labels) (r : Reply) → board_after b c r ≡ b

-- the limit from a reply on
abbrev pub limit_after : Store → Reply → ℕ
limit_after store r = if is_renewed r then store.renewed_limit else store.limit

-- the event is of an edit that was installed
pub record Installs (made : Event) (edit : InstalledEdit) : Type 0 where
  pub last : (old : InstalledEdit) → last_after old made ≡ edit
  pub log : log_faults (made ∷ []) ≡ 0
  pub tables : tables_faults (made ∷ []) ≡ 0
  pub untold : (label : List ℕ) (n : ℕ) → made ≡ told label n → ⊥

pub makes_installed : (edit : InstalledEdit) (compacts : Bool) → Installs (event.installed edit compacts) edit
makes_installed edit compacts = record { last = λ old. refl; log = refl; tables = refl; untold = λ label n same. absurd cc }

pub makes_renewed : (edit : InstalledEdit) → Installs (event.renewed edit) edit
makes_renewed edit = record { last = λ old. refl; log = refl; tables = refl; untold = λ label n same. absurd cc }

-- an edit of the same segment has no lower base
pub same_base : (edit : InstalledEdit) → edit.segment.base ≤ edit.segment.base
same_base edit = omega arith

-- the store with the edit
store_with : (store : Store) (was : Client) (c : Command) (ready : Reply) (next : InstalledEdit) (r : Reply) → is_logged r ≡ false → is_fault r ≡ false → is_installed r ≡ true → kind.is_tables_fault r ≡ false
    → (a : AsksTablesFor store was c ready next) → store_after a.place store was c r ≡ record store { installed = next; limit = limit_after store r }
store_with store was c ready next r logged fault takes tables a = λ i. record {
  base = store.base;
  history = (ap (λ (b : Bool). store.history ++ (if b then asked_of (plan_in store was c) else [])) logged ∙ append-nil store.history) i;
  stopped = ap (λ (b : Bool). if b then true else store.stopped) (never_stops (is_renewal c) (kind.kind r) fault tables) i;
  limit = limit_after store r;
  renewed_limit = store.renewed_limit;
  cells = store.cells;
  installed = (ap (λ (b : Bool). if b then edit_of a.place store was (plan_in store was c) else store.installed) takes ∙ a.edit_is) i;
  halted = ap (λ (b : Bool). if b then true else store.halted) tables i;
  board = a.board store.board r i;
  locked = locked_same store.locked was.txn r logged i;
}

-- the store with its tables halted, and its log stopped where the command is a renewal
pub store_halted : (store : Store) (was : Client) (c : Command) (ready : Reply) (next : InstalledEdit) (a : AsksTablesFor store was c ready next) → store_after a.place store was c reply.FaultTables ≡ record store { halted = true; stopped = if is_renewal c then true else store.stopped }
store_halted store was c ready next a =
    λ i. record { base = store.base; history = append-nil store.history i; stopped = if is_renewal c then true else store.stopped; limit = store.limit; renewed_limit = store.renewed_limit; cells = store.cells; installed = store.installed; halted = true; board = a.board store.board reply.FaultTables i; locked = locked_same store.locked was.txn reply.FaultTables refl i }

module _ {D : Type 0} (z : SharedState D) (first : InstalledEdit) (old new : SeatState) (only : IsOnly old) (store : Store) (is : IsStoreOf z first old.knows.participant store) (stood : (w : World) × Stands z new w) (was_last : WasLast content z.first first) where
  module _ (e : Installed) (f : Finds z old new e) where
    alone_found : IsAlone f.world f.actor
    alone_found = alone_at z old.by f.actor f.world f.there only.by (f.made ∙ only.made) (f.joined ∙ only.joined)

    table_is : f.world.installed ≡ e
    table_is = let same : installed f.world.installed ≡ installed e = (held_is (place_at z old.by) f.actor f.world (installed e) f.there f.held).1 in cc

    -- the last edit is the store's
    pub last_is : e.last ≡ store.installed
    last_is =
        let k = only_of f.world f.there.reached f.actor alone_found in
        let began : f.world.first_edit ≡ first = one_was_first content z.first f.world.first_edit first f.there.first_edit was_last in
        ap (λ (t : Installed). t.last) (sym table_is) ∙ (k.edit ∙ (ap (λ (edit : InstalledEdit). last_installed edit f.actor.participant.past) began ∙ (ap (last_installed first) f.past_is ∙ sym is.installed)))

    -- and the tables are halted where the store's are
    halted_is : one_if e.halted ≡ one_if store.halted
    halted_is =
        let k = only_of f.world f.there.reached f.actor alone_found in
        ap (λ (t : Installed). one_if t.halted) (sym table_is) ∙ (sym k.halted ∙ (ap (λ (past : List Event). total (λ (x : Event). one_if (is_tables_fault x)) past) f.past_is ∙ sym is.halted))

    pub runs : e.halted ≡ false → store.halted ≡ false
    runs running = none_if store.halted (sym halted_is ∙ ap one_if running)

    pub stopped : e.halted ≡ true → store.halted ≡ true
    stopped halted = if_one store.halted (sym halted_is ∙ ap one_if halted)

    abbrev found_event : Event
    found_event = found_by z old new e f

    -- ---- what is answered

    module _ (was : Client) (c : Command) (ready : Reply) (next : InstalledEdit) (asks : new.knows.participant.seen ≡ store.history → AsksTablesFor store was c ready next) where
      found_quiet : AreQuiet (found_event ∷ [])
      found_quiet = one_quiet found_event refl refl (λ edit. refl) (λ label n same. absurd cc)

      found_follows : Continues z old new (with_events (found_event ∷ []) old.knows.participant) → Follows old new [] (found_event ∷ [])
      found_follows goes = follows_on _ z old new _ goes (found_event ∷ []) refl refl

      -- a device had failed
      pub halted_answers : (flushed : ℕ) → flushed ≡ e.last.flushed → e.halted ≡ true → Continues z old new (with_events (found_event ∷ []) old.knows.participant) → AnswersAlone z first old new was was c (reply.Halted flushed) store
      halted_answers flushed flushed_is halted goes =
          let f = found_follows goes in
          let a = asks (seen_still z first old new only store is stood (found_event ∷ []) f) in
          let number : flushed ≡ store.installed.flushed = flushed_is ∙ ap (λ (x : InstalledEdit). x.flushed) last_is in
          quiet_answers z first old new only store is stood (found_event ∷ []) f found_quiet was was c (reply.Halted flushed)
          (record { logged = refl; fault = refl; installed = refl; tables = refl; board = λ b. a.board b (reply.Halted flushed) })
          (inl (ap reply.Halted number ∙ sym (a.due_is ∙ ap (λ (b : Bool). if b then reply.Halted store.installed.flushed else ready) (stopped halted)))) refl (goes_still z old new _ goes refl was.txn store)

      -- there was nothing to do
      pub nothing_answers : ready ≡ reply.Nothing → e.halted ≡ false → Continues z old new (with_events (found_event ∷ []) old.knows.participant) → AnswersAlone z first old new was was c reply.Nothing store
      nothing_answers none running goes =
          let f = found_follows goes in
          let a = asks (seen_still z first old new only store is stood (found_event ∷ []) f) in
          quiet_answers z first old new only store is stood (found_event ∷ []) f found_quiet was was c reply.Nothing
          (record { logged = refl; fault = refl; installed = refl; tables = refl; board = λ b. a.board b reply.Nothing })
          (inl (sym (a.due_is ∙ (ap (λ (b : Bool). if b then reply.Halted store.installed.flushed else ready) (runs running) ∙ none)))) refl (goes_still z old new _ goes refl was.txn store)

      -- the edit is installed
      pub installs_answers : (r : Reply) → ready ≡ r → is_logged r ≡ false → is_fault r ≡ false → is_installed r ≡ true → kind.is_tables_fault r ≡ false → was ≡ client_after store.history was c r → e.halted ≡ false
          → store.installed.segment.base ≤ next.segment.base → limit_after store r ≡ limit_at z next.segment.base → (edit : InstalledEdit) (made : Event) → Installs made edit → edit ≡ next → Continues z old new (with_events (found_event ∷ made ∷ []) old.knows.participant) → AnswersAlone z first old new was was c r store
      installs_answers r ready_is logged fault takes tables client running higher limit_is edit made makes edit_is goes =
          let events : List Event = found_event ∷ made ∷ [] in
          let log : log_faults events ≡ 0 = (let m = makes.log in omega (arith, m)) in
          let none : tables_faults events ≡ 0 = (let m = makes.tables in omega (arith, m)) in
          let f = follows_on _ z old new _ goes events refl refl in
          let seen = seen_still z first old new only store is stood events f in
          let a = asks seen in
          let last : last_installed first new.knows.participant.past ≡ edit = ap (last_installed first) f.past ∙ (last_over first old.knows.participant.past events ∙ makes.last (last_installed first old.knows.participant.past)) in
          let has : IsStoreOf z first new.knows.participant (record store { installed = next; limit = limit_after store r }) = record {
            first_is = is.first_is;
            at = is.at;
            base = is.base;
            risen = (let low = is.risen in omega (arith, low, higher));
            history = sym seen;
            opened = begins_opened z first old new only store is stood [] events f;
            own = few_now z first old new only store is stood events f;
            stopped = log_still z first old new only store is stood [] events f log;
            limit = limit_is;
            renewed_limit = is.renewed_limit;
            cells = is.cells;
            installed = sym (last ∙ edit_is);
            halted = let now = tables_now z first old new only store is stood [] events f in omega (arith, now, none);
            board = board_still z first old new only store is stood [] events f (λ label n there. untold label n made makes there);
          } in record {
            replied = inl (sym (a.due_is ∙ (ap (λ (b : Bool). if b then reply.Halted store.installed.flushed else ready) (runs running) ∙ ready_is)));
            place = a.place;
            store_is = subst (λ (x : Store). IsStoreOf z first new.knows.participant x) (sym (store_with store was c ready next r logged fault takes tables a)) has;
            locked = λ are. subst (AreLockedIn z new was.txn) (sym (store_with store was c ready next r logged fault takes tables a)) (goes_still z old new _ goes refl was.txn store are);
            client = client;
            events = events;
            past = f.past;
            asked = λ entries there. absurd (not_counted closes_log events (log_failed entries) log there refl);
            asked_none = λ there. absurd (not_counted closes_log events log_stopped log there refl);
            asked_edit = λ last edit there. absurd (not_counted is_tables_fault events (tables_failed last (Some edit)) none there refl);
          }
        where
          untold : (label : List ℕ) (n : ℕ) (x : Event) → Installs x edit → IsIn (told label n) (found_event ∷ x ∷ []) → ⊥
          untold label n x m (inl same) = let k : found_event ≡ told label n = same in absurd cc
          untold label n x m (inr (inl same)) = m.untold label n same
          untold label n x m (inr (inr none)) = none

      -- a device failed, in no renewal
      pub failed_answers : is_renewal c ≡ false → is_installed ready ≡ true → e.halted ≡ false → (asked : Option InstalledEdit) → (new.knows.participant.seen ≡ store.history → IfSome asked (λ edit. edit ≡ next))
          → Continues z old new (with_events (found_event ∷ tables_failed e.last asked ∷ []) old.knows.participant) → AnswersAlone z first old new was was c reply.FaultTables store
      failed_answers plain installs running asked edit_is goes =
          let events : List Event = found_event ∷ tables_failed e.last asked ∷ [] in
          let f = follows_on _ z old new _ goes events refl refl in
          let seen = seen_still z first old new only store is stood events f in
          let a = asks seen in
          let not : one_if store.halted ≡ 0 = ap one_if (runs running) in
          let halts : one_if true ≡ tables_faults new.knows.participant.past = (let now = tables_now z first old new only store is stood [] events f in omega (arith, now, not)) in
          let has = such_store z first old new only store is stood events f (λ edit. refl) store.stopped true store.board (log_still z first old new only store is stood [] events f refl) halts
          (board_still z first old new only store is stood [] events f (λ label n there. untold label n there)) in record {
            replied = inr (inr (refl, ap is_installed (a.due_is ∙ ap (λ (b : Bool). if b then reply.Halted store.installed.flushed else ready) (runs running)) ∙ installs));
            place = a.place;
            store_is = subst (λ (x : Store). IsStoreOf z first new.knows.participant x) (sym (store_halted store was c ready next a ∙ ap (λ (b : Bool). record store { halted = true; stopped = if b then true else store.stopped }) plain)) has;
            locked = λ are. subst (AreLockedIn z new was.txn) (sym (store_halted store was c ready next a ∙ ap (λ (b : Bool). record store { halted = true; stopped = if b then true else store.stopped }) plain)) (goes_still z old new _ goes refl was.txn store are);
            client = refl;
            events = events;
            past = f.past;
            asked = λ entries there. absurd (not_counted closes_log events (log_failed entries) refl there refl);
            asked_none = λ there. absurd (not_counted closes_log events log_stopped refl there refl);
            asked_edit = λ last edit there. (refl, (a.place, of_asked last edit asked (edit_is seen) there ∙ sym a.edit_is));
          }
        where
          untold : (label : List ℕ) (n : ℕ) → IsIn (told label n) (found_event ∷ tables_failed e.last asked ∷ []) → ⊥
          untold label n (inl same) = let k : found_event ≡ told label n = same in absurd cc
          untold label n (inr (inl same)) = let k : tables_failed e.last asked ≡ told label n = same in absurd cc
          untold label n (inr (inr none)) = none

          is_edit : (o : Option InstalledEdit) (edit : InstalledEdit) → o ≡ Some edit → IfSome o (λ x. x ≡ next) → edit ≡ next
          is_edit o edit same k = subst (λ (x : Option InstalledEdit). IfSome x (λ y. y ≡ next)) same k

          of_asked : (last edit : InstalledEdit) (o : Option InstalledEdit) → IfSome o (λ x. x ≡ next) → IsIn (tables_failed last (Some edit)) (found_event ∷ tables_failed e.last o ∷ []) → edit ≡ next
          of_asked last edit o k (inl same) = let q : found_event ≡ tables_failed last (Some edit) = same in absurd cc
          of_asked last edit o k (inr (inl same)) = let q : tables_failed e.last o ≡ tables_failed last (Some edit) = same in let r : o ≡ Some edit = cc in is_edit o edit r k
          of_asked last edit o k (inr (inr none)) = absurd none
