-- What a client is answered that is alone and renews the log.
use Rattle.std.proofs.Common.{◌≡◌, ◌≢◌, inl, inr, ℕ, ◌<◌, Bool, true, false, ◌==◌, eq-eqb, ne_eqb, List, [], ◌∷◌, length, refl, sym, subst, ap, ◌∙◌, append-nil, Option, Some, arith}
use Rattle.std.specs.Prelude.{IfSome, Ok, Err, if◌then◌else◌}
use Rattle.wp_model.specs.declared.entry.Entry.{Entry}
use Rattle.wp_model.specs.Flushed.{InstalledEdit}
use Rattle.wp_model.specs.History.{undecided}
use Rattle.wp_text.specs.declared.script.Command.TheVariants as command
use Rattle.wp_text.specs.declared.reply.Reply.{Reply}
use Rattle.wp_text.specs.declared.reply.Reply.TheVariants as reply
use Rattle.wp_core.specs.Lists.{IsIn, one_if}
use Rattle.wp_core.specs.Sound.Pasts.{is_tables_fault}
use Rattle.wp_core.specs.Views.{Event, log_failed, log_stopped, tables_failed, stopped, told}
use Rattle.wp_core.specs.Views as event
use Rattle.wp_core.specs.States.{WriteState, Installed, writes}
use Rattle.wp_core.specs.World.{World}
use Rattle.wp_rule.specs.Shows.{WasLast}
use Rattle.wp_parts.specs.Parts.{content}
use Rattle.wp_rule.proofs.Knows.{held_is}
use Rattle.wp_shared.proofs.Limits.{limit_renewed}
use Rattle.wp_shared.specs.Seats.{SharedState, SeatState, Stands, place_at}
use Rattle.wp_maint.specs.Calls.{HeldContent, Finds, found_by}
use Rattle.wp_maint.specs.declared.renewed.Renewed.{Renewed}
use Rattle.wp_maint.specs.declared.renewed.RenewError.TheVariants.{Nothing, TableFault, LogFault, Stopped, TablesStopped}
use Rattle.wp_maint.specs.Renewal.{Renews}
use Rattle.wp_replies.specs.Client.{Client}
use Rattle.wp_replies.specs.Due.{Store, due, renewed, store_after}
use Rattle.wp_replies.specs.Kind.{is_installed, calls_log}
use Rattle.wp_replies.specs.Tables.{after_renewal}
use Rattle.wp_client.specs.Alone.{log_faults, tables_faults, IsOnly, IsStoreOf, AreLockedIn, AnswersAlone}
use Rattle.wp_client.proofs.Alone.Kept.{goes_still}
use Rattle.wp_client.proofs.Alone.Published.{none_if, if_one, not_counted}
use Rattle.wp_client.proofs.Growing.{in_back}
use Rattle.wp_client.proofs.Alone.Worlds.{no_log_fault, only_of, was_stopped}
use Rattle.wp_client.proofs.Alone.Seated.{AreQuiet, one_quiet, both_quiet, follows_on, log_now, log_still, tables_now, board_still, seen_still, is_alone, such_store}
use Rattle.wp_client.proofs.Alone.Quiet.{locked_same, quiet_answers}
use Rattle.wp_answers.proofs.Alone.TablesFound.{AsksTablesFor, makes_renewed, last_is, halted_answers, nothing_answers, installs_answers, store_halted, runs}

module _ {D : Type 0} (z : SharedState D) (first : InstalledEdit) (old new : SeatState) (only : IsOnly old) (store : Store) (is : IsStoreOf z first old.knows.participant store) (stood : (w : World) × Stands z new w) (was_last : WasLast content z.first first) (client : Client) where
  abbrev ready : Reply
  ready = renewed store

  abbrev base : ℕ
  base = store.installed.segment.base

  asks : (place : ℕ) → new.knows.participant.seen ≡ store.history → AsksTablesFor store client command.Renew ready (after_renewal store.history place store.installed)
  asks place seen = record { due_is = refl; place = place; edit_is = refl; board = λ b r. refl }

  -- ---- what is ready

  renews : store.stopped ≡ false → base ≢ length store.history → ready ≡ reply.Renewed (length store.history) (length (undecided store.history))
  renews open_ behind =
      ap (λ (b : Bool). if b then reply.Stopped (length store.history) else (if base == length store.history then reply.Nothing else reply.Renewed (length store.history) (length (undecided store.history)))) open_
      ∙ ap (λ (b : Bool). if b then reply.Nothing else reply.Renewed (length store.history) (length (undecided store.history))) (ne_eqb base (length store.history) behind)

  renews_none : store.stopped ≡ false → base ≡ length store.history → ready ≡ reply.Nothing
  renews_none open_ same =
      ap (λ (b : Bool). if b then reply.Stopped (length store.history) else (if base == length store.history then reply.Nothing else reply.Renewed (length store.history) (length (undecided store.history)))) open_
      ∙ ap (λ (b : Bool). if b then reply.Nothing else reply.Renewed (length store.history) (length (undecided store.history))) (eq-eqb base (length store.history) same)

  renews_stopped : store.stopped ≡ true → ready ≡ reply.Stopped (length store.history)
  renews_stopped closed = ap (λ (b : Bool). if b then reply.Stopped (length store.history) else (if base == length store.history then reply.Nothing else reply.Renewed (length store.history) (length (undecided store.history)))) closed

  -- ---- what was found

  module _ (e : Installed) (f : Finds z old new e) where
    abbrev found_first : Event
    found_first = found_by z old new e f

    first_quiet : AreQuiet (found_first ∷ [])
    first_quiet = one_quiet found_first refl refl (λ edit. refl) (λ label n same. absurd cc)

    -- the log was found running
    abbrev FoundOpen : Type 0
    FoundOpen = (t : WriteState) × HeldContent z old new old.knows.participant.past (writes t) × (t.closed ≡ false)

    log_runs : FoundOpen → store.stopped ≡ false
    log_runs (t, k, open_) =
        let held : writes k.world.writes ≡ writes t = (held_is (place_at z old.by) k.actor k.world (writes t) k.there k.held).1 in
        let same : k.world.writes ≡ t = cc in
        let none = no_log_fault k.world k.there.reached old.by k.actor k.there.there (ap (λ (x : WriteState). x.closed) same ∙ open_) in
        none_if store.stopped (is.stopped ∙ (ap log_faults (sym k.past_is) ∙ none))

    -- so a renewal is due, where the last edit has another base
    renewal_due : e.halted ≡ false → FoundOpen → base ≢ length store.history → due store client command.Renew ≡ reply.Renewed (length store.history) (length (undecided store.history))
    renewal_due running open_ behind = ap (λ (b : Bool). if b then reply.Halted store.installed.flushed else ready) (runs z first old new only store is stood was_last e f running) ∙ renews (log_runs open_) behind

    other_base : new.knows.participant.seen ≡ store.history → e.last.segment.base < length new.knows.participant.seen → base ≢ length store.history
    other_base seen below = λ same.
        let last = ap (λ (x : InstalledEdit). x.segment.base) (last_is z first old new only store is stood was_last e f) in
        let size = ap (λ (h : List Entry). length h) seen in omega (arith, below, same, last, size)

  -- ---- what is answered

  pub renewed_alone : (done : Renewed) → Renews z old (Ok done) new → AnswersAlone z first old new client client command.Renew (reply.Renewed done.at done.carried) store
  renewed_alone done (e, k) =
      let edit_is = last_is z first old new only store is stood was_last e k.found in
      let seen = seen_still z first old new only store is stood _ (follows_on _ z old new _ k.goes_on _ refl refl) in
      let at : done.at ≡ length store.history = k.at ∙ ap (λ (h : List Entry). length h) seen in
      let carried : done.carried ≡ length (undecided store.history) = k.carried ∙ ap (λ (h : List Entry). length (undecided h)) seen in
      let behind = other_base e k.found seen k.busy.below in
      let edit : InstalledEdit = after_renewal new.knows.participant.seen k.place e.last in
      let low = is.risen in
      let higher : store.installed.segment.base < length store.history =
      (let last = ap (λ (x : InstalledEdit). x.segment.base) edit_is in let size = ap (λ (h : List Entry). length h) seen in let below = k.busy.below in omega (arith, below, last, size)) in
      installs_answers z first old new only store is stood was_last e k.found client command.Renew ready (after_renewal store.history k.place store.installed) (asks k.place) (reply.Renewed done.at done.carried)
      (renews (log_runs e k.found k.busy.unclosed) behind ∙ ap (λ (x : ℕ × ℕ). reply.Renewed x.0 x.1) (λ i. (sym at i, sym carried i)))
      refl refl refl refl refl k.busy.running (omega (arith, higher)) (is.renewed_limit ∙ sym (limit_renewed z first.segment.base is.at (length store.history) (omega (arith, low, higher)))) edit (event.renewed edit) (makes_renewed edit) (ap (λ (x : List Entry × InstalledEdit). after_renewal x.0 k.place x.1) (λ i. (seen i, edit_is i))) k.goes_on

  pub nothing_renewed_alone : Renews z old (Err Nothing) new → AnswersAlone z first old new client client command.Renew reply.Nothing store
  nothing_renewed_alone (e, k) =
      let edit_is = last_is z first old new only store is stood was_last e k.found in
      let seen = seen_still z first old new only store is stood _ (follows_on _ z old new _ k.goes_on _ refl refl) in
      let same : base ≡ length store.history = ap (λ (x : InstalledEdit). x.segment.base) (sym edit_is) ∙ (k.based ∙ ap (λ (h : List Entry). length h) seen) in
      nothing_answers z first old new only store is stood was_last e k.found client command.Renew ready (after_renewal store.history 0 store.installed) (asks 0) (renews_none (log_runs e k.found k.unclosed) same) k.running k.goes_on

  pub renew_halted_alone : (number : ℕ) → Renews z old (Err (TablesStopped number)) new → AnswersAlone z first old new client client command.Renew (reply.Halted number) store
  renew_halted_alone number (e, k) = halted_answers z first old new only store is stood was_last e k.found client command.Renew ready (after_renewal store.history 0 store.installed) (asks 0) number k.flushed_is k.halted k.goes_on

  -- the log takes no more since before
  pub renew_stopped_alone : (n : ℕ) → Renews z old (Err (Stopped n)) new → AnswersAlone z first old new client client command.Renew (reply.Stopped n) store
  renew_stopped_alone n (e, k) =
      let events : List Event = found_first e k.found ∷ stopped n ∷ [] in
      let quiet : AreQuiet events = both_quiet (found_first e k.found ∷ []) (stopped n ∷ []) (first_quiet e k.found) (one_quiet (stopped n) refl refl (λ edit. refl) (λ label m same. absurd cc)) in
      let f = follows_on _ z old new _ k.goes_on events refl refl in
      let seen = seen_still z first old new only store is stood events f in
      let alone = is_alone z first old new only store is stood [] events f in
      let there : IsIn (stopped n) new.knows.participant.past = subst (IsIn (stopped n)) (sym f.past) (in_back (stopped n) old.knows.participant.past events (inr (inl refl))) in
      let closed = (was_stopped stood.0 stood.1.reached new.knows alone n there).0 in
      let failed : store.stopped ≡ true = if_one store.stopped (log_still z first old new only store is stood [] events f quiet.log ∙ ((only_of stood.0 stood.1.reached new.knows alone).closed ∙ ap one_if closed)) in
      let n_is : n ≡ length store.history = k.number ∙ ap (λ (h : List Entry). length h) seen in
      quiet_answers z first old new only store is stood events f quiet client client command.Renew (reply.Stopped n)
      (record { logged = refl; fault = refl; installed = refl; tables = refl; board = λ b. refl })
      (inl (sym (ap (λ (b : Bool). if b then reply.Halted store.installed.flushed else ready) (runs z first old new only store is stood was_last e k.found k.running) ∙ (renews_stopped failed ∙ ap reply.Stopped (sym n_is))))) refl (goes_still z old new _ k.goes_on refl client.txn store)

  -- the log's device failed as the segment was written
  pub renew_log_failed_alone : Renews z old (Err LogFault) new → AnswersAlone z first old new client client command.Renew reply.FaultLog store
  renew_log_failed_alone (e, k) =
      let events : List Event = found_first e k.found ∷ log_failed [] ∷ [] in
      let f = follows_on _ z old new _ k.goes_on events refl refl in
      let seen = seen_still z first old new only store is stood events f in
      let open_ : one_if store.stopped ≡ 0 = ap one_if (log_runs e k.found k.busy.unclosed) in
      let closes : one_if true ≡ log_faults new.knows.participant.past = (let now = log_now z first old new only store is stood [] events f in omega (arith, now, open_)) in
      let halts : one_if store.halted ≡ tables_faults new.knows.participant.past = (let now = tables_now z first old new only store is stood [] events f in omega (arith, now)) in
      let has = such_store z first old new only store is stood events f (λ edit. refl) true store.halted store.board closes halts (board_still z first old new only store is stood [] events f (untold e k.found)) in record {
        replied = inr (inl (refl, ap calls_log (renewal_due e k.found k.busy.running k.busy.unclosed (other_base e k.found seen k.busy.below))));
        place = 0;
        store_is = subst (λ (x : Store). IsStoreOf z first new.knows.participant x) (sym log_stops) has;
        locked = λ are. subst (AreLockedIn z new client.txn) (sym log_stops) (goes_still z old new _ k.goes_on refl client.txn store are);
        client = refl;
        events = events;
        past = f.past;
        asked = λ entries there. (refl, none_asked e k.found entries there);
        asked_none = λ there. absurd (never_behind e k.found there);
        asked_edit = λ last edit there. absurd (not_counted is_tables_fault events (tables_failed last (Some edit)) refl there refl);
      }
    where
      log_stops : store_after 0 store client command.Renew reply.FaultLog ≡ record store { stopped = true }
      log_stops = λ i. record store { history = append-nil store.history i; stopped = true; locked = locked_same store.locked client.txn reply.FaultLog refl i }

      untold : (e : Installed) (g : Finds z old new e) (label : List ℕ) (n : ℕ) → IsIn (told label n) (found_first e g ∷ log_failed [] ∷ []) → ⊥
      untold e g label n (inl same) = let k : found_first e g ≡ told label n = same in absurd cc
      untold e g label n (inr (inl same)) = let k : log_failed [] ≡ told label n = same in absurd cc
      untold e g label n (inr (inr none)) = none

      none_asked : (e : Installed) (g : Finds z old new e) (entries : List Entry) → IsIn (log_failed entries) (found_first e g ∷ log_failed [] ∷ []) → entries ≡ []
      none_asked e g entries (inl same) = let k : found_first e g ≡ log_failed entries = same in absurd cc
      none_asked e g entries (inr (inl same)) = let k : log_failed [] ≡ log_failed entries = same in cc
      none_asked e g entries (inr (inr none)) = absurd none

      never_behind : (e : Installed) (g : Finds z old new e) → IsIn log_stopped (found_first e g ∷ log_failed [] ∷ []) → ⊥
      never_behind e g (inl same) = let k : found_first e g ≡ log_stopped = same in absurd cc
      never_behind e g (inr (inl same)) = let k : log_failed [] ≡ log_stopped = same in absurd cc
      never_behind e g (inr (inr none)) = none

  -- a device of the tables failed, and the log is stopped behind it
  pub renew_failed_alone : Renews z old (Err TableFault) new → AnswersAlone z first old new client client command.Renew reply.FaultTables store
  renew_failed_alone (e, k) =
      let events : List Event = found_first e k.found ∷ tables_failed e.last k.asked ∷ log_stopped ∷ [] in
      let f = follows_on _ z old new _ k.goes_on events refl refl in
      let edit_is = last_is z first old new only store is stood was_last e k.found in
      let seen = seen_still z first old new only store is stood events f in
      let open_ : one_if store.stopped ≡ 0 = ap one_if (log_runs e k.found k.busy.unclosed) in
      let not : one_if store.halted ≡ 0 = ap one_if (runs z first old new only store is stood was_last e k.found k.busy.running) in
      let closes : one_if true ≡ log_faults new.knows.participant.past = (let now = log_now z first old new only store is stood [] events f in omega (arith, now, open_)) in
      let halts : one_if true ≡ tables_faults new.knows.participant.past = (let now = tables_now z first old new only store is stood [] events f in omega (arith, now, not)) in
      let has = such_store z first old new only store is stood events f (λ edit. refl) true true store.board closes halts (board_still z first old new only store is stood [] events f (untold e k.found k.asked)) in record {
        replied = inr (inr (refl, ap is_installed (renewal_due e k.found k.busy.running k.busy.unclosed (other_base e k.found seen k.busy.below))));
        place = 0;
        store_is = subst (λ (x : Store). IsStoreOf z first new.knows.participant x) (sym (store_halted store client command.Renew ready (after_renewal store.history 0 store.installed) (asks 0 seen))) has;
        locked = λ are. subst (AreLockedIn z new client.txn) (sym (store_halted store client command.Renew ready (after_renewal store.history 0 store.installed) (asks 0 seen))) (goes_still z old new _ k.goes_on refl client.txn store are);
        client = refl;
        events = events;
        past = f.past;
        asked = λ entries there. absurd (none_failed e k.found k.asked entries there);
        asked_none = λ there. (refl, refl);
        asked_edit = λ last edit there. (refl, of_asked e k.found last edit k.asked seen edit_is k.next there);
      }
    where
      untold : (e : Installed) (g : Finds z old new e) (asked : Option InstalledEdit) (label : List ℕ) (n : ℕ) → IsIn (told label n) (found_first e g ∷ tables_failed e.last asked ∷ log_stopped ∷ []) → ⊥
      untold e g asked label n (inl same) = let k : found_first e g ≡ told label n = same in absurd cc
      untold e g asked label n (inr (inl same)) = let k : tables_failed e.last asked ≡ told label n = same in absurd cc
      untold e g asked label n (inr (inr (inl same))) = let k : log_stopped ≡ told label n = same in absurd cc
      untold e g asked label n (inr (inr (inr none))) = none

      none_failed : (e : Installed) (g : Finds z old new e) (asked : Option InstalledEdit) (entries : List Entry) → IsIn (log_failed entries) (found_first e g ∷ tables_failed e.last asked ∷ log_stopped ∷ []) → ⊥
      none_failed e g asked entries (inl same) = let k : found_first e g ≡ log_failed entries = same in absurd cc
      none_failed e g asked entries (inr (inl same)) = let k : tables_failed e.last asked ≡ log_failed entries = same in absurd cc
      none_failed e g asked entries (inr (inr (inl same))) = let k : log_stopped ≡ log_failed entries = same in absurd cc
      none_failed e g asked entries (inr (inr (inr none))) = none

      is_next : (e : Installed) (o : Option InstalledEdit) (edit : InstalledEdit) → o ≡ Some edit → new.knows.participant.seen ≡ store.history → e.last ≡ store.installed
          → IfSome o (λ x. (place : ℕ) × (x ≡ after_renewal new.knows.participant.seen place e.last)) → (place : ℕ) × (edit ≡ after_renewal store.history place store.installed)
      is_next e o edit same seen edit_is k =
          let n = subst (λ (x : Option InstalledEdit). IfSome x (λ y. (place : ℕ) × (y ≡ after_renewal new.knows.participant.seen place e.last))) same k in
          (n.0, n.1 ∙ ap (λ (x : List Entry × InstalledEdit). after_renewal x.0 n.0 x.1) (λ i. (seen i, edit_is i)))

      of_asked : (e : Installed) (g : Finds z old new e) (last edit : InstalledEdit) (o : Option InstalledEdit) → new.knows.participant.seen ≡ store.history → e.last ≡ store.installed
          → IfSome o (λ x. (place : ℕ) × (x ≡ after_renewal new.knows.participant.seen place e.last)) → IsIn (tables_failed last (Some edit)) (found_first e g ∷ tables_failed e.last o ∷ log_stopped ∷ []) → (place : ℕ) × (edit ≡ after_renewal store.history place store.installed)
      of_asked e g last edit o seen edit_is k (inl same) = let q : found_first e g ≡ tables_failed last (Some edit) = same in absurd cc
      of_asked e g last edit o seen edit_is k (inr (inl same)) = let q : tables_failed e.last o ≡ tables_failed last (Some edit) = same in let r : o ≡ Some edit = cc in is_next e o edit r seen edit_is k
      of_asked e g last edit o seen edit_is k (inr (inr (inl same))) = let q : log_stopped ≡ tables_failed last (Some edit) = same in absurd cc
      of_asked e g last edit o seen edit_is k (inr (inr (inr none))) = absurd none
