-- What a client is answered that is alone and tells something on the board, or hears it.
use Rattle.std.proofs.Common.{◌≡◌, ⊎_elim, inl, inr, ℕ, true, List, [], ◌∷◌, ◌++◌, length, refl, sym, subst, ap, ◌∙◌, append-nil, Option, Some, None, is_some, arith}
use Rattle.std.specs.Prelude.{Ok, Err}
use Rattle.std.specs.FinMap as finite
use Rattle.wp_model.specs.declared.entry.Entry.{Entry}
use Rattle.wp_model.specs.Flushed.{InstalledEdit}
use Rattle.wp_text.specs.declared.script.Command.TheVariants as command
use Rattle.wp_text.specs.declared.reply.Reply.TheVariants as reply
use Rattle.wp_core.specs.Lists.{IsIn}
use Rattle.wp_core.specs.Sound.Pasts.{closes_log, is_tables_fault}
use Rattle.wp_core.specs.Views.{Event, told, heard, log_failed, log_stopped, tables_failed}
use Rattle.wp_core.specs.World.{Participant, World}
use Rattle.wp_model.proofs.Keyed.{is_word_same, at_inserted, else_inserted, some_inserted}
use Rattle.wp_core.proofs.PastsGrow.{in_front, in_last}
use Rattle.wp_model.proofs.Tests.{some_there}
use Rattle.wp_shared.specs.Seats.{SharedState, SeatState, Stands}
use Rattle.wp_open_txns.specs.declared.error.TxnError.TheVariants.{Silent}
use Rattle.wp_open_txns.specs.Calls.{Tells, Hears}
use Rattle.wp_replies.specs.Client.{Client}
use Rattle.wp_replies.specs.Due.{Store, store_after}
use Rattle.wp_replies.specs.Due as due
use Rattle.wp_client.specs.Alone.{IsOnly, IsStoreOf, AreLockedIn, AnswersAlone}
use Rattle.wp_client.proofs.Alone.Published.{in_both, not_counted}
use Rattle.wp_client.proofs.Alone.Worlds.{was_told}
use Rattle.wp_client.proofs.Alone.Kept.{goes_still}
use Rattle.wp_client.proofs.Alone.Seated.{none_quiet, one_quiet, follows_on, is_alone, log_still, tables_now, seen_still, such_store}
use Rattle.wp_client.proofs.Alone.Quiet.{locked_same, quiet_answers}

-- the store once something was told
store_told : (store : Store) (was : Client) (label : List ℕ) (n : ℕ) → store_after 0 store was (command.Tell label) (reply.Told n) ≡ record store { board = finite.insert store.board label n }
store_told store was label n = λ i. record { base = store.base; history = append-nil store.history i; stopped = store.stopped; limit = store.limit; renewed_limit = store.renewed_limit; cells = store.cells; installed = store.installed; halted = store.halted; board = finite.insert store.board label n; locked = locked_same store.locked was.txn (reply.Told n) refl i }

-- only the label was told
told_is : (label other : List ℕ) (n m : ℕ) → IsIn (told other m) (told label n ∷ []) → other ≡ label
told_is label other n m (inl same) = let e : told label n ≡ told other m = same in cc
told_is label other n m (inr none) = absurd none

none_told : (label other : List ℕ) (n m : ℕ) → IsIn (told other m) (heard label n ∷ []) → ⊥
none_told label other n m (inl same) = let e : heard label n ≡ told other m = same in absurd cc
none_told label other n m (inr none) = none

module _ {D : Type 0} (z : SharedState D) (first : InstalledEdit) (old new : SeatState) (only : IsOnly old) (store : Store) (is : IsStoreOf z first old.knows.participant store) (stood : (w : World) × Stands z new w) (client : Client) (label : List ℕ) where
  abbrev it : Participant
  it = old.knows.participant

  pub told_alone : (n : ℕ) → Tells z old label (Ok n) new → AnswersAlone z first old new client client (command.Tell label) (reply.Told n) store
  told_alone n k =
      let events : List Event = told label n ∷ [] in
      let f = follows_on _ z old new _ k.1 events refl refl in
      let seen = seen_still z first old new only store is stood events f in
      let n_is : n ≡ length store.history = k.0 ∙ ap (λ (h : List Entry). length h) seen in
      let grown = such_store z first old new only store is stood events f (λ edit. refl) store.stopped store.halted (finite.insert store.board label n) (log_still z first old new only store is stood [] events f refl)
      (let now = tables_now z first old new only store is stood [] events f in omega (arith, now)) (λ other. (known f.past other, back f.past other)) in record {
        replied = inl (ap reply.Told n_is);
        place = 0;
        store_is = subst (λ (x : Store). IsStoreOf z first new.knows.participant x) (sym (store_told store client label n)) grown;
        locked = λ are. subst (AreLockedIn z new client.txn) (sym (store_told store client label n)) (goes_still z old new _ k.1 refl client.txn store are);
        client = refl;
        events = events;
        past = f.past;
        asked = λ entries there. absurd (not_counted closes_log events (log_failed entries) refl there refl);
        asked_none = λ there. absurd (not_counted closes_log events log_stopped refl there refl);
        asked_edit = λ last edit there. absurd (not_counted is_tables_fault events (tables_failed last (Some edit)) refl there refl);
      }
    where
      known : new.knows.participant.past ≡ it.past ++ told label n ∷ [] → (other : List ℕ) → is_some (finite.get (finite.insert store.board label n) other) ≡ true → (m : ℕ) × IsIn (told other m) new.knows.participant.past
      known past other there = ⊎_elim
          (λ (same : other ≡ label). (n, subst (IsIn (told other n)) (sym past) (subst (λ (l : List ℕ). IsIn (told other n) (it.past ++ told l n ∷ [])) same (in_last (told other n) it.past))))
          (λ (apart : other ≡ label → ⊥).
          let k = (is.board other).0 (subst (λ (o : Option ℕ). is_some o ≡ true) (else_inserted store.board label n other apart) there) in
          (k.0, subst (IsIn (told other k.0)) (sym past) (in_front (told other k.0) it.past (told label n ∷ []) k.1)))
          (is_word_same other label)

      back : new.knows.participant.past ≡ it.past ++ told label n ∷ [] → (other : List ℕ) → (m : ℕ) × IsIn (told other m) new.knows.participant.past → is_some (finite.get (finite.insert store.board label n) other) ≡ true
      back past other there = ⊎_elim
          (λ (k : IsIn (told other there.0) it.past). some_inserted store.board label n other ((is.board other).1 (there.0, k)))
          (λ (k : IsIn (told other there.0) (told label n ∷ [])). ap (λ (o : Option ℕ). is_some o) (at_inserted store.board label n other (told_is label other n there.0 k)))
          (in_both (told other there.0) it.past (told label n ∷ []) (subst (IsIn (told other there.0)) past there.1))

  pub heard_alone : (n : ℕ) → Hears z old label (Ok n) new → AnswersAlone z first old new client client (command.Hear label) (reply.Heard n) store
  heard_alone n k =
      let m = k.1.0 in let events : List Event = heard label m ∷ [] in
      let f = follows_on _ z old new _ k.1.2 events refl refl in
      let seen = seen_still z first old new only store is stood events f in
      let n_is : n ≡ length store.history = k.0 ∙ ap (λ (h : List Entry). length h) seen in
      let there : IsIn (heard label m) new.knows.participant.past = subst (IsIn (heard label m)) (sym f.past) (in_last (heard label m) it.past) in
      let was = was_told stood.0 stood.1.reached new.knows (is_alone z first old new only store is stood [] events f) label m there in
      let told_then : IsIn (told label was.0) it.past = ⊎_elim (λ (t : IsIn (told label was.0) it.past). t) (λ (t : IsIn (told label was.0) events). absurd (none_told label label m was.0 t))
      (in_both (told label was.0) it.past events (subst (IsIn (told label was.0)) f.past was.1)) in
      quiet_answers z first old new only store is stood events f (one_quiet (heard label m) refl refl (λ edit. refl) (λ other q e. absurd cc)) client client (command.Hear label) (reply.Heard n)
      (record { logged = refl; fault = refl; installed = refl; tables = refl; board = λ b. refl })
      (inl (ap reply.Heard n_is ∙ sym (hears (was.0, told_then)))) refl (goes_still z old new _ k.1.2 refl client.txn store)
    where
      -- something is on the board
      hears : (m : ℕ) × IsIn (told label m) it.past → due.heard (length store.history) (finite.get store.board label) label ≡ reply.Heard (length store.history)
      hears there = let on_it = some_there (finite.get store.board label) ((is.board label).1 there) in ap (λ (o : Option ℕ). due.heard (length store.history) o label) on_it.1

  pub silent_alone : Hears z old label (Err Silent) new → AnswersAlone z first old new client client (command.Hear label) (reply.Silent label) store
  silent_alone k =
      quiet_answers z first old new only store is stood [] (follows_on _ z old new _ k.1 [] refl (sym (append-nil it.past))) none_quiet client client (command.Hear label) (reply.Silent label)
      (record { logged = refl; fault = refl; installed = refl; tables = refl; board = λ b. refl })
      (inl (sym (ap (λ (o : Option ℕ). due.heard (length store.history) o label) (none_there (finite.get store.board label) refl)))) refl (goes_still z old new _ k.1 refl client.txn store)
    where
      none_there : (o : Option ℕ) → finite.get store.board label ≡ o → finite.get store.board label ≡ None
      none_there None e = e
      none_there (Some n) e = let there = (is.board label).0 (ap (λ (o : Option ℕ). is_some o) e) in absurd (k.0.not_told there.0 there.1)
