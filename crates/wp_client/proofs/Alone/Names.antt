-- What a client is answered that is alone and begins a transaction, or takes one.
use Rattle.std.proofs.Common.{◌≡◌, ℕ, true, List, [], ◌∷◌, length, refl, sym, subst, ap, ◌∙◌, append-nil, inl, Option, Some, None, is_some}
use Rattle.std.specs.Prelude.{Ok, Err, unwrap_or}
use Rattle.std.specs.FinMap as finite
use Rattle.wp_model.specs.declared.entry.Entry.{Entry}
use Rattle.wp_model.specs.declared.holder.Holder.TheVariants.{Txn}
use Rattle.wp_model.specs.Flushed.{InstalledEdit}
use Rattle.wp_model.specs.History.{named}
use Rattle.wp_text.specs.declared.script.Command.TheVariants as command
use Rattle.wp_text.specs.declared.reply.Reply.TheVariants as reply
use Rattle.wp_core.specs.Views.{Event, claimed, took, found}
use Rattle.wp_core.specs.World.{Actor, Participant, World}
use Rattle.wp_model.proofs.Tests.{none_some}
use Rattle.wp_rule.specs.Accounts.{account_of}
use Rattle.wp_shared.specs.Seats.{SharedState, SeatState, Stands}
use Rattle.wp_open_txns.specs.declared.error.TxnError.TheVariants.{Taken, Unknown, InUse}
use Rattle.wp_open_txns.specs.Calls.{Begins, TakesPrepared}
use Rattle.wp_open_txns.specs.Txn.{OpenState, HasOpen, PreparedState}
use Rattle.wp_replies.specs.declared.client.LabelledSnapshot.{LabelledSnapshot}
use Rattle.wp_replies.specs.Txn.{Idle, Open, Prepared}
use Rattle.wp_replies.specs.Client.{Client}
use Rattle.wp_replies.specs.Due.{Store}
use Rattle.wp_replies.specs.Plan.{begin_reply, take_reply}
use Rattle.wp_client.specs.Alone.{IsOnly, IsStoreOf, AnswersAlone}
use Rattle.wp_client.specs.Holdings.{staged_of}
use Rattle.wp_client.proofs.Alone.Worlds.{only_of, left_name, open_is_free}
use Rattle.wp_client.proofs.Alone.Kept.{goes_still, goes_unprepared}
use Rattle.wp_client.proofs.Alone.Seated.{one_quiet, none_quiet, follows_on, alone_with_locks, history_with_locks, alone_at, is_alone, history_still, seen_still}
use Rattle.wp_client.proofs.Alone.Quiet.{quiet_answers}

module _ {D : Type 0} (z : SharedState D) (first : InstalledEdit) (old new : SeatState) (only : IsOnly old) (store : Store) (is : IsStoreOf z first old.knows.participant store) (stood : (w : World) × Stands z new w) (snapshots : List LabelledSnapshot) where
  abbrev idle : Client
  idle = record { txn = Idle; snapshots = snapshots }

  pub begun_alone : (name : List ℕ) (txn : OpenState) → Begins z old name (Ok txn) new → AnswersAlone z first old new idle (record { txn = Open (staged_of txn); snapshots = snapshots }) (command.Begin name) reply.Begun store
  begun_alone name txn k =
      let events : List Event = claimed name ∷ [] in
      let f = follows_on _ z old new _ k.2 events refl refl in
      let alone = is_alone z first old new only store is stood [] events f in
      let free : named store.history name ≡ None =
      ap (λ (h : List Entry). named h name) (sym (history_still z first old new only store is stood events f)) ∙ (open_is_free stood.0 stood.1.reached new.knows alone name (subst (HasOpen new) k.0 k.1).noted).0 in
      quiet_answers z first old new only store is stood events f (one_quiet (claimed name) refl refl (λ edit. refl) (λ label n e. absurd cc)) idle (record { txn = Open (staged_of txn); snapshots = snapshots }) (command.Begin name) reply.Begun
      (record { logged = refl; fault = refl; installed = refl; tables = refl; board = λ b. refl })
      (inl (sym (ap (λ (o : Option ℕ). begin_reply o name) free)))
      (ap (λ (x : OpenState). record { txn = Open (staged_of x); snapshots = snapshots }) k.0) (goes_unprepared z old new _ k.2 Idle (Open (staged_of txn)) store tt)

  -- ---- where it has no transaction

  module _ (none : (name : List ℕ) → finite.get old.knows.participant.transactions name ≡ None) where
    pub taken_alone : (name other : List ℕ) → Begins z old name (Err (Taken other)) new → AnswersAlone z first old new idle idle (command.Begin name) (reply.Taken other) store
    taken_alone name other k =
        let f = k.1 in
        let event : Event = found None (Txn name) (length old.knows.participant.seen) (account_of old.knows.participant f.world.locks f.published None (Txn name)) in
        let live : is_some (finite.get f.world.locks.names name) ≡ true = named_live name f.holds.0 f.holds.1 f.holds.2 in
        let left = left_name f.world f.stood.stood.there.reached f.stood.stood.actor (alone_with_locks z first old only store is f.world f.stood.stood) name live (ap (λ (p : Participant). finite.get p.transactions name) f.stood.stood.participant ∙ none name) in
        let there : named store.history name ≡ Some left.1.0 = ap (λ (h : List Entry). named h name) (sym (history_with_locks z first old only store is f.world f.stood.stood)) ∙ left.1.1 in
        quiet_answers z first old new only store is stood (event ∷ []) (follows_on _ z old new _ f.goes_on (event ∷ []) refl refl) (one_quiet event refl refl (λ edit. refl) (λ label n e. absurd cc)) idle idle (command.Begin name) (reply.Taken other)
        (record { logged = refl; fault = refl; installed = refl; tables = refl; board = λ b. refl })
        (inl (ap reply.Taken k.0 ∙ sym (ap (λ (o : Option ℕ). begin_reply o name) there))) refl (goes_still z old new _ f.goes_on refl Idle store)
      where
        named_live : (n m : List ℕ) → Txn n ≡ Txn m → is_some (finite.get k.1.world.locks.names m) ≡ true → is_some (finite.get k.1.world.locks.names n) ≡ true
        named_live n m same live = let e : n ≡ m = cc in subst (λ (x : List ℕ). is_some (finite.get k.1.world.locks.names x) ≡ true) (sym e) live

    pub unknown_alone : (name other : List ℕ) (at : ℕ) → TakesPrepared z old name (Err (Unknown other at)) new → AnswersAlone z first old new idle idle (command.Take name) (reply.Unknown other at) store
    unknown_alone name other at k =
        let f = follows_on _ z old new _ k.3 [] refl (sym (append-nil old.knows.participant.past)) in
        let seen = seen_still z first old new only store is stood [] f in
        let free : named store.history name ≡ None = ap (λ (h : List Entry). named h name) (sym seen) ∙ k.2 in
        let number : at ≡ length store.history = k.1 ∙ ap (λ (h : List Entry). length h) seen in
        quiet_answers z first old new only store is stood [] f none_quiet idle idle (command.Take name) (reply.Unknown other at)
        (record { logged = refl; fault = refl; installed = refl; tables = refl; board = λ b. refl })
        (inl (ap (λ (x : List ℕ × ℕ). reply.Unknown x.0 x.1) (λ i. (k.0 i, number i)) ∙ sym (ap (λ (o : Option ℕ). take_reply store.history o name) free))) refl (goes_still z old new _ k.3 refl Idle store)

  pub took_alone : (name : List ℕ) (txn : PreparedState) → TakesPrepared z old name (Ok txn) new → AnswersAlone z first old new idle (record { txn = Prepared txn.number; snapshots = snapshots }) (command.Take name) reply.Took store
  took_alone name txn k =
      let events : List Event = took name ∷ [] in
      let f = follows_on _ z old new _ k.goes_on events refl refl in
      let there : named store.history name ≡ Some txn.number = ap (λ (h : List Entry). named h name) (sym (seen_still z first old new only store is stood events f)) ∙ k.number_is in
      quiet_answers z first old new only store is stood events f (one_quiet (took name) refl refl (λ edit. refl) (λ label n e. absurd cc)) idle (record { txn = Prepared txn.number; snapshots = snapshots }) (command.Take name) reply.Took
      (record { logged = refl; fault = refl; installed = refl; tables = refl; board = λ b. refl })
      (inl (sym (ap (λ (o : Option ℕ). take_reply store.history o name) there)))
      (sym (ap (λ (o : Option ℕ). record { txn = Prepared (unwrap_or o 0); snapshots = snapshots }) there)) (goes_unprepared z old new _ k.goes_on Idle (Prepared txn.number) store tt)

-- nobody else has it
pub never_in_use : {D : Type 0} (z : SharedState D) (old new : SeatState) → IsOnly old → (name other : List ℕ) → finite.get old.knows.participant.transactions name ≡ None → TakesPrepared z old name (Err (InUse other)) new → ⊥
never_in_use z old new only name other none k =
    let f = k.1 in let s = f.stood in
    let made = ap (λ (a : Actor). a.made) s.same ∙ only.made in let joined = ap (λ (a : Actor). a.joined) s.same ∙ only.joined in
    let has = (only_of f.world s.there.reached s.actor (alone_at z old.by s.actor f.world s.there only.by made joined)).names name k.2.0 k.2.1 in
    none_some (finite.get s.actor.participant.transactions name) has.0 (ap (λ (a : Actor). finite.get a.participant.transactions name) s.same ∙ none) has.1
