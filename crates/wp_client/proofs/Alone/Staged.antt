-- What a client is answered that is alone and asks for a key in its open transaction.
use Rattle.std.proofs.Common.{◌≡◌, inl, inr, ℕ, Bool, true, false, List, [], ◌∷◌, length, Option, refl, sym, ap, ◌∙◌, subst, append-nil, Some, None}
use Rattle.std.specs.Prelude.{Ok, IfSome}
use Rattle.std.specs.Option.{option_map}
use Rattle.std.proofs.lemmas.Bool.{cases_Bool}
use Rattle.wp_model.specs.declared.change.Change.{Change}
use Rattle.wp_model.specs.declared.change.Change.TheVariants as change
use Rattle.wp_model.specs.declared.entry.Entry.{Entry}
use Rattle.wp_model.specs.declared.holder.Holder.{Holder}
use Rattle.wp_model.specs.declared.holder.Holder.TheVariants.{Txn}
use Rattle.wp_model.specs.Batch.{key_of, with_change}
use Rattle.wp_model.specs.Changed.{conflict}
use Rattle.wp_model.specs.Flushed.{InstalledEdit}
use Rattle.wp_model.proofs.Tests.{same_some}
use Rattle.wp_text.specs.declared.script.Command.{Command}
use Rattle.wp_text.specs.declared.reply.Reply.{Reply}
use Rattle.wp_text.specs.declared.reply.Reply.TheVariants as reply
use Rattle.wp_core.specs.Reading.{Registration}
use Rattle.wp_core.specs.Views.{Event, locked, found}
use Rattle.wp_core.specs.World.{Participant, World}
use Rattle.wp_rule.specs.Accounts.{account_of}
use Rattle.wp_shared.specs.Calls.{Continues}
use Rattle.wp_shared.specs.Seats.{SharedState, SeatState, Stands}
use Rattle.wp_open_txns.specs.declared.error.TxnError.{TxnError}
use Rattle.wp_open_txns.specs.declared.error.TxnError.TheVariants.{Memory, Busy, TooMany, Conflict}
use Rattle.wp_open_txns.specs.Actors.{transaction_in}
use Rattle.wp_open_txns.specs.Calls.{with_transaction, locking, changing, with_changed, RefusesKey, Changes}
use Rattle.wp_open_txns.specs.Txn.{OpenState, has_key}
use Rattle.wp_replies.specs.declared.client.LabelledSnapshot.{LabelledSnapshot}
use Rattle.wp_replies.specs.Txn.{Open}
use Rattle.wp_replies.specs.Client as session
use Rattle.wp_replies.specs.declared.plan.Plan.TheVariants.{Say}
use Rattle.wp_replies.specs.Due.{Store, reply_to, client_after}
use Rattle.wp_replies.specs.Plan.{plan, holder_then}
use Rattle.wp_client.specs.declared.holdings.HeldTxn.TheVariants as held
use Rattle.wp_client.specs.Alone.{IsOnly, IsStoreOf, AreLockedIn, AnswersAlone}
use Rattle.wp_client.specs.Holdings.{staged_of, HoldsTxn}
use Rattle.wp_client.specs.Replies.{asking, refusal}
use Rattle.wp_client.proofs.Asking.{Asks, not_own}
use Rattle.wp_client.proofs.Alone.Keys.{key_is_free, key_is_held}
use Rattle.wp_client.proofs.Alone.Kept.{goes_still, goes_unprepared}
use Rattle.wp_client.proofs.Alone.Seated.{AreQuiet, none_quiet, one_quiet, Follows, follows_on, seen_still}
use Rattle.wp_client.proofs.Alone.Quiet.{quiet_answers}
use Rattle.wp_client.proofs.Alone.Changing.{Comes, change_comes, says_too_many, says_its, says_busy, says_conflict, says_free, board_same, full_has_none, not_full_has_room}

-- what is remembered of a key that comes, by whether the transaction has it already
unfoldable pub locked_of : Bool → List ℕ → List ℕ → List Event
locked_of true name key = []
locked_of false name key = locked key (Txn name) ∷ []

-- the participant once the transaction has the change too
unfoldable pub changing_by : Bool → List ℕ → List Change → Change → Participant → Participant
changing_by b name batch c p = let q = locking b name (key_of c) p in with_transaction name (record (transaction_in q name) { batch = with_change batch c }) q

pub came_quiet : (b : Bool) (name key : List ℕ) → AreQuiet (locked_of b name key)
unfolding locked_of
came_quiet true name key = none_quiet
came_quiet false name key = one_quiet (locked key (Txn name)) refl refl (λ edit. refl) (λ label n e. absurd cc)

module _ {D : Type 0} (z : SharedState D) (first : InstalledEdit) (old new : SeatState) (only : IsOnly old) (store : Store) (is : IsStoreOf z first old.knows.participant store) (stood : (w : World) × Stands z new w) (snapshots : List LabelledSnapshot) (txn : OpenState) where
  abbrev having : OpenState → session.Client
  having t = record { txn = Open (staged_of t); snapshots = snapshots }

  abbrev it : Participant
  it = old.knows.participant

  -- behind its lock the key is unchanged since the pin in all of the store's history
  pub unchanged_alone : (key : List ℕ) → (events : List Event) → Follows old new [] events → ((r : Registration) → txn.pin ≡ Some r → conflict new.knows.participant.seen key r.number ≡ None) → IfSome (staged_of txn).pin (λ pin. conflict store.history key pin ≡ None)
  unchanged_alone key events f unchanged = by txn.pin refl
    where
      by : (pin : Option Registration) → txn.pin ≡ pin → IfSome (option_map (λ (r : Registration). r.number) pin) (λ n. conflict store.history key n ≡ None)
      by None pinned = tt
      by (Some r) pinned = ap (λ (h : List Entry). conflict h key r.number) (sym (seen_still z first old new only store is stood events f)) ∙ unchanged r pinned

  -- ---- a key is refused

  module _ (left : OpenState) (c : Command) (key : List ℕ) (asks : Asks c key) (made : Reply) (comes : Comes snapshots store.history store.locked (staged_of txn) c key made) (has : HoldsTxn z old (held.Open txn)) (locks : AreLockedIn z old (Open (staged_of txn)) store) where
    back : (r : Reply) → left ≡ txn → AnswersAlone z first old new (having txn) (having txn) c r store → AnswersAlone z first old new (having txn) (having left) c r store
    back r same k = subst (λ (x : OpenState). AnswersAlone z first old new (having txn) (having x) c r store) (sym same) k

    too_many_alone : RefusesKey z old txn key TooMany new left → AnswersAlone z first old new (having txn) (having left) c reply.TooMany store
    too_many_alone k = back reply.TooMany k.0
        (quiet_answers z first old new only store is stood [] (follows_on _ z old new it k.3 [] refl (sym (append-nil it.past))) none_quiet (having txn) (having txn) c reply.TooMany
        (record { logged = refl; fault = refl; installed = refl; tables = refl; board = λ b. asks.board b reply.TooMany })
        (inl (sym (ap (reply_to store (having txn)) (says_too_many snapshots store.history store.locked (staged_of txn) c key made comes (full_has_none txn key k.2)))))
        (asks.full_same (having txn) ∙ sym (asks.takes_none store.history (having txn) reply.TooMany)) (goes_still z old new it k.3 refl (Open (staged_of txn)) store))

    busy_alone : (by : Holder) → RefusesKey z old txn key (Busy by) new left → AnswersAlone z first old new (having txn) (having left) c (reply.Busy by) store
    busy_alone by k =
        let f = k.5 in
        let event : Event = found (Some key) by (length it.seen) (account_of it f.world.locks f.published (Some key) by) in
        let held = key_is_held z first old new only store is (Open (staged_of txn)) locks key by f has.direct (λ name same. has.only name (not_own txn.name by k.4 name same)) in
        back (reply.Busy by) k.0
        (quiet_answers z first old new only store is stood (event ∷ []) (follows_on _ z old new _ f.goes_on (event ∷ []) refl refl) (one_quiet event refl refl (λ edit. refl) (λ label n e. absurd cc)) (having txn) (having txn) c (reply.Busy by)
        (record { logged = refl; fault = refl; installed = refl; tables = refl; board = λ b. asks.board b (reply.Busy by) })
        (inl (ap reply.Busy held.2 ∙ sym (ap (reply_to store (having txn)) (says_busy snapshots store.history store.locked (staged_of txn) c key made comes (not_full_has_room txn key has.has.few.few k.2) k.3 held.0 held.1))))
        (asks.busy_same (having txn) by ∙ sym (asks.takes_none store.history (having txn) (reply.Busy by))) (goes_still z old new _ f.goes_on refl (Open (staged_of txn)) store))

    conflict_alone : (n : ℕ) → RefusesKey z old txn key (Conflict n) new left → AnswersAlone z first old new (having txn) (having left) c (reply.Conflict n) store
    conflict_alone n k =
        let why = k.3 in let given = k.4 in
        let event : Event = locked key (Txn txn.name) in
        let f = follows_on _ z old new _ given.goes_on (event ∷ []) refl refl in
        let free = key_is_free z first old new only store is (Open (staged_of txn)) locks key given.was_free in
        let changed : conflict store.history key why.pin.number ≡ Some n = ap (λ (h : List Entry). conflict h key why.pin.number) (sym (seen_still z first old new only store is stood (event ∷ []) f)) ∙ why.last in
        back (reply.Conflict n) k.0
        (quiet_answers z first old new only store is stood (event ∷ []) f (one_quiet event refl refl (λ edit. refl) (λ label m e. absurd cc)) (having txn) (having txn) c (reply.Conflict n)
        (record { logged = refl; fault = refl; installed = refl; tables = refl; board = λ b. asks.board b (reply.Conflict n) })
        (inl (sym (ap (reply_to store (having txn)) (says_conflict snapshots store.history store.locked (staged_of txn) c key made comes (not_full_has_room txn key has.has.few.few k.2) given.not_its free why.pin.number n (ap (option_map (λ (r : Registration). r.number)) why.pinned) changed))))
        (asks.changed_same (having txn) n ∙ sym (asks.takes_none store.history (having txn) (reply.Conflict n))) (goes_still z old new _ given.goes_on refl (Open (staged_of txn)) store))

    pub refused_alone : (why : TxnError) (r : Reply) → refusal why ≡ Some r → RefusesKey z old txn key why new left → AnswersAlone z first old new (having txn) (having left) c r store
    refused_alone (Busy by) r e k = subst (λ (x : Reply). AnswersAlone z first old new (having txn) (having left) c x store) (same_some (reply.Busy by) r e) (busy_alone by k)
    refused_alone TooMany r e k = subst (λ (x : Reply). AnswersAlone z first old new (having txn) (having left) c x store) (same_some reply.TooMany r e) (too_many_alone k)
    refused_alone (Conflict n) r e k = subst (λ (x : Reply). AnswersAlone z first old new (having txn) (having left) c x store) (same_some (reply.Conflict n) r e) (conflict_alone n k)
    refused_alone Memory r e k = absurd cc
    refused_alone _ r e k = absurd k

  -- ---- a key comes

  -- this is said: the key is the transaction's, or it was free, and unchanged since the pin
  pub comes_alone : (c : Command) (key : List ℕ) (made : Reply) → Comes snapshots store.history store.locked (staged_of txn) c key made → session.has_no_room (staged_of txn) key ≡ false
      → (has_key txn.batch txn.locked key ≡ false → (holder_then store.history store.locked key ≡ None) × IfSome (staged_of txn).pin (λ pin. conflict store.history key pin ≡ None)) → plan store.history store.locked (having txn) c ≡ Say made
  comes_alone c key made comes room new_one = elim (cases_Bool (has_key txn.batch txn.locked key)) [
    | inl its ↦ says_its snapshots store.history store.locked (staged_of txn) c key made comes room its
    | inr none ↦ let k = new_one none in says_free snapshots store.history store.locked (staged_of txn) c key made comes room none k.0 k.1
  ]

  pub held_alone : (c : Change) (left : OpenState) → HoldsTxn z old (held.Open txn) → AreLockedIn z old (Open (staged_of txn)) store → Changes z old txn c (Ok tt) new left → AnswersAlone z first old new (having txn) (having left) (asking c) reply.Held store
  unfolding locked_of changing_by
  held_alone c left has locks k =
      let had = has_key txn.batch txn.locked (key_of c) in
      let events : List Event = locked_of had txn.name (key_of c) in
      let f : Follows old new [] events = changed_follows c k.3 in
      let says = comes_alone (asking c) (key_of c) reply.Held (change_comes snapshots store.history store.locked (staged_of txn) c) (not_full_has_room txn (key_of c) has.has.few.few k.2)
      (λ none. let came = k.4 none in (key_is_free z first old new only store is (Open (staged_of txn)) locks (key_of c) came.free, unchanged_alone (key_of c) events f came.unchanged)) in
      quiet_answers z first old new only store is stood events f (came_quiet had txn.name (key_of c)) (having txn) (having left) (asking c) reply.Held
      (record { logged = refl; fault = refl; installed = refl; tables = refl; board = λ b. board_same c b reply.Held })
      (inl (sym (ap (reply_to store (having txn)) says)))
      (ap having k.0 ∙ has_change c) (goes_unprepared z old new _ k.3 (Open (staged_of txn)) (Open (staged_of left)) store tt)
    where
      has_change : (c : Change) → having (with_changed txn c) ≡ client_after store.history (having txn) (asking c) reply.Held
      has_change (change.Put key value) = refl
      has_change (change.Del key) = refl

      by : (b : Bool) (c : Change) → Continues z old new (changing_by b txn.name txn.batch c it) → Follows old new [] (locked_of b txn.name (key_of c))
      by true c goes = follows_on _ z old new _ goes [] refl (sym (append-nil it.past))
      by false c goes = follows_on _ z old new _ goes (locked (key_of c) (Txn txn.name) ∷ []) refl refl

      changed_follows : (c : Change) → Continues z old new (changing txn c it) → Follows old new [] (locked_of (has_key txn.batch txn.locked (key_of c)) txn.name (key_of c))
      changed_follows c goes = by (has_key txn.batch txn.locked (key_of c)) c goes
