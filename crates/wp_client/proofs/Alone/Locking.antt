-- What a client is answered that is alone and pins its open transaction, or locks a key for it.
use Rattle.std.proofs.Common.{◌≡◌, inl, ℕ, ◌≤◌, Bool, true, false, List, [], ◌∷◌, ◌++◌, length, refl, sym, subst, ap, ◌∙◌, append-nil, Option, Some, None, arith}
use Rattle.std.specs.Prelude.{◌+◌, ◌&&◌, ◌||◌, not, nat_le, Ok, is_some, if◌then◌else◌}
use Rattle.std.proofs.lemmas.List.{length-append}
use Rattle.wp_model.specs.declared.entry.Entry.{Entry}
use Rattle.wp_model.specs.declared.holder.Holder.TheVariants.{Txn}
use Rattle.wp_model.specs.Batch.{change_to}
use Rattle.wp_model.specs.declared.batch.TheConstants.{MOST_KEYS}
use Rattle.wp_model.specs.Changed.{conflict}
use Rattle.wp_model.specs.Flushed.{InstalledEdit}
use Rattle.wp_model.specs.History.{value_at}
use Rattle.wp_model.specs.LockState.{is_among_keys}
use Rattle.wp_model.proofs.Tests.{same_some}
use Rattle.wp_text.specs.declared.script.Command.TheVariants as command
use Rattle.wp_text.specs.declared.reply.Reply.{Reply}
use Rattle.wp_text.specs.declared.reply.Reply.TheVariants as reply
use Rattle.wp_core.specs.Views.{locked}
use Rattle.wp_core.specs.World.{Participant, World}
use Rattle.wp_core.proofs.KeepsSeen.{shorter}
use Rattle.wp_shared.specs.Calls.{Continues}
use Rattle.wp_shared.specs.Seats.{SharedState, SeatState, Stands}
use Rattle.wp_core.specs.Sound.Actors.{StartsWith}
use Rattle.wp_open_txns.specs.declared.validating.Locked.TheVariants.{Read}
use Rattle.wp_open_txns.specs.Calls.{locking, with_locked_key, Pins, LocksForRead}
use Rattle.wp_open_txns.specs.Txn.{OpenState, has_key}
use Rattle.wp_replies.specs.declared.client.LabelledSnapshot.{LabelledSnapshot}
use Rattle.wp_replies.specs.Txn.{Open}
use Rattle.wp_replies.specs.Client.{Client, has_no_room}
use Rattle.wp_replies.specs.Due.{Store, reply_to, client_after}
use Rattle.wp_replies.specs.Plan.{plan, read_reply, read_or_own, refused_or}
use Rattle.wp_client.specs.declared.holdings.HeldTxn.TheVariants as held
use Rattle.wp_client.specs.Alone.{IsOnly, IsStoreOf, AreLockedIn, AnswersAlone}
use Rattle.wp_client.specs.Holdings.{staged_of, HoldsTxn}
use Rattle.wp_client.specs.Replies.{own_reply}
use Rattle.wp_client.proofs.Alone.Changing.{lock_comes, not_full_has_room}
use Rattle.wp_client.proofs.Alone.Keys.{key_is_free}
use Rattle.wp_client.proofs.Alone.Kept.{goes_unprepared}
use Rattle.wp_client.proofs.Alone.Seated.{none_quiet, Follows, follows_on, seen_still}
use Rattle.wp_client.proofs.Alone.Quiet.{LeavesStore, at_once, quiet_answers}
use Rattle.wp_client.proofs.Alone.Staged.{locked_of, came_quiet, comes_alone, unchanged_alone}

-- what is read under a lock says of no change of the store, and that the key is locked
read_leaves : (key : List ℕ) (value : Option (List ℕ)) (n : ℕ) → LeavesStore (command.Lock key) (read_reply value n)
read_leaves key (Some value) n = record { logged = refl; fault = refl; installed = refl; tables = refl; board = λ b. refl }
read_leaves key None n = record { logged = refl; fault = refl; installed = refl; tables = refl; board = λ b. refl }

-- what begins with so many entries, and has no more, is these
no_more : (history seen : List Entry) → StartsWith history seen → length history ≤ length seen → history ≡ seen
no_more history seen (rest, is) few = by rest is (ap (λ (h : List Entry). length h) is ∙ length-append seen rest)
  where
    by : (rest : List Entry) → history ≡ seen ++ rest → length history ≡ length seen + length rest → history ≡ seen
    by [] same size = same ∙ append-nil seen
    by (e ∷ rest) same size = absurd (omega (arith, size, few))

-- a key that is changed finds room
changed_has_room : (b : Bool) (many : Bool) → (many && not (true || b)) ≡ false
changed_has_room b true = refl
changed_has_room b false = refl

module _ {D : Type 0} (z : SharedState D) (first : InstalledEdit) (old new : SeatState) (only : IsOnly old) (store : Store) (is : IsStoreOf z first old.knows.participant store) where
  module _ (stood : (w : World) × Stands z new w) (snapshots : List LabelledSnapshot) (txn left : OpenState) where
    abbrev having : OpenState → Client
    having t = record { txn = Open (staged_of t); snapshots = snapshots }

    abbrev it : Participant
    it = old.knows.participant

    pub pinned_alone : (n : ℕ) → Pins z old txn (Ok n) new left → AnswersAlone z first old new (having txn) (having left) command.Pin (reply.Pinned n) store
    pinned_alone n k =
        let f = follows_on _ z old new _ k.6 [] refl (sym (append-nil it.past)) in
        let number : n ≡ length store.history = k.4 ∙ ap (λ (h : List Entry). length h) (seen_still z first old new only store is stood [] f) in
        quiet_answers z first old new only store is stood [] f none_quiet (having txn) (having left) command.Pin (reply.Pinned n)
        (record { logged = refl; fault = refl; installed = refl; tables = refl; board = λ b. refl })
        (inl (ap reply.Pinned number))
        (ap having k.1 ∙ ap (λ (m : ℕ). record { txn = Open (record (staged_of txn) { pin = Some m }); snapshots = snapshots }) k.3)
        (goes_unprepared z old new _ k.6 (Open (staged_of txn)) (Open (staged_of left)) store tt)

    module _ (has : HoldsTxn z old (held.Open txn)) (key : List ℕ) (locks : AreLockedIn z old (Open (staged_of txn)) store) where
      locks_client : (value : Option (List ℕ)) (n : ℕ) → having (with_locked_key txn key) ≡ client_after store.history (having txn) (command.Lock key) (read_reply value n)
      locks_client (Some value) n = refl
      locks_client None n = refl

      follows_by : (b : Bool) (t : SeatState) → Continues z old t (locking b txn.name key it) → Follows old t [] (locked_of b txn.name key)
      unfolding locked_of
      follows_by true t goes = follows_on _ z old t _ goes [] refl (sym (append-nil it.past))
      follows_by false t goes = follows_on _ z old t _ goes (locked key (Txn txn.name) ∷ []) refl refl

      none_there : (said : Option (Option (List ℕ))) → is_some said ≡ false → said ≡ None
      none_there None none = refl
      none_there (Some said) none = absurd cc

      pub locked_alone : (value : Option (List ℕ)) (n : ℕ) → LocksForRead z old txn key (Ok (Read value n)) new left → AnswersAlone z first old new (having txn) (having left) (command.Lock key) (read_reply value n) store
      locked_alone value n k =
          let read = k.2 in let was = is_among_keys txn.locked key in
          let f : Follows old new [] (locked_of was txn.name key) = follows_by was new read.goes_on in
          let seen = seen_still z first old new only store is stood (locked_of was txn.name key) f in
          let now : length new.knows.participant.seen ≡ length store.history = ap (λ (h : List Entry). length h) seen in
          let were : length store.history ≡ length it.seen = ap (λ (h : List Entry). length h) is.history in
          let one = shorter read.behind.knows.participant.seen it.seen read.locked.seen in
          let low = read.read.fresh in let high = read.read.within in
          let same : new.knows.participant.seen ≡ read.behind.knows.participant.seen = no_more new.knows.participant.seen read.behind.knows.participant.seen read.read.goes_on.seen (omega (arith, now, were, one)) in
          let at_is : n ≡ length store.history = omega (arith, low, high, now, were, one) in
          let shown : value ≡ value_at store.history key (length store.history) = read.read.value_is ∙ ap (λ (x : List Entry × ℕ). value_at x.0 key x.1) (λ i. (seen i, at_is i)) in
          let none : change_to txn.batch key ≡ None = none_there (change_to txn.batch key) read.no_change in
          let its : has_key txn.batch txn.locked key ≡ was = ap (λ (b : Bool). b || was) read.no_change in
          let says = comes_alone z first old new only store is stood snapshots txn (command.Lock key) key (read_reply (value_at store.history key (length store.history)) (length store.history)) (lock_comes snapshots store.history store.locked (staged_of txn) key none) (not_full_has_room txn key has.has.few.few read.room)
          (λ new_one. let came = read.comes (sym its ∙ new_one) in
          (key_is_free z first old new only store is (Open (staged_of txn)) locks key came.free, unchanged_alone z first old new only store is stood snapshots txn key (locked_of was txn.name key) f (λ r pinned. ap (λ (h : List Entry). conflict h key r.number) same ∙ came.unchanged r pinned))) in
          quiet_answers z first old new only store is stood (locked_of was txn.name key) f (came_quiet was txn.name key) (having txn) (having left) (command.Lock key) (read_reply value n) (read_leaves key value n)
          (inl (ap (λ (x : Option (List ℕ) × ℕ). read_reply x.0 x.1) (λ i. (shown i, at_is i)) ∙ sym (ap (reply_to store (having txn)) says)))
          (ap having k.0 ∙ locks_client value n) (goes_unprepared z old new _ read.goes_on (Open (staged_of txn)) (Open (staged_of left)) store tt)

  abbrev me_of : List LabelledSnapshot → OpenState → Client
  me_of snapshots txn = record { txn = Open (staged_of txn); snapshots = snapshots }

  -- the key has a change: that is answered
  pub own_lock_alone : (snapshots : List LabelledSnapshot) (txn : OpenState) (key : List ℕ) (r : Reply) → own_reply (change_to txn.batch key) ≡ Some r → new ≡ old
      → AnswersAlone z first old new (me_of snapshots txn) (me_of snapshots txn) (command.Lock key) r store
  own_lock_alone snapshots txn key r says same = by (change_to txn.batch key) refl says
    where
      due_is : (said : Option (Option (List ℕ))) → change_to txn.batch key ≡ said → is_some said ≡ true → plan store.history store.locked (me_of snapshots txn) (command.Lock key) ≡ read_or_own store.history store.locked (staged_of txn) said key
      due_is said at some =
          let room : has_no_room (staged_of txn) key ≡ false = rw (ap (λ (o : Option (Option (List ℕ))). is_some o) at ∙ some) (changed_has_room (is_among_keys txn.locked key) (nat_le MOST_KEYS (length txn.batch + length txn.locked))) in
          ap (λ (b : Bool). refused_or (if b then Some reply.TooMany else None) (read_or_own store.history store.locked (staged_of txn) (change_to txn.batch key) key)) room ∙ ap (λ (o : Option (Option (List ℕ))). read_or_own store.history store.locked (staged_of txn) o key) at

      by : (said : Option (Option (List ℕ))) → change_to txn.batch key ≡ said → own_reply said ≡ Some r → AnswersAlone z first old new (me_of snapshots txn) (me_of snapshots txn) (command.Lock key) r store
      by None at e = absurd cc
      by (Some None) at e = subst (λ (x : Reply). AnswersAlone z first old new (me_of snapshots txn) (me_of snapshots txn) (command.Lock key) x store) (same_some reply.MissingOwn r e)
          (at_once z first old new only store is same (me_of snapshots txn) (me_of snapshots txn) (command.Lock key) reply.MissingOwn (record { logged = refl; fault = refl; installed = refl; tables = refl; board = λ b. refl }) (inl (sym (ap (reply_to store (me_of snapshots txn)) (due_is (Some None) at refl)))) refl refl)
      by (Some (Some value)) at e = subst (λ (x : Reply). AnswersAlone z first old new (me_of snapshots txn) (me_of snapshots txn) (command.Lock key) x store) (same_some (reply.GotOwn value) r e)
          (at_once z first old new only store is same (me_of snapshots txn) (me_of snapshots txn) (command.Lock key) (reply.GotOwn value) (record { logged = refl; fault = refl; installed = refl; tables = refl; board = λ b. refl }) (inl (sym (ap (reply_to store (me_of snapshots txn)) (due_is (Some (Some value)) at refl)))) refl refl)
