-- What a client is answered that pins its open transaction, or locks a key for it.
use Rattle.std.proofs.Common.{◌≡◌, inl, inr, ℕ, ◌≤◌, Bool, true, false, true≢false, List, [], ◌∷◌, ◌++◌, length, Option, Some, None, refl, sym, subst, ap, ◌∙◌, arith}
use Rattle.std.specs.Prelude.{◌≢◌, ◌&&◌, ◌||◌, ◌+◌, nat_le, is_some, Ok, Err, IfSome}
use Rattle.std.specs.FinMap as finite
use Rattle.std.specs.FinSet as set
use Rattle.std.specs.FinSet.{contains-insert}
use Rattle.std.proofs.lemmas.Cmp.{nat_list_cmp_total}
use mathlib.Core.List.{append-nil}
use Rattle.wp_model.specs.declared.batch.TheConstants.{MOST_KEYS}
use Rattle.wp_model.specs.declared.entry.Entry.{Entry}
use Rattle.wp_model.specs.declared.holder.Holder.TheVariants as holder
use Rattle.wp_model.specs.Batch.{key_cmp, change_to}
use Rattle.wp_model.specs.History.{is_changed, value_at}
use Rattle.wp_model.specs.LockState.{is_among_keys}
use Rattle.wp_model.proofs.Keyed.{same_test, at_inserted}
use Rattle.wp_model.proofs.Tests.{none_some, same_some}
use Rattle.wp_text.specs.declared.script.Command.{Command}
use Rattle.wp_text.specs.declared.script.Command.TheVariants as command
use Rattle.wp_text.specs.declared.reply.Reply.{Reply}
use Rattle.wp_text.specs.declared.reply.Reply.TheVariants as reply
use Rattle.wp_core.specs.Changes.{is_same_registration}
use Rattle.wp_core.specs.Lists.{one_if}
use Rattle.wp_core.specs.Reading.{Registration}
use Rattle.wp_core.specs.Views.{locked, unchanged}
use Rattle.wp_core.specs.World.{Participant}
use Rattle.wp_core.proofs.KeepsSeen.{shorter, whole}
use Rattle.wp_core.proofs.PastsGrow.{in_front, total_more}
use Rattle.wp_read.specs.Registers.{unregistering}
use Rattle.wp_shared.specs.Seats.{SharedState, SeatState}
use Rattle.wp_open_txns.specs.declared.error.TxnError.{TxnError}
use Rattle.wp_open_txns.specs.declared.error.TxnError.TheVariants.{Memory, Silent}
use Rattle.wp_open_txns.specs.declared.validating.Locked.TheVariants.{Own, Read}
use Rattle.wp_open_txns.specs.Actors.{transaction_in, with_key_locked}
use Rattle.wp_open_txns.specs.Calls.{Keeps, locking, with_locked_key, Pins, ReadsLocked, LocksForRead}
use Rattle.wp_open_txns.specs.Txn.{OpenState, has_key, HasOpen}
use Rattle.wp_replies.specs.declared.client.LabelledSnapshot.{LabelledSnapshot}
use Rattle.wp_replies.specs.Txn.{Open}
use Rattle.wp_replies.specs.Client.{Client, has_no_room}
use Rattle.wp_replies.specs.Kind.{acknowledged, kind, is_fault, is_tables_fault, tables_after, fresh_in}
use Rattle.wp_replies.specs.Plan.{read_reply}
use Rattle.wp_replies.specs.Progress.{keys_after}
use Rattle.wp_replies.specs.Replies.{Evidence, OwnSays}
use Rattle.wp_client.specs.declared.holdings.HeldTxn.TheVariants as held
use Rattle.wp_client.specs.Agrees.{Agrees}
use Rattle.wp_client.specs.Answers.{AreNoted, IsExplained, IsRemembered, Answers, BreaksOff, IsAnswered}
use Rattle.wp_client.specs.Fresh.{HasKeyLocked, WasReadLocked, NamesSeen}
use Rattle.wp_client.specs.Holdings.{staged_of, times_registered, registration_if, HoldsTxn, HoldsFrom}
use Rattle.wp_client.specs.Replies.{refusal, own_reply}
use Rattle.wp_client.proofs.Asking.{asks_lock, with_room, refused_beside, refused_holds, refused_same, refused_keeps}
use Rattle.wp_client.proofs.Clients.{having, holds_from}
use Rattle.wp_client.proofs.Fitting.{Fits, else_answers}
use Rattle.wp_client.proofs.GivenUp.{without_pin}
use Rattle.wp_client.proofs.Growing.{of_one, last_still}
use Rattle.wp_client.proofs.Labels.{itself}
use Rattle.wp_client.proofs.Noting.{Came, KeepsNoted, noted_still, noted_come, its_with_locked}
use Rattle.wp_client.proofs.Reading.{keeps_answers, value_old}
use Rattle.wp_client.proofs.Staged.{locking_is}
use Rattle.wp_client.proofs.Staying.{Repins, broke_off, broke_off_after, past_more, holds_still, keeps_holds, has_now, holds_now}
use Rattle.wp_client.proofs.Alone.Changing.{lock_comes, not_full_has_room}
use Rattle.wp_client.proofs.Alone.Quiet.{never_stops}
use Rattle.wp_client.proofs.Alone.Locking.{pinned_alone, locked_alone, own_lock_alone}
use Rattle.wp_client.proofs.Alone.Staged.{locked_of, refused_alone}

-- ---- a pin

module _ {D : Type 0} (z : SharedState D) (old new : SeatState) (txn left : OpenState) (snapshots : List LabelledSnapshot) (has : HoldsTxn z old (held.Open txn)) where
  abbrev it : Participant
  it = old.knows.participant

  abbrev before_it : Client
  before_it = having (Open (staged_of txn)) snapshots

  abbrev after_it : Client
  after_it = having (Open (staged_of left)) snapshots

  -- the pin is registered, and then the pin from before goes
  abbrev repinning : Registration → Participant
  repinning r = unregistering txn.pin (record it { registered = it.registered ++ r ∷ [] })

  pinned_noted : (n : ℕ) → (k : Pins z old txn (Ok n) new left) → KeepsNoted old new (Open (staged_of txn)) (Open (staged_of left)) command.Pin (reply.Pinned n)
  pinned_noted n k = λ before low are.
      let more = shorter new.knows.participant.seen it.seen k.6.seen in let is = k.4 in
      let kept = noted_still z old new (repinning k.0) k.6 (Open (staged_of txn)) command.Pin (reply.Pinned n) (λ before. refl) (omega (arith, is, more)) before low are in
      subst (λ (x : OpenState). AreNoted new (Open (staged_of x)) (keys_after before command.Pin (reply.Pinned n))) (sym k.1) (record { each = kept.each; all = kept.all })

  pinned_beside : (n : ℕ) → Pins z old txn (Ok n) new left → Answers z old new before_it after_it command.Pin (reply.Pinned n)
  pinned_beside n k = let is = k.4 in
      else_answers z old new _ (repinning k.0) [] before_it after_it command.Pin (reply.Pinned n) 0 k.6 refl refl (sym (append-nil it.past))
      (record { acknowledges = refl; tables = λ before. refl; labels = λ before. refl; log_failed = refl; log_stopped = refl; tables_failed = refl; once = omega arith; remembered = tt; explained = λ event there. absurd there })
      (ap (λ (x : OpenState). having (Open (staged_of x)) snapshots) k.1 ∙ ap (λ (m : ℕ). having (Open (record (staged_of txn) { pin = Some m })) snapshots) k.3)
      (pinned_noted n k)
      (λ before low. omega (arith, is))
      (λ first is_first before p e agrees. let low = last_still first old (Open (staged_of txn)) new.knows.participant before k.6.seen p in let high = shorter e.history new.knows.participant.seen agrees.seen in (omega (arith, is, low), omega (arith, is, high)))

  pub pinned_answers : (n : ℕ) → Pins z old txn (Ok n) new left → IsAnswered z old new before_it after_it command.Pin (reply.Pinned n)
  pinned_answers n k = (pinned_beside n k, λ world stands only first is_first store so locks. pinned_alone z first old new only store so (world, stands) snapshots txn left n k)

  pub pinned_names : (n : ℕ) → Pins z old txn (Ok n) new left → NamesSeen z old new command.Pin (reply.Pinned n)
  pinned_names n k = record { snapshot = k.0; history = new.knows.participant.seen; taken = (k.5.0, k.5.1); number = k.3; seen = whole new.knows.participant.seen }

  -- the pin that was goes, and the new one is there
  repins : (n : ℕ) (k : Pins z old txn (Ok n) new left) → Repins it.registered (repinning k.0).registered (held.Open txn) (held.Open (record txn { pin = Some k.0 }))
  repins n k r =
      let out = without_pin txn (it.registered ++ k.0 ∷ []) (λ q is. in_front q it.registered (k.0 ∷ []) (has.has.pinned q is).0) r in
      let more = total_more (λ (x : Registration). one_if (is_same_registration r x)) it.registered k.0 in
      omega (arith, out, more)

  pub pinned_holds : (n : ℕ) → Pins z old txn (Ok n) new left → HoldsFrom z old new (held.Open txn) (held.Open left)
  pinned_holds n k = let next : OpenState = record txn { pin = Some k.0 } in
      subst (λ (x : OpenState). HoldsFrom z old new (held.Open txn) (held.Open x)) (sym k.1)
      (holds_now _ z old new (repinning k.0) k.6 (held.Open txn) (held.Open next) (repins n k)
      (has_now _ z old new (repinning k.0) k.6 (held.Open txn) (held.Open next) refl has (subst (HasOpen new) k.1 k.2) has.only))

  -- nothing but want of memory refuses it
  pin_else : (why : TxnError) → Pins z old txn (Err why) new left → why ≡ Memory
  pin_else Memory k = refl
  pin_else _ k = absurd k

  module _ (why : TxnError) (k : Pins z old txn (Err why) new left) where
    abbrev wanting : Pins z old txn (Err Memory) new left
    wanting = subst (λ (w : TxnError). Pins z old txn (Err w) new left) (pin_else why k) k

    pub not_pinned_named : why ≢ Silent
    not_pinned_named is = subst (λ (w : TxnError). Pins z old txn (Err w) new left) is k

    pub not_pinned_answers : (r : Reply) → refusal why ≡ Some r → IsAnswered z old new before_it after_it command.Pin r
    not_pinned_answers r is = let none : refusal why ≡ None = ap refusal (pin_else why k) in absurd (none_some (refusal why) r none is)

    pub not_pinned_names : (r : Reply) → refusal why ≡ Some r → NamesSeen z old new command.Pin r
    not_pinned_names r is = let none : refusal why ≡ None = ap refusal (pin_else why k) in absurd (none_some (refusal why) r none is)

    pub not_pinned_same : left ≡ txn
    not_pinned_same = wanting.0

    pub not_pinned_breaks : BreaksOff old new before_it command.Pin
    not_pinned_breaks = broke_off z old new before_it command.Pin wanting.2

    pub not_pinned_holds : HoldsFrom z old new (held.Open txn) (held.Open left)
    not_pinned_holds = subst (λ (x : OpenState). HoldsFrom z old new (held.Open txn) (held.Open x)) (sym wanting.0) (holds_from z old new (held.Open txn) (keeps_holds z old new wanting.2))

-- ---- a lock

-- no refusal tells a value
no_value : (why : TxnError) (value : List ℕ) (n : ℕ) → refusal why ≡ Some (reply.Got value n) → ⊥
no_value Memory value n is = absurd cc
no_value why value n is = absurd cc

no_missing : (why : TxnError) (n : ℕ) → refusal why ≡ Some (reply.Missing n) → ⊥
no_missing Memory n is = absurd cc
no_missing why n is = absurd cc

-- a key without a change has none
unchanged_by : (said : Option (Option (List ℕ))) → is_some said ≡ false → said ≡ None
unchanged_by None none = refl
unchanged_by (Some said) none = absurd cc

-- a key that is changed finds room
its_has_room : (txn : OpenState) (key : List ℕ) → is_changed txn.batch key ≡ true → has_no_room (staged_of txn) key ≡ false
its_has_room txn key is = rw is (by (nat_le MOST_KEYS (length txn.batch + length txn.locked)))
  where
    by : (b : Bool) → (b && false) ≡ false
    by true = refl
    by false = refl

module _ {D : Type 0} (z : SharedState D) (old new : SeatState) (txn left : OpenState) (key : List ℕ) (snapshots : List LabelledSnapshot) (has : HoldsTxn z old (held.Open txn)) where
  abbrev its : Participant
  its = old.knows.participant

  abbrev me : Client
  me = having (Open (staged_of txn)) snapshots

  abbrev me_then : Client
  me_then = having (Open (staged_of left)) snapshots

  abbrev was_locked : Bool
  was_locked = is_among_keys txn.locked key

  -- without a change the key is the transaction's where it was locked
  its_by : is_changed txn.batch key ≡ false → has_key txn.batch txn.locked key ≡ was_locked
  its_by none = ap (λ (b : Bool). b || was_locked) none

  no_change : change_to txn.batch key ≡ None → is_changed txn.batch key ≡ false
  no_change none = ap (λ (o : Option (Option (List ℕ))). is_some o) none

  -- the value is read behind the lock
  module _ (value : Option (List ℕ)) (n : ℕ) (k : ReadsLocked z old txn key value n new) where
    low : length its.seen ≤ n
    low = let one = shorter k.behind.knows.participant.seen its.seen k.locked.seen in let two = k.read.fresh in omega (arith, one, two)

    came : (c : Command) (r : Reply) → fresh_in c r ≡ Some n → has_key txn.batch txn.locked key ≡ false → Came old new txn.name key (fresh_in c r)
    came c r fresh none =
        let free = k.comes (sym (its_by k.no_change) ∙ none) in
        let later = shorter new.knows.participant.seen k.behind.knows.participant.seen k.read.goes_on.seen in
        let seen = free.seen in let before = k.read.fresh in record {
          number = free.number;
          noted = k.read.goes_on.notes (unchanged txn.name key free.number) refl free.noted;
          reached = free.reached;
          seen = omega (arith, seen, later);
          first = subst (λ (o : Option ℕ). IfSome o (λ m. free.number ≤ m)) (sym fresh) (omega (arith, seen, before));
        }

    read_says : (e : Evidence) → Agrees e z new.knows.participant → OwnSays e.history (Open (staged_of txn)) key None
    read_says e agrees = (tt, unchanged_by (change_to txn.batch key) k.no_change)

    lock_fits : (r : Reply) → acknowledged r ≡ [] → ((before : ℕ) → tables_after before r ≡ before) → is_fault r ≡ false → is_tables_fault r ≡ false → IsRemembered (locked_of was_locked txn.name key) r
        → IsExplained its.client (Open (staged_of txn)) (command.Lock key) (Some r) (locked key (holder.Txn txn.name)) → Fits (command.Lock key) r [] (locked_of was_locked txn.name key) its.client (Open (staged_of txn))
    unfolding locked_of
    lock_fits r none tables fault table_fault remembered explained = by was_locked remembered
      where
        by : (b : Bool) → IsRemembered (locked_of b txn.name key) r → Fits (command.Lock key) r [] (locked_of b txn.name key) its.client (Open (staged_of txn))
        by true remembered = record { acknowledges = none; tables = tables; labels = λ before. refl; log_failed = ap one_if (sym fault); log_stopped = ap one_if (sym (never_stops false (kind r) fault table_fault)); tables_failed = ap one_if (sym table_fault); once = omega arith; remembered = remembered; explained = λ event there. absurd there }
        by false remembered = record { acknowledges = none; tables = tables; labels = λ before. refl; log_failed = ap one_if (sym fault); log_stopped = ap one_if (sym (never_stops false (kind r) fault table_fault)); tables_failed = ap one_if (sym table_fault); once = omega arith; remembered = remembered; explained = of_one (IsExplained its.client (Open (staged_of txn)) (command.Lock key) (Some r)) (locked key (holder.Txn txn.name)) explained }

  read_beside : (value : Option (List ℕ)) (n : ℕ) → LocksForRead z old txn key (Ok (Read value n)) new left → Answers z old new me me_then (command.Lock key) (read_reply value n)
  read_beside (Some value) n k = let read = k.2 in let is = locking_is was_locked txn.name key its in
      else_answers z old new _ (locking was_locked txn.name key its) (locked_of was_locked txn.name key) me me_then (command.Lock key) (reply.Got value n) 0 read.goes_on is.client is.own is.past
      (lock_fits (Some value) n read (reply.Got value n) refl (λ before. refl) refl refl tt (rw (itself txn.name, itself key) refl))
      (ap (λ (x : OpenState). having (Open (staged_of x)) snapshots) k.0)
      (subst (λ (x : OpenState). KeepsNoted old new (Open (staged_of txn)) (Open (staged_of x)) (command.Lock key) (reply.Got value n)) (sym k.0)
      (noted_come z old new _ read.goes_on txn.name key (staged_of txn) (staged_of (with_locked_key txn key)) (command.Lock key) (reply.Got value n) refl refl (λ before. refl) (low (Some value) n read) (its_with_locked (staged_of txn) key) (came (Some value) n read (command.Lock key) (reply.Got value n) refl)))
      (λ before had. read.read.within)
      (λ first is_first before p e agrees. with_room (command.Lock key) key (asks_lock key) (staged_of txn) snapshots e before (reply.Got value n) (not_full_has_room txn key has.has.few.few read.room) (
        read_says (Some value) n read e agrees,
        (let last = p.last in let from = low (Some value) n read in omega (arith, last, from), let to = read.read.within in let high = shorter e.history new.knows.participant.seen agrees.seen in omega (arith, to, high)),
        value_old e.history new.knows.participant.seen key n agrees.seen read.read.within ∙ sym read.read.value_is,
      ))
  read_beside None n k = let read = k.2 in let is = locking_is was_locked txn.name key its in
      else_answers z old new _ (locking was_locked txn.name key its) (locked_of was_locked txn.name key) me me_then (command.Lock key) (reply.Missing n) 0 read.goes_on is.client is.own is.past
      (lock_fits None n read (reply.Missing n) refl (λ before. refl) refl refl tt (rw (itself txn.name, itself key) refl))
      (ap (λ (x : OpenState). having (Open (staged_of x)) snapshots) k.0)
      (subst (λ (x : OpenState). KeepsNoted old new (Open (staged_of txn)) (Open (staged_of x)) (command.Lock key) (reply.Missing n)) (sym k.0)
      (noted_come z old new _ read.goes_on txn.name key (staged_of txn) (staged_of (with_locked_key txn key)) (command.Lock key) (reply.Missing n) refl refl (λ before. refl) (low None n read) (its_with_locked (staged_of txn) key) (came None n read (command.Lock key) (reply.Missing n) refl)))
      (λ before had. read.read.within)
      (λ first is_first before p e agrees. with_room (command.Lock key) key (asks_lock key) (staged_of txn) snapshots e before (reply.Missing n) (not_full_has_room txn key has.has.few.few read.room) (
        read_says None n read e agrees,
        (let last = p.last in let from = low None n read in omega (arith, last, from), let to = read.read.within in let high = shorter e.history new.knows.participant.seen agrees.seen in omega (arith, to, high)),
        value_old e.history new.knows.participant.seen key n agrees.seen read.read.within ∙ sym read.read.value_is,
      ))

  pub read_locked_answers : (value : Option (List ℕ)) (n : ℕ) → LocksForRead z old txn key (Ok (Read value n)) new left → IsAnswered z old new me me_then (command.Lock key) (read_reply value n)
  read_locked_answers value n k = (read_beside value n k, λ world stands only first is_first store so locks. locked_alone z first old new only store so (world, stands) snapshots txn left has key locks value n k)

  contains_inserted : (s : set.FinSet key_cmp) → set.contains (set.insert s key) key ≡ true
  contains_inserted s = contains-insert nat_list_cmp_total s key key ∙ ap (λ (b : Bool). b || set.contains s key) (same_test key key refl)

  -- the key is locked then, and still
  locked_then : (b : Bool) → was_locked ≡ b → (p : Participant) → (some : List Entry) → p ≡ record (locking b txn.name key its) { seen = some } → is_changed txn.batch key ≡ false → HasKeyLocked p txn.name key
  locked_then true is p some same none =
      (has.has.transaction, ap (λ (q : Participant). finite.get q.transactions txn.name) same ∙ has.has.has, has.has.keys key ∙ (its_by none ∙ is))
  locked_then false is p some same none =
      (with_key_locked key (transaction_in its txn.name), ap (λ (q : Participant). finite.get q.transactions txn.name) same ∙ at_inserted its.transactions txn.name (with_key_locked key (transaction_in its txn.name)) txn.name refl, contains_inserted (transaction_in its txn.name).locked)

  pub read_locked_names : (value : Option (List ℕ)) (n : ℕ) → LocksForRead z old txn key (Ok (Read value n)) new left → NamesSeen z old new (command.Lock key) (read_reply value n)
  read_locked_names value n k = by value n k.2
    where
      was_read : (v : Option (List ℕ)) (m : ℕ) → ReadsLocked z old txn key v m new → WasReadLocked z old new key m
      was_read v m read = record {
        behind = read.behind;
        by = read.locked.same_by;
        onward = read.locked.seen;
        name = txn.name;
        then_locked = locked_then was_locked refl read.behind.knows.participant read.behind.knows.participant.seen read.locked.participant read.no_change;
        published = read.read.published;
        still_locked = locked_then was_locked refl new.knows.participant new.knows.participant.seen read.goes_on.participant read.no_change;
      }

      by : (v : Option (List ℕ)) (m : ℕ) → ReadsLocked z old txn key v m new → NamesSeen z old new (command.Lock key) (read_reply v m)
      by (Some v) m read = was_read (Some v) m read
      by None m read = was_read None m read

  pub read_locked_holds : (value : Option (List ℕ)) (n : ℕ) → LocksForRead z old txn key (Ok (Read value n)) new left → HoldsFrom z old new (held.Open txn) (held.Open left)
  read_locked_holds value n k = let is = locking_is was_locked txn.name key its in let goes = k.2.goes_on in let next : OpenState = with_locked_key txn key in
      subst (λ (x : OpenState). HoldsFrom z old new (held.Open txn) (held.Open x)) (sym k.0)
      (holds_now _ z old new _ goes (held.Open txn) (held.Open next) (λ r. ap (λ (rs : List Registration). times_registered r rs + times_registered r (registration_if txn.pin)) is.registered)
      (has_now _ z old new _ goes (held.Open txn) (held.Open next) is.direct has (subst (HasOpen new) k.0 k.1) (is.others has.only)))

  -- ---- a lock is refused

  pub not_locked_answers : (why : TxnError) (r : Reply) → refusal why ≡ Some r → LocksForRead z old txn key (Err why) new left → IsAnswered z old new me me_then (command.Lock key) r
  not_locked_answers Memory r is k = absurd cc
  not_locked_answers why r is k = (
    refused_beside z old new txn left (command.Lock key) key (asks_lock key) snapshots has why r is k.1,
    λ world stands only first is_first store so locks. refused_alone z first old new only store so (world, stands) snapshots txn left (command.Lock key) key (asks_lock key) (read_reply (value_at store.history key (length store.history)) (length store.history))
        (lock_comes snapshots store.history store.locked (staged_of txn) key (unchanged_by (change_to txn.batch key) k.0)) has locks why r is k.1,
  )

  pub not_locked_names : (why : TxnError) (r : Reply) → refusal why ≡ Some r → LocksForRead z old txn key (Err why) new left → NamesSeen z old new (command.Lock key) r
  not_locked_names why (reply.Got v m) is k = absurd (no_value why v m is)
  not_locked_names why (reply.Missing m) is k = absurd (no_missing why m is)
  not_locked_names why r is k = tt

  pub not_locked_named : (why : TxnError) → LocksForRead z old txn key (Err why) new left → why ≢ Silent
  not_locked_named why k is = (subst (λ (w : TxnError). LocksForRead z old txn key (Err w) new left) is k).1

  pub not_locked_same : (why : TxnError) → refusal why ≡ None → LocksForRead z old txn key (Err why) new left → left ≡ txn
  not_locked_same Memory none k = k.0
  not_locked_same why none k = refused_same z old new txn left (command.Lock key) key (asks_lock key) snapshots has why none k.1

  -- where memory was wanting for the value, the key was locked and is free again
  pub not_locked_breaks : (why : TxnError) → refusal why ≡ None → LocksForRead z old txn key (Err why) new left → BreaksOff old new me (command.Lock key)
  not_locked_breaks Memory none (same, open_, no_change, inl goes) = broke_off z old new me (command.Lock key) goes
  not_locked_breaks Memory none (same, open_, no_change, inr given) =
      broke_off_after _ z old new _ given.goes_on (locked key (holder.Txn txn.name) ∷ []) me (command.Lock key) refl refl refl
      (of_one (IsExplained its.client (Open (staged_of txn)) (command.Lock key) None) (locked key (holder.Txn txn.name)) (rw (itself txn.name, itself key) refl)) refl refl refl
  not_locked_breaks why none k = broke_off z old new me (command.Lock key) (refused_keeps z old new txn left (command.Lock key) key (asks_lock key) snapshots has why none k.1)

  pub not_locked_holds : (why : TxnError) → LocksForRead z old txn key (Err why) new left → HoldsFrom z old new (held.Open txn) (held.Open left)
  not_locked_holds Memory (same, open_, no_change, inl goes) = subst (λ (x : OpenState). HoldsFrom z old new (held.Open txn) (held.Open x)) (sym same) (holds_from z old new (held.Open txn) (keeps_holds z old new goes))
  not_locked_holds Memory (same, open_, no_change, inr given) = subst (λ (x : OpenState). HoldsFrom z old new (held.Open txn) (held.Open x)) (sym same) (holds_from z old new (held.Open txn) (holds_still z old new _ refl refl refl given.goes_on (past_more _ _)))
  not_locked_holds why k = refused_holds z old new txn left (command.Lock key) key (asks_lock key) snapshots has why k.1

  -- ---- the key has a change

  own_beside : (said : Option (Option (List ℕ))) (r : Reply) → change_to txn.batch key ≡ said → own_reply said ≡ Some r → Keeps z old new → Answers z old new me me (command.Lock key) r
  own_beside None r at is goes = absurd cc
  own_beside (Some None) r at is goes = subst (Answers z old new me me (command.Lock key)) (same_some reply.MissingOwn r is)
      (keeps_answers z old new me (command.Lock key) reply.MissingOwn goes (record { acknowledges = refl; tables = λ before. refl; labels = λ before. refl; log_failed = refl; tables_failed = refl; remembered = tt; keys = λ before. refl })
      refl tt (λ before low. low) (λ first is_first before p e agrees. with_room (command.Lock key) key (asks_lock key) (staged_of txn) snapshots e before reply.MissingOwn (its_has_room txn key (ap (λ (o : Option (Option (List ℕ))). is_some o) at)) (tt, at)))
  own_beside (Some (Some value)) r at is goes = subst (Answers z old new me me (command.Lock key)) (same_some (reply.GotOwn value) r is)
      (keeps_answers z old new me (command.Lock key) (reply.GotOwn value) goes (record { acknowledges = refl; tables = λ before. refl; labels = λ before. refl; log_failed = refl; tables_failed = refl; remembered = tt; keys = λ before. refl })
      refl tt (λ before low. low) (λ first is_first before p e agrees. with_room (command.Lock key) key (asks_lock key) (staged_of txn) snapshots e before (reply.GotOwn value) (its_has_room txn key (ap (λ (o : Option (Option (List ℕ))). is_some o) at)) (tt, at)))

  pub own_lock_answers : (r : Reply) → own_reply (change_to txn.batch key) ≡ Some r → new ≡ old → Keeps z old new → IsAnswered z old new me me (command.Lock key) r
  own_lock_answers r is same goes = (own_beside (change_to txn.batch key) r refl is goes, λ world stands only first is_first store so locks. own_lock_alone z first old new only store so snapshots txn key r is same)

-- what is its own has no number
pub own_lock_names : {D : Type 0} (z : SharedState D) (s : SeatState) (key : List ℕ) (said : Option (Option (List ℕ))) (r : Reply) → own_reply said ≡ Some r → NamesSeen z s s (command.Lock key) r
own_lock_names z s key None r is = absurd cc
own_lock_names z s key (Some None) r is = subst (NamesSeen z s s (command.Lock key)) (same_some reply.MissingOwn r is) tt
own_lock_names z s key (Some (Some value)) r is = subst (NamesSeen z s s (command.Lock key)) (same_some (reply.GotOwn value) r is) tt

-- where nothing is its own, it has no change
pub nothing_own : (said : Option (Option (List ℕ))) → own_reply said ≡ None → said ≡ None
nothing_own None is = refl
nothing_own (Some None) is = absurd cc
nothing_own (Some (Some value)) is = absurd cc

-- so the key is not answered as its own
pub no_own_key : {D : Type 0} (z : SharedState D) (old new : SeatState) (txn left : OpenState) (asked key : List ℕ) → asked ≡ key → change_to txn.batch key ≡ None → LocksForRead z old txn asked (Ok Own) new left → ⊥
no_own_key z old new txn left asked key same none k =
    let not : is_changed txn.batch asked ≡ false = ap (λ (o : Option (Option (List ℕ))). is_some o) (ap (change_to txn.batch) same ∙ none) in true≢false (sym k.2 ∙ not)
