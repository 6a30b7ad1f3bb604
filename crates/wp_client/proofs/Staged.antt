-- What a client is answered whose open transaction takes a change in.
use Rattle.std.proofs.Common.{◌≡◌, ℕ, Bool, true, false, List, [], ◌++◌, length, Option, Some, None, refl, sym, subst, ap, ◌∙◌, arith}
use Rattle.std.specs.Prelude.{◌≤◌, Ok, Err, IfSome, unwrap_or, ◌+◌}
use Rattle.std.specs.Str.{bytes_eq}
use Rattle.std.specs.FinMap as finite
use mathlib.Core.List.{append-nil}
use Rattle.wp_model.specs.declared.change.Change.{Change}
use Rattle.wp_model.specs.declared.change.Change.TheVariants as change
use Rattle.wp_model.specs.declared.holder.Holder.TheVariants as holder
use Rattle.wp_model.specs.Batch.{key_of}
use Rattle.wp_text.specs.declared.reply.Reply.{Reply}
use Rattle.wp_text.specs.declared.reply.Reply.TheVariants as reply
use Rattle.wp_core.specs.Reading.{Registration}
use Rattle.wp_core.specs.Views.{Event, locked}
use Rattle.wp_core.specs.World.{Participant}
use Rattle.wp_shared.specs.Seats.{SharedState, SeatState}
use Rattle.wp_open_txns.specs.declared.error.TxnError.{TxnError}
use Rattle.wp_open_txns.specs.Actors.{transaction_in, with_key_locked}
use Rattle.wp_open_txns.specs.Calls.{locking, changing, with_changed, ComesFree, Changes}
use Rattle.wp_open_txns.specs.Txn.{OpenState, has_key, HasOpen}
use Rattle.wp_replies.specs.declared.client.LabelledSnapshot.{LabelledSnapshot}
use Rattle.wp_replies.specs.Txn.{Staged, Open}
use Rattle.wp_replies.specs.Client.{Client}
use Rattle.wp_replies.specs.After.{after_reply}
use Rattle.wp_replies.specs.Kind.{number_in, fresh_in, last_after}
use Rattle.wp_replies.specs.Progress.{Progress, heard_after, with_key, with_behind, keys_after}
use Rattle.wp_replies.specs.Replies.{Evidence, Condition}
use Rattle.wp_client.specs.declared.holdings.HeldTxn.TheVariants as held
use Rattle.wp_client.specs.Answers.{IsExplained, BreaksOff, IsAnswered}
use Rattle.wp_client.specs.Holdings.{staged_of, times_registered, registration_if, HoldsTxn, HoldsFrom}
use Rattle.wp_client.specs.Replies.{asking, refusal}
use Rattle.wp_client.proofs.Asking.{asks_change, with_room, refused_beside, refused_keeps}
use Rattle.wp_client.proofs.Fitting.{Fits, else_answers}
use Rattle.wp_client.proofs.Clients.{having}
use Rattle.wp_client.proofs.Growing.{of_one}
use Rattle.wp_client.proofs.Labels.{itself}
use Rattle.wp_client.proofs.Noting.{Came, KeepsNoted, noted_come, its_with_change}
use Rattle.wp_client.proofs.Staying.{broke_off, only_this, has_now, holds_now}
use Rattle.wp_client.proofs.Alone.Changing.{change_comes, not_full_has_room}
use Rattle.wp_client.proofs.Alone.Staged.{locked_of, changing_by, held_alone, refused_alone}

-- ---- by the change

-- no reply to it has anything of labels
pub labels_same : (c : Change) (before : List (List ℕ)) (r : Reply) → heard_after before (asking c) r ≡ before
labels_same (change.Put key value) before r = refl
labels_same (change.Del key) before r = refl

-- one without a number leaves the last one
pub last_same : (c : Change) (r : Reply) (most : ℕ) → number_in r ≡ None → (before : ℕ) → before ≤ most → last_after before (asking c) r ≤ most
last_same (change.Put key value) r most none before low = subst (λ (o : Option ℕ). unwrap_or o before ≤ most) (sym none) low
last_same (change.Del key) r most none before low = subst (λ (o : Option ℕ). unwrap_or o before ≤ most) (sym none) low

-- its key comes
held_comes : (c : Change) (before : Progress) → keys_after before (asking c) reply.Held ≡ with_behind (with_key before.keys (Some (key_of c)) before.last) (fresh_in (asking c) reply.Held)
held_comes (change.Put key value) before = refl
held_comes (change.Del key) before = refl

-- no number is fresh in it
held_unfresh : (c : Change) → fresh_in (asking c) reply.Held ≡ None
held_unfresh (change.Put key value) = refl
held_unfresh (change.Del key) = refl

-- ---- the seat, by whether the transaction had the key already

-- it is the same participant but for its past and its transaction
pub record IsBut (p q : Participant) (name : List ℕ) (events : List Event) : Type 0 where
  pub client : q.client ≡ p.client
  pub own : q.own ≡ p.own
  pub past : q.past ≡ p.past ++ events
  pub registered : q.registered ≡ p.registered
  pub direct : q.direct ≡ p.direct
  pub others : ((other : List ℕ) → bytes_eq name other ≡ false → finite.get p.transactions other ≡ None) → (other : List ℕ) → bytes_eq name other ≡ false → finite.get q.transactions other ≡ None

-- once the key is locked
pub locking_is : (b : Bool) (name key : List ℕ) (p : Participant) → IsBut p (locking b name key p) name (locked_of b name key)
unfolding locked_of
locking_is true name key p = record { client = refl; own = refl; past = sym (append-nil p.past); registered = refl; direct = refl; others = λ none. none }
locking_is false name key p = record { client = refl; own = refl; past = refl; registered = refl; direct = refl; others = λ none. only_this p.transactions name none (with_key_locked key (transaction_in p name)) }

-- and once the transaction has the change
changing_is : (b : Bool) (name : List ℕ) (batch : List Change) (c : Change) (p : Participant) → IsBut p (changing_by b name batch c p) name (locked_of b name (key_of c))
unfolding changing_by locking_is
changing_is b name batch c p = let k = locking_is b name (key_of c) p in record {
  client = k.client;
  own = k.own;
  past = k.past;
  registered = k.registered;
  direct = k.direct;
  others = λ none. only_this (locking b name (key_of c) p).transactions name (k.others none) _;
}

-- ---- rows

module _ (own : Staged) (snapshots : List LabelledSnapshot) where
  abbrev me : Client
  me = having (Open own) snapshots

  held_condition : (c : Change) (e : Evidence) (before : Progress) → Condition e before me 0 (asking c) reply.Held
  held_condition (change.Put key value) e before = tt
  held_condition (change.Del key) e before = tt

  held_explained : (c : Change) (client : List ℕ) → IsExplained client (Open own) (asking c) (Some reply.Held) (locked (key_of c) (holder.Txn own.name))
  held_explained (change.Put key value) client = rw (itself own.name, itself key) refl
  held_explained (change.Del key) client = rw (itself own.name, itself key) refl

  held_fits : (b : Bool) (c : Change) (client : List ℕ) → Fits (asking c) reply.Held [] (locked_of b own.name (key_of c)) client (Open own)
  unfolding locked_of
  held_fits true c client = record { acknowledges = refl; tables = λ before. refl; labels = λ before. labels_same c before reply.Held; log_failed = refl; log_stopped = refl; tables_failed = refl; once = omega arith; remembered = tt; explained = λ event there. absurd there }
  held_fits false c client = record { acknowledges = refl; tables = λ before. refl; labels = λ before. labels_same c before reply.Held; log_failed = refl; log_stopped = refl; tables_failed = refl; once = omega arith; remembered = tt; explained = of_one (IsExplained client (Open own) (asking c) (Some reply.Held)) (locked (key_of c) (holder.Txn own.name)) (held_explained c client) }

held_client : (txn : OpenState) (snapshots : List LabelledSnapshot) (c : Change) → having (Open (staged_of (with_changed txn c))) snapshots ≡ after_reply 0 (having (Open (staged_of txn)) snapshots) (asking c) reply.Held
held_client txn snapshots (change.Put key value) = refl
held_client txn snapshots (change.Del key) = refl

-- ---- a change

module _ {D : Type 0} (z : SharedState D) (old new : SeatState) (txn left : OpenState) (c : Change) (snapshots : List LabelledSnapshot) (has : HoldsTxn z old (held.Open txn)) where
  abbrev it : Participant
  it = old.knows.participant

  abbrev before_it : Client
  before_it = having (Open (staged_of txn)) snapshots

  abbrev after_it : Client
  after_it = having (Open (staged_of left)) snapshots

  abbrev had : Bool
  had = has_key txn.batch txn.locked (key_of c)

  held_is : IsBut it (changing txn c it) txn.name (locked_of had txn.name (key_of c))
  unfolding changing_is changing_by
  held_is = changing_is had txn.name txn.batch c it

  came : (has_key txn.batch txn.locked (key_of c) ≡ false → ComesFree z old txn (key_of c) new) → has_key txn.batch txn.locked (key_of c) ≡ false → Came old new txn.name (key_of c) (fresh_in (asking c) reply.Held)
  came comes none = let k = comes none in record {
    number = k.number;
    noted = k.noted;
    reached = k.reached;
    seen = k.seen;
    first = subst (λ (o : Option ℕ). IfSome o (λ n. k.number ≤ n)) (sym (held_unfresh c)) tt;
  }

  held_noted : Changes z old txn c (Ok tt) new left → KeepsNoted old new (Open (staged_of txn)) (Open (staged_of left)) (asking c) reply.Held
  held_noted k = subst (λ (x : OpenState). KeepsNoted old new (Open (staged_of txn)) (Open (staged_of x)) (asking c) reply.Held) (sym k.0)
      (noted_come z old new (changing txn c it) k.3 txn.name (key_of c) (staged_of txn) (staged_of (with_changed txn c)) (asking c) reply.Held refl refl (held_comes c)
      (subst (λ (o : Option ℕ). IfSome o (λ n. length it.seen ≤ n)) (sym (held_unfresh c)) tt) (its_with_change (staged_of txn) c) (came k.4))

  last_held : (before : ℕ) → before ≤ length new.knows.participant.seen → unwrap_or (fresh_in (asking c) reply.Held) before ≤ length new.knows.participant.seen
  last_held before low = subst (λ (o : Option ℕ). unwrap_or o before ≤ length new.knows.participant.seen) (sym (held_unfresh c)) low

  pub held_answers : Changes z old txn c (Ok tt) new left → IsAnswered z old new before_it after_it (asking c) reply.Held
  held_answers k = (
    let is = held_is in
        else_answers z old new _ (changing txn c it) (locked_of had txn.name (key_of c)) before_it after_it (asking c) reply.Held 0 k.3 is.client is.own is.past
        (held_fits (staged_of txn) snapshots had c it.client)
        (ap (λ (x : OpenState). having (Open (staged_of x)) snapshots) k.0 ∙ held_client txn snapshots c)
        (held_noted k) last_held
        (λ first is_first before p e agrees. with_room (asking c) (key_of c) (asks_change c) (staged_of txn) snapshots e before reply.Held (not_full_has_room txn (key_of c) has.has.few.few k.2) (held_condition (staged_of txn) snapshots c e before)),
    λ world stands only first is_first store so locks. held_alone z first old new only store so (world, stands) snapshots txn c left has locks k,
  )

  pub not_held_answers : (why : TxnError) (r : Reply) → refusal why ≡ Some r → Changes z old txn c (Err why) new left → IsAnswered z old new before_it after_it (asking c) r
  not_held_answers why r is k = (
    refused_beside z old new txn left (asking c) (key_of c) (asks_change c) snapshots has why r is k,
    λ world stands only first is_first store so locks. refused_alone z first old new only store so (world, stands) snapshots txn left (asking c) (key_of c) (asks_change c) reply.Held (change_comes snapshots store.history store.locked (staged_of txn) c) has locks why r is k,
  )

  pub not_held_breaks : (why : TxnError) → refusal why ≡ None → Changes z old txn c (Err why) new left → BreaksOff old new before_it (asking c)
  not_held_breaks why none k = broke_off z old new before_it (asking c) (refused_keeps z old new txn left (asking c) (key_of c) (asks_change c) snapshots has why none k)

  -- what the client has then
  pub held_holds : Changes z old txn c (Ok tt) new left → HoldsFrom z old new (held.Open txn) (held.Open left)
  held_holds k = let is = held_is in let next : OpenState = with_changed txn c in
      subst (λ (x : OpenState). HoldsFrom z old new (held.Open txn) (held.Open x)) (sym k.0)
      (holds_now _ z old new (changing txn c it) k.3 (held.Open txn) (held.Open next) (λ r. ap (λ (rs : List Registration). times_registered r rs + times_registered r (registration_if txn.pin)) is.registered)
      (has_now _ z old new (changing txn c it) k.3 (held.Open txn) (held.Open next) is.direct has (subst (HasOpen new) k.0 k.1) (is.others has.only)))
