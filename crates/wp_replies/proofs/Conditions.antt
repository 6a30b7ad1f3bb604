-- The rows of the table stay true as the history grows, where what was known of the other clients is known still.
use Rattle.std.proofs.Common.{◌≡◌, ℕ, zero, suc, ◌-◌, ◌≤◌, Bool, true, List, [], ◌∷◌, ◌++◌, length, take, Option, Some, None, refl, sym, ap, ◌∙◌, subst, arith, length-append, inl, inr, false}
use Rattle.std.specs.Prelude.{slice_get, IfSome}
use Rattle.std.proofs.lemmas.List.{take-append-le}
use Rattle.std.proofs.lemmas.Option.{slice_get_within}
use Rattle.wp_model.specs.declared.entry.Entry.{Entry}
use Rattle.wp_model.specs.declared.holder.Holder.{Holder}
use Rattle.wp_model.specs.declared.holder.Holder.TheVariants as holder
use Rattle.wp_model.specs.Batch.{change_to}
use Rattle.wp_model.specs.Flushed.{later_versions}
use Rattle.wp_cuts.specs.Cut.{carried_of}
use Rattle.wp_cuts.specs.Kept.{carried_versions, HasKeysAt}
use Rattle.wp_model.specs.Changed.{conflict}
use Rattle.wp_model.specs.History.{entry_at, name_at, batch_at, is_undecided, undecided, is_changed, named, newest}
use Rattle.wp_model.proofs.Entries.{batch_at_old}
use Rattle.wp_model.proofs.RowLaws.{rows_stay}
use Rattle.wp_text.specs.declared.script.Command.{Command}
use Rattle.wp_text.specs.declared.script.Command.TheVariants as command
use Rattle.wp_text.specs.declared.reply.Reply.{Reply}
use Rattle.wp_text.specs.declared.reply.Reply.TheVariants as reply
use Rattle.wp_replies.specs.Txn.{Txn, Staged, Idle, Open, Prepared}
use Rattle.wp_replies.specs.Client.{Client}
use Rattle.wp_replies.specs.After.{labels_after, after_reply}
use Rattle.wp_replies.specs.Progress.{ToldKey, Progress, progress_after}
use Rattle.wp_replies.specs.Replies.{Claim, Evidence, IsKnown, HasName, HasTaken, HasKey, WasLocked, WritesKey, WasTold, LogStopped, WasFlushed, WasBase, NoneRenewed, TablesFailed, OtherCompacted, refusal_of, IsFresh, IsLoggedAt, WasUndecided, HadKey, WasPreparedSince, IsBusy, IsNameTaken, OwnSays, ConflictsAt, KeepsKeys, PreparesAt, CommitsAt, RollsBackAt, AsksFor, AreNamed, SettlesAll, AreCrowded, IsFirstRefused, IsFlushCount, IsCompactionCount, HadBase, RenewsSomething, HasNothingToRenew, HasNothingToFlush, HasNothingToMerge, FailsFlush, FailsCompaction, FailsRenewal, IsHaltedAt, Condition, UnlessRefused}
use Rattle.wp_replies.specs.Session.{IsSession}
use Rattle.wp_replies.specs.Tables.{unflushed, after_flush, listed, after_compaction, after_renewal}
use Rattle.wp_replies.proofs.Settles.{committed_too, refused_too, asks_too, settled_fresh}

-- ---- entries

pub slice_get_more : (xs ys : List Entry) (k : ℕ) (x : Entry) → slice_get xs k ≡ Some x → slice_get (xs ++ ys) k ≡ Some x
slice_get_more [] ys k x e = absurd cc
slice_get_more (y ∷ xs) ys zero x e = e
slice_get_more (y ∷ xs) ys (suc k) x e = slice_get_more xs ys k x e

entry_more : (h more : List Entry) (n : ℕ) (e : Entry) → entry_at h n ≡ Some e → entry_at (h ++ more) n ≡ Some e
entry_more h more zero e is = absurd cc
entry_more h more (suc n) e is = slice_get_more h more n e is

pub entry_within : (h : List Entry) (n : ℕ) (e : Entry) → entry_at h n ≡ Some e → n ≤ length h
entry_within h zero e is = omega arith
entry_within h (suc n) e is = omega (arith, slice_get_within h n e is)

longer : (h more : List Entry) (n : ℕ) → n ≤ length h → n ≤ length (h ++ more)
longer h more n le = omega (arith, le, length-append h more)

-- ---- what rows say

fresh_more : (h more : List Entry) (last n : ℕ) → IsFresh h last n → IsFresh (h ++ more) last n
fresh_more h more last n f = (f.0, longer h more n f.1)

logged_more : (h more : List Entry) (last n : ℕ) (e : Entry) → IsLoggedAt h last n e → IsLoggedAt (h ++ more) last n e
logged_more h more last n e l = (l.0, entry_more h more n e l.1)

-- what is true of the first n entries
front_more : (P : List Entry → Type 0) (h more : List Entry) (n : ℕ) → n ≤ length h → P (take n h) → P (take n (h ++ more))
front_more P h more n le holds = subst P (sym (take-append-le n h more le)) holds

was_more : (h more : List Entry) (last : ℕ) (name : List ℕ) (p : ℕ) → WasUndecided h last name p → WasUndecided (h ++ more) last name p
was_more h more last name p w = record {
  at = w.at;
  fresh = fresh_more h more last w.at w.fresh;
  undecided = front_more (λ f. is_undecided f p ≡ true) h more w.at w.fresh.1 w.undecided;
  named = front_more (λ f. name_at f p ≡ name) h more w.at w.fresh.1 w.named;
}

had_more : (h more : List Entry) (from : ℕ) (name key : List ℕ) → HadKey h from name key → HadKey (h ++ more) from name key
unfolding was_more
had_more h more from name key (p, was, changed) = (p, was_more h more from name p was, front_more (λ f. is_changed (batch_at f p) key ≡ true) h more was.at was.fresh.1 changed)

conflicts_more : (h more : List Entry) (last : ℕ) (txn : Txn) (key : List ℕ) (n : ℕ) → ConflictsAt h last txn key n → ConflictsAt (h ++ more) last txn key n
conflicts_more h more last (Open own) key n (new, was) = (
  new,
  record {
    at = was.at;
    fresh = fresh_more h more last was.at was.fresh;
    pin = was.pin;
    pinned = was.pinned;
    changed = front_more (λ f. conflict f key was.pin ≡ Some n) h more was.at was.fresh.1 was.changed;
  },
)
conflicts_more h more last Idle key n k = absurd k
conflicts_more h more last (Prepared p) key n k = absurd k

keeps_more : (h more : List Entry) (last n : ℕ) (e : Entry) (own : Staged) (keys : List ToldKey) → IsLoggedAt h last n e → KeepsKeys (take (n - 1) h) own keys → KeepsKeys (take (n - 1) (h ++ more)) own keys
keeps_more h more last n e own keys l k = let within = entry_within h n e l.1 in front_more (λ f. KeepsKeys f own keys) h more (n - 1) (omega (arith, within)) k

-- the history with more entries, and with more known of the others
abbrev grown : Evidence → List Entry → (Claim → Bool) → Evidence
grown e more later = record e { history = e.history ++ more; known = later }

abbrev KnowsMore : Evidence → (Claim → Bool) → Type 0
KnowsMore e later = (claim : Claim) → IsKnown e claim → later claim ≡ true

prepared_more : (e : Evidence) (more : List Entry) (later : Claim → Bool) (last : ℕ) (name : List ℕ) → WasPreparedSince e last name → WasPreparedSince (grown e more later) last name
prepared_more e more later last name (p, was, behind) = (p, was_more e.history more last name p was, behind)

busy_more : (e : Evidence) (more : List Entry) (later : Claim → Bool) → KnowsMore e later → (last : ℕ) (key : List ℕ) (by : Holder) → IsBusy e last key by → IsBusy (grown e more later) last key by
busy_more e more later f last key (holder.Txn name) (inl had) = inl (had_more e.history more last name key had)
busy_more e more later f last key (holder.Txn name) (inr (inl claim)) = inr (inl (f (HasKey name key) claim))
busy_more e more later f last key (holder.Txn name) (inr (inr (inl (claim, has)))) = inr (inr (inl (f (HasTaken name) claim, had_more e.history more e.opened name key has)))
busy_more e more later f last key (holder.Txn name) (inr (inr (inr (claim, inl was)))) = inr (inr (inr (f (WasLocked name key) claim, inl (prepared_more e more later last name was))))
busy_more e more later f last key (holder.Txn name) (inr (inr (inr (claim, inr took)))) = inr (inr (inr (f (WasLocked name key) claim, inr (f (HasTaken name) took))))
busy_more e more later f last key (holder.Client name) claim = f (WritesKey name key) claim

taken_more : (e : Evidence) (more : List Entry) (later : Claim → Bool) → KnowsMore e later → (last : ℕ) (name : List ℕ) → IsNameTaken e last name → IsNameTaken (grown e more later) last name
taken_more e more later f last name (inl (p, was)) = inl (p, was_more e.history more last name p was)
taken_more e more later f last name (inr claim) = inr (f (HasName name) claim)

own_more : (h more : List Entry) (txn : Txn) (key : List ℕ) (said : Option (Option (List ℕ))) → OwnSays h txn key said → OwnSays (h ++ more) txn key said
own_more h more Idle key said s = s
own_more h more (Open own) key said s = s
own_more h more (Prepared p) key said s = (longer h more p s.0, ap (λ b. change_to b key) (batch_at_old h more p s.0) ∙ s.1)

value_more : (h more : List Entry) (key : List ℕ) (n : ℕ) (value : Option (List ℕ)) → n ≤ length h → newest (take n h) key ≡ value → newest (take n (h ++ more)) key ≡ value
value_more h more key n value le is = front_more (λ f. newest f key ≡ value) h more n le is

prepares_more : (h more : List Entry) (progress : Progress) (txn : Txn) (n : ℕ) → PreparesAt h progress txn n → PreparesAt (h ++ more) progress txn n
prepares_more h more progress (Open own) n (l, kept) = (logged_more h more progress.last n _ l, keeps_more h more progress.last n _ own progress.keys l kept)
prepares_more h more progress _ n l = absurd l

commits_more : (h more : List Entry) (progress : Progress) (txn : Txn) (n : ℕ) → CommitsAt h progress txn n → CommitsAt (h ++ more) progress txn n
commits_more h more progress Idle n l = absurd l
commits_more h more progress (Open own) n (l, kept) = (logged_more h more progress.last n _ l, keeps_more h more progress.last n _ own progress.keys l kept)
commits_more h more progress (Prepared p) n l = logged_more h more progress.last n _ l

rolls_more : (h more : List Entry) (last : ℕ) (txn : Txn) (n : ℕ) → RollsBackAt h last txn n → RollsBackAt (h ++ more) last txn n
rolls_more h more last (Prepared p) n (closed, (batch, undone)) = (logged_more h more last n _ closed, (batch, logged_more h more last (n - 1) _ undone))
rolls_more h more last _ n l = absurd l

-- ---- several transactions at once

pub logged_within : (h : List Entry) (last n : ℕ) (e : Entry) → IsLoggedAt h last n e → n ≤ length h
logged_within h last n e l = entry_within h n e l.1

settles_more : (h more : List Entry) (last : ℕ) (names : List (List ℕ)) (n count : ℕ) → SettlesAll h last names n count → SettlesAll (h ++ more) last names n count
settles_more h more last names n count k = record {
  all = k.all;
  some = k.some;
  published = k.published;
  behind = k.behind;
  numbers = k.numbers;
  named = front_more (λ f. AreNamed f names k.numbers) h more k.published (settled_fresh h last names n count (logged_within h last) k).0.1 k.named;
  committed = committed_too h (h ++ more) last (logged_more h more last) (was_more h more last) k.published k.numbers k.committed;
}

crowded_more : (e : Evidence) (more : List Entry) (later : Claim → Bool) (last : ℕ) (names : List (List ℕ)) (p q : ℕ) → AreCrowded e last names p q → AreCrowded (grown e more later) last names p q
crowded_more e more later last names p q k = record {
  at = k.at;
  fresh = fresh_more e.history more last k.at k.fresh;
  numbers = k.numbers;
  named = front_more (λ f. AreNamed f names k.numbers) e.history more k.at k.fresh.1 k.named;
  crowded = k.crowded;
}

refused_more : (h more : List Entry) (last : ℕ) (names : List (List ℕ)) (name : List ℕ) → IsFirstRefused h last names name → IsFirstRefused (h ++ more) last names name
refused_more h more last names name k = refused_too h (h ++ more) last (logged_more h more last) (was_more h more last) names name k

asks_more : (h more : List Entry) (last : ℕ) (txn : Txn) (c : Command) (entries : List Entry) → AsksFor h last txn c entries → AsksFor (h ++ more) last txn c entries
asks_more h more last txn c entries asks = asks_too h (h ++ more) last (logged_more h more last) (was_more h more last) txn c entries asks

-- ---- tables

flush_count_more : (e : Evidence) (more : List Entry) (later : Claim → Bool) → KnowsMore e later → (n versions : ℕ) → n ≤ length e.history → IsFlushCount e n versions → IsFlushCount (grown e more later) n versions
flush_count_more e more later f n versions le (flushed, was, count) = (flushed, f (WasFlushed flushed) was, front_more (λ h. length (later_versions h flushed) ≡ versions) e.history more n le count)

nothing_to_flush_more : (e : Evidence) (more : List Entry) (later : Claim → Bool) → KnowsMore e later → (last : ℕ) → HasNothingToFlush e last → HasNothingToFlush (grown e more later) last
nothing_to_flush_more e more later f last (le, (flushed, was, none)) = (longer e.history more last le, (flushed, f (WasFlushed flushed) was, front_more (λ h. later_versions h flushed ≡ []) e.history more last le none))

nothing_to_merge_more : (e : Evidence) (more : List Entry) (later : Claim → Bool) → KnowsMore e later → (tables : ℕ) → HasNothingToMerge e tables → HasNothingToMerge (grown e more later) tables
nothing_to_merge_more e more later f tables (inl few) = inl few
nothing_to_merge_more e more later f tables (inr claim) = inr (f OtherCompacted claim)

halted_more : (e : Evidence) (more : List Entry) (later : Claim → Bool) → KnowsMore e later → (flushed : ℕ) → IsHaltedAt e flushed → IsHaltedAt (grown e more later) flushed
halted_more e more later f flushed (is, failed) = (is, f TablesFailed failed)

flush_fails_more : (e : Evidence) (more : List Entry) (later : Claim → Bool) (last : ℕ) → FailsFlush e last → FailsFlush (grown e more later) last
flush_fails_more e more later last f = record {
  at = f.at;
  fresh = fresh_more e.history more last f.at f.fresh;
  some = front_more (λ h. 1 ≤ length (unflushed h e.installed)) e.history more f.at f.fresh.1 f.some;
  edit = front_more (λ h. IfSome e.failed.edit (λ edit. edit ≡ after_flush h e.installed)) e.history more f.at f.fresh.1 f.edit;
}

compaction_fails_more : (e : Evidence) (more : List Entry) (later : Claim → Bool) (last : ℕ) (client : Client) → FailsCompaction e last client → FailsCompaction (grown e more later) last client
compaction_fails_more e more later last client f = record {
  at = f.at;
  fresh = fresh_more e.history more last f.at f.fresh;
  two = f.two;
  live = f.live;
  own = f.own;
  from_base = f.from_base;
  edit = front_more (λ h. IfSome e.failed.edit (λ edit. edit ≡ after_compaction h (listed f.live e.base e.installed) e.installed)) e.history more f.at f.fresh.1 f.edit;
}

renewal_fails_more : (e : Evidence) (more : List Entry) (later : Claim → Bool) (last : ℕ) → FailsRenewal e last → FailsRenewal (grown e more later) last
renewal_fails_more e more later last f = record {
  at = f.at;
  fresh = fresh_more e.history more last f.at f.fresh;
  behind = f.behind;
  place = f.place;
  edit = front_more (λ h. IfSome e.failed.edit (λ edit. edit ≡ after_renewal h f.place e.installed)) e.history more f.at f.fresh.1 f.edit;
}

-- the base is within the history
pub compaction_count_more : (h more : List Entry) (base n versions : ℕ) → base ≤ length h → n ≤ length h → IsCompactionCount h base n versions → IsCompactionCount (h ++ more) base n versions
compaction_count_more h more base n versions low le count = λ keys has.
    let there : HasKeysAt h base keys = λ key value is. has key value (front_more (λ f. newest f key ≡ Some value) h more base low is) in
    let bound = count keys there in
    let front = ap (λ (f : List Entry). length (carried_versions (carried_of f))) (take-append-le base h more low) in
    let later = ap (λ (f : List Entry). length (later_versions f base)) (take-append-le n h more le) in
    omega (arith, bound, front, later)

nothing_to_renew_more : (e : Evidence) (more : List Entry) (later : Claim → Bool) → KnowsMore e later → (last : ℕ) → HasNothingToRenew e last → HasNothingToRenew (grown e more later) last
nothing_to_renew_more e more later f last (base, was, low) = (base, f (WasBase base) was, low)

had_base_more : (e : Evidence) (more : List Entry) (later : Claim → Bool) → KnowsMore e later → (progress : Progress) (at base : ℕ) → HadBase e progress at base → HadBase (grown e more later) progress at base
had_base_more e more later f progress at base k = (f (WasBase base) k.0, k.1, k.2, f (NoneRenewed base at) k.3)

renews_more : (e : Evidence) (more : List Entry) (later : Claim → Bool) (c : Command) → RenewsSomething e c → RenewsSomething (grown e more later) c
renews_more e more later command.Renew below = let size = length-append e.history more in omega (arith, below, size)
renews_more e more later other below = tt

-- ---- the client

-- the snapshots change as the labels do
pub snapshots_after : (p : ℕ) (client : Client) (c : Command) (r : Reply) → (after_reply p client c r).snapshots ≡ labels_after client.snapshots c r
snapshots_after p client (command.Put key value) reply.Held = refl
snapshots_after p client (command.Del key) reply.Held = refl
snapshots_after p client (command.Lock key) (reply.Got value n) = refl
snapshots_after p client (command.Lock key) (reply.Missing n) = refl
snapshots_after p client (command.Begin name) reply.Begun = refl
snapshots_after p client (command.Take name) reply.Took = refl
snapshots_after p client (command.Snap label) (reply.Snapped n) = refl
snapshots_after p client (command.Free label) reply.Freed = refl
snapshots_after p client c (reply.Prepared n) = refl
snapshots_after p client c r = refl

-- ---- the rows

condition_more : (e : Evidence) (more : List Entry) (later : Claim → Bool) → e.base ≤ length e.history → KnowsMore e later → (progress : Progress) (client : Client) (p : ℕ) (c : Command) (r : Reply) → Condition e progress client p c r → Condition (grown e more later) progress client p c r
condition_more e more later within f progress client p c (reply.Full published most) k = (k.0, fresh_more e.history more progress.last published k.1, (k.2.0, had_base_more e more later f progress published k.2.0 k.2.1, k.2.2), k.3)
condition_more e more later within f progress client p c reply.FaultLog k = (asks_more e.history more progress.last client.txn c e.failed.entries k.0, renews_more e more later c k.1)
condition_more e more later within f progress client p c (reply.Stopped n) k = (k.0, fresh_more e.history more progress.last n k.1, f (LogStopped n) k.2)
condition_more e more later within f progress client p (command.Put key value) (reply.Put n) k = (k.0, logged_more e.history more progress.last n _ k.1)
condition_more e more later within f progress client p (command.Put key value) reply.Held k = k
condition_more e more later within f progress client p (command.Put key value) (reply.Busy holder) k = (k.0, busy_more e more later f progress.last key holder k.1)
condition_more e more later within f progress client p (command.Put key value) (reply.Conflict n) k = conflicts_more e.history more progress.last client.txn key n k
condition_more e more later within f progress client p (command.Del key) (reply.Del n) k = (k.0, logged_more e.history more progress.last n _ k.1)
condition_more e more later within f progress client p (command.Del key) reply.Held k = k
condition_more e more later within f progress client p (command.Del key) (reply.Busy holder) k = (k.0, busy_more e more later f progress.last key holder k.1)
condition_more e more later within f progress client p (command.Del key) (reply.Conflict n) k = conflicts_more e.history more progress.last client.txn key n k
condition_more e more later within f progress client p (command.Get key) (reply.Got value n) k = (own_more e.history more client.txn key _ k.0, fresh_more e.history more progress.last n k.1, value_more e.history more key n _ k.1.1 k.2)
condition_more e more later within f progress client p (command.Get key) (reply.Missing n) k = (own_more e.history more client.txn key _ k.0, fresh_more e.history more progress.last n k.1, value_more e.history more key n _ k.1.1 k.2)
condition_more e more later within f progress client p (command.Get key) (reply.GotOwn value) k = own_more e.history more client.txn key _ k
condition_more e more later within f progress client p (command.Get key) reply.MissingOwn k = own_more e.history more client.txn key _ k
condition_more e more later within f progress client p (command.GetAt key label) (reply.Got value n) k = ((k.0.0, longer e.history more n k.0.1), value_more e.history more key n _ k.0.1 k.1)
condition_more e more later within f progress client p (command.GetAt key label) (reply.Missing n) k = ((k.0.0, longer e.history more n k.0.1), value_more e.history more key n _ k.0.1 k.1)
condition_more e more later within f progress client p (command.Scan from to) (reply.Rows pairs n) k = (k.0, fresh_more e.history more progress.last n k.1, k.2 ∙ sym (rows_stay e.history more false from to n k.1.1))
condition_more e more later within f progress client p (command.ScanAt from to label) (reply.Rows pairs n) k = (k.0, (k.1.0, longer e.history more n k.1.1), k.2 ∙ sym (rows_stay e.history more false from to n k.1.1))
condition_more e more later within f progress client p (command.Snap label) (reply.Snapped n) k = fresh_more e.history more progress.last n k
condition_more e more later within f progress client p (command.Free label) reply.Freed k = k
condition_more e more later within f progress client p (command.Begin name) reply.Begun k = k
condition_more e more later within f progress client p (command.Begin name) (reply.Taken other) k = (k.0, taken_more e more later f progress.last name k.1)
condition_more e more later within f progress client p command.Pin (reply.Pinned n) k = fresh_more e.history more progress.last n k
condition_more e more later within f progress client p (command.Lock key) (reply.Got value n) k = (own_more e.history more client.txn key _ k.0, fresh_more e.history more progress.last n k.1, value_more e.history more key n _ k.1.1 k.2)
condition_more e more later within f progress client p (command.Lock key) (reply.Missing n) k = (own_more e.history more client.txn key _ k.0, fresh_more e.history more progress.last n k.1, value_more e.history more key n _ k.1.1 k.2)
condition_more e more later within f progress client p (command.Lock key) (reply.GotOwn value) k = own_more e.history more client.txn key _ k
condition_more e more later within f progress client p (command.Lock key) reply.MissingOwn k = own_more e.history more client.txn key _ k
condition_more e more later within f progress client p (command.Lock key) (reply.Busy holder) k = (k.0, busy_more e more later f progress.last key holder k.1)
condition_more e more later within f progress client p (command.Lock key) (reply.Conflict n) k = conflicts_more e.history more progress.last client.txn key n k
condition_more e more later within f progress client p command.Prepare (reply.Prepared n) k = prepares_more e.history more progress client.txn n k
condition_more e more later within f progress client p command.Commit (reply.Committed n) k = commits_more e.history more progress client.txn n k
condition_more e more later within f progress client p command.Rollback reply.Dropped k = k
condition_more e more later within f progress client p command.Rollback (reply.RolledBack n) k = rolls_more e.history more progress.last client.txn n k
condition_more e more later within f progress client p command.Leave reply.Left k = k
condition_more e more later within f progress client p (command.Take name) reply.Took k = was_more e.history more progress.last name p k
condition_more e more later within f progress client p (command.Take name) (reply.Unknown other n) k = (k.0, fresh_more e.history more progress.last n k.1, front_more (λ f. named f name ≡ None) e.history more n k.1.1 k.2)
condition_more e more later within f progress client p (command.Take name) (reply.InUse other) k = (k.0, f (HasName name) k.1)
condition_more e more later within f progress client p (command.Settle names) (reply.Settled n count) k = (k.0, settles_more e.history more progress.last names n count k.1)
condition_more e more later within f progress client p (command.Settle names) (reply.Crowded first second) k = (k.0, crowded_more e more later progress.last names first second k.1)
condition_more e more later within f progress client p (command.Settle names) (reply.Unknown name n) k = (k.0, refused_more e.history more progress.last names name k.1, fresh_more e.history more progress.last n k.2, front_more (λ f. named f name ≡ None) e.history more n k.2.1 k.3)
condition_more e more later within f progress client p (command.Settle names) (reply.InUse name) k = (k.0, refused_more e.history more progress.last names name k.1, f (HasName name) k.2)
condition_more e more later within f progress client p command.Flush (reply.Flushed n versions) k = (fresh_more e.history more progress.last n k.0, k.1, flush_count_more e more later f n versions k.0.1 k.2)
condition_more e more later within f progress client p command.Flush reply.Nothing k = nothing_to_flush_more e more later f progress.last k
condition_more e more later within f progress client p command.Flush (reply.Halted flushed) k = halted_more e more later f flushed k
condition_more e more later within f progress client p command.Flush reply.FaultTables k = flush_fails_more e more later progress.last k
condition_more e more later within f progress client p command.Compact (reply.Compacted n versions) k = (fresh_more e.history more progress.last n k.0, compaction_count_more e.history more e.base n versions within k.0.1 k.1)
condition_more e more later within f progress client p command.Compact reply.Nothing k = nothing_to_merge_more e more later f progress.tables k
condition_more e more later within f progress client p command.Compact (reply.Halted flushed) k = halted_more e more later f flushed k
condition_more e more later within f progress client p command.Compact reply.FaultTables k = compaction_fails_more e more later progress.last client k
condition_more e more later within f progress client p command.Renew (reply.Renewed n carried) k = (fresh_more e.history more progress.last n k.0, k.1, front_more (λ h. carried ≡ length (undecided h)) e.history more n k.0.1 k.2)
condition_more e more later within f progress client p command.Renew reply.Nothing k = nothing_to_renew_more e more later f progress.last k
condition_more e more later within f progress client p command.Renew (reply.Halted flushed) k = halted_more e more later f flushed k
condition_more e more later within f progress client p command.Renew reply.FaultTables k = renewal_fails_more e more later progress.last k
condition_more e more later within f progress client p (command.Tell label) (reply.Told n) k = fresh_more e.history more progress.last n k
condition_more e more later within f progress client p (command.Hear label) (reply.Heard n) k = (fresh_more e.history more progress.last n k.0, f (WasTold label n) k.1)
condition_more e more later within f progress client p (command.Hear label) (reply.Silent other) k = k
condition_more e more later within f progress client p c r k = absurd k

pub unless_refused_more : (refusal : Option Reply) (r : Reply) (A B : Type 0) → (A → B) → UnlessRefused refusal r A → UnlessRefused refusal r B
unless_refused_more None r A B f a = f a
unless_refused_more (Some refusal) r A B f is = is

-- a session over a history that grows, with more known of the others
pub session_more : (e : Evidence) (more : List Entry) (later : Claim → Bool) → e.base ≤ length e.history → KnowsMore e later → (progress : Progress) (client : Client) (cs : List Command) (rs : List Reply) → IsSession e progress client cs rs → IsSession (grown e more later) progress client cs rs
session_more e more later within f progress client [] [] s = tt
session_more e more later within f progress client [] (r ∷ rs) s = absurd s
session_more e more later within f progress client (c ∷ cs) [] s = absurd s
session_more e more later within f progress client (c ∷ cs) (r ∷ rs) (p, allowed, rest) =
    (p, unless_refused_more (refusal_of client c) r _ _ (condition_more e more later within f progress client p c r) allowed, session_more e more later within f (progress_after progress c r) (after_reply p client c r) cs rs rest)
