-- Replies that are due at moments of the history, one after another, are a session.
use Rattle.std.proofs.Common.{◌≡◌, ℕ, ◌+◌, ◌-◌, ◌<◌, ◌≤◌, ◌⊎◌, Bool, true, false, true≢false, List, [], ◌∷◌, ◌++◌, length, take, drop, Option, Some, None, refl, sym, ap, ◌∙◌, subst, append_assoc, length-append, arith, inl, inr}
use Rattle.std.specs.Prelude.{IfSome, is_some, nat_le, unwrap_or}
use Rattle.std.specs.FinMap as map
use Rattle.std.specs.List.{AllByRecursion, find}
use Rattle.std.specs.Option.{option_map}
use Rattle.std.proofs.lemmas.Bool.{cases_Bool, and_parts}
use Rattle.std.proofs.lemmas.List.{take-append-drop}
use Rattle.wp_model.specs.declared.change.Change.{Change}
use Rattle.wp_model.specs.declared.change.Change.TheVariants as change
use Rattle.wp_model.specs.declared.entry.Entry.{Entry}
use Rattle.wp_model.specs.declared.entry.Entry.TheVariants as entry
use Rattle.wp_model.specs.declared.holder.Holder.{Holder}
use Rattle.wp_model.specs.declared.holder.Holder.TheVariants as holder
use Rattle.wp_model.specs.Batch.{key_of, change_to}
use Rattle.wp_model.specs.Changed.{conflict}
use Rattle.wp_model.specs.History.{entry_at, name_at, batch_at, is_undecided, named, holder_of, value_at}
use Rattle.wp_model.specs.Legal.{prior}
use Rattle.wp_model.specs.LockState.{is_among_keys}
use Rattle.wp_text.specs.declared.script.Command.{Command}
use Rattle.wp_text.specs.declared.script.Command.TheVariants as command
use Rattle.wp_text.specs.declared.reply.Reply.{Reply}
use Rattle.wp_text.specs.declared.reply.Reply.TheVariants as reply
use Rattle.wp_replies.specs.declared.client.TheConstants.{MOST_SNAPSHOTS}
use Rattle.wp_replies.specs.Txn.{Txn, Staged, Idle, Open, Prepared, is_its_key, LockedKeys}
use Rattle.wp_replies.specs.declared.plan.Plan.{Plan}
use Rattle.wp_replies.specs.declared.plan.Plan.TheVariants.{Say, Log, RollBack}
use Rattle.wp_replies.specs.Alike.{AreFrom}
use Rattle.wp_replies.specs.Client.{Client, AreWithin, number_of, pins_of, own_batch, has_no_room}
use Rattle.wp_replies.specs.After.{with_staged, with_locked_key, with_pin, labels_after}
use Rattle.wp_replies.specs.Kind.{is_logged, fresh_in}
use Rattle.wp_replies.specs.Progress.{Progress, knows_label, progress_after}
use Rattle.wp_replies.specs.Replies.{WasLocked, WasTold, Evidence, IsKnown, refusal_of, refuses_change, refuses_lock, IsLoggedAt, WasUndecided, IsBusy, TxnIsOpen, HasNotKey, ConflictsAt, KeepsKeys, TxnIsWithin, OwnSays, needed, AsksFor, unless_labelled, unless_idle, unless_open, if_idle, unless_prepared, PreparesAt, CommitsAt, RollsBackAt, UnlessRefused, refuses_scan}
use Rattle.wp_replies.specs.Plan.{asked_of, next, holds_beyond, holder_then, busy_or, unless_busy, conflict_or, unless_changed, with_key_plan, change_plan, read_or_own, pin_plan, lock_plan, read_reply, get_reply, get_at_reply, free_reply, begin_reply, begin_plan, prepare_plan, commit_plan, rollback_plan, leave_plan, take_reply, take_plan, rows_reply, scan_plan, scan_at_plan}
use Rattle.wp_replies.specs.Due.{plan_in, heard, reply_to, due, taken, client_after}
use Rattle.wp_replies.specs.Moments.{AreLockedBy, TxnIsKept, AreDueFrom}
use Rattle.wp_replies.specs.Session.{IsSession}
use Rattle.wp_model.proofs.Found.{found_holder, found_named}
use Rattle.wp_model.proofs.Entries.{undecided_within, batch_at_old}
use Rattle.wp_model.specs.Rows.{rows}
use Rattle.wp_model.proofs.RowLaws.{same_rows}
use Rattle.wp_replies.proofs.Within.{within_same, within_filter, within_more, number_within}
use Rattle.wp_replies.proofs.Conditions.{snapshots_after}
use Rattle.wp_replies.proofs.Scenes.{entry_in_front, next_entry, value_in_front, Scene, front, was_in, store_in, ConditionOf, IsAllowed, front_size, front_fresh, say_refused, say_allowed, board_allowed, may_fail, log_allowed, entries_in, one_allowed}
use Rattle.wp_replies.proofs.BelowAll.{from_same, from_filter, pinned_late}
use Rattle.wp_replies.proofs.DueSettles.{settle_allowed}
use Rattle.wp_replies.proofs.DueTables.{flush_allowed, compact_allowed, renew_allowed}

-- ---- keys

option_cases : {A : Type 0} (o : Option A) → (o ≡ None) ⊎ ((a : A) × (o ≡ Some a))
option_cases None = inl refl
option_cases (Some a) = inr (a, refl)

-- the first of these that passes the test has what all have
found_has : (P : LockedKeys → Type 0) (test : LockedKeys → Bool) (xs : List LockedKeys) (x : LockedKeys) → AllByRecursion P xs → find test xs ≡ Some x → P x × (test x ≡ true)
found_has P test [] x all is = absurd cc
found_has P test (y ∷ xs) x all is =
    elim (cases_Bool (test y)) [
      | inl so ↦ let here : Some y ≡ Some x = rw so at is in let same : y ≡ x = cc in subst (λ z. P z × (test z ≡ true)) same (all.0, so)
      | inr other ↦ found_has P test xs x all.1 (rw other at is)
    ]

abbrev locked_in : {client : Client} {c : Command} {answer : Reply} → Scene client c answer → List LockedKeys
locked_in s = s.given.devices.locked

busy_in : {client : Client} {c : Command} {answer : Reply} (s : Scene client c answer) (key : List ℕ) (p : ℕ) → holder_then (front s) (locked_in s) key ≡ Some p → IsBusy s.evidence s.progress.last key (holder.Txn (name_at (front s) p))
busy_in s key p is = by (holder_of (front s) key) refl
  where
    was : is_undecided (front s) p ≡ true → WasUndecided s.evidence.history s.progress.last (name_at (front s) p) p
    was undecided =
        let fresh = front_fresh s in
        record { at = s.given.before; fresh = (omega (arith, fresh.0, front_size s), omega (arith, fresh.1, front_size s)); undecided = undecided; named = refl }

    beyond : (found : Option LockedKeys) → find (holds_beyond (front s) key) (locked_in s) ≡ found → option_map (λ x. x.number) found ≡ Some p → IsBusy s.evidence s.progress.last key (holder.Txn (name_at (front s) p))
    beyond None found number = absurd cc
    beyond (Some x) found number =
        let got = found_has (AreLockedBy s.evidence s.given.before) (holds_beyond (front s) key) (locked_in s) x s.given.known.locked found in
        let holds = and_parts (is_undecided (front s) x.number) (is_among_keys x.keys key) got.1 in
        let same : x.number ≡ p = cc in
        inr (inr (inr (subst (λ n. IsKnown s.evidence (WasLocked (name_at (front s) n) key)) same (got.0.1 key holds.1), inl (p, was (subst (λ n. is_undecided (front s) n ≡ true) same holds.0), subst (λ n. s.evidence.opened < n) same got.0.0))))

    by : (first : Option ℕ) → holder_of (front s) key ≡ first → IsBusy s.evidence s.progress.last key (holder.Txn (name_at (front s) p))
    by None first = beyond (find (holds_beyond (front s) key) (locked_in s)) refl (rw first at is)
    by (Some q) first =
        let same : holder_of (front s) key ≡ Some p = rw first (rw first at is) in
        let found = found_holder (front s) key p same in
        inl (p, was found.0, found.1)

unless_busy_allowed : {client : Client} {c : Command} {answer : Reply} (s : Scene client c answer) (key : List ℕ) (other : Plan) → plan_in (store_in s) client c ≡ unless_busy (front s) (locked_in s) key other → refusal_of client c ≡ None
    → ((by : Holder) → IsBusy s.evidence s.progress.last key by → ConditionOf s (reply.Busy by)) → (plan_in (store_in s) client c ≡ other → IsAllowed s) → IsAllowed s
unless_busy_allowed s key other is free busy rest =
    elim (option_cases (holder_then (front s) (locked_in s) key)) [
      | inl none ↦ rest (is ∙ ap (λ (o : Option ℕ). busy_or (front s) o other) none)
      | inr found ↦ say_allowed s (reply.Busy (holder.Txn (name_at (front s) found.0))) (is ∙ ap (λ (o : Option ℕ). busy_or (front s) o other) found.1) refl free (busy _ (busy_in s key found.0 found.1))
    ]

-- a key comes to the open transaction, or is refused
key_allowed : {client : Client} {c : Command} {answer : Reply} (s : Scene client c answer) (own : Staged) (key : List ℕ) (made : Reply) → client.txn ≡ Open own
    → plan_in (store_in s) client c ≡ with_key_plan (front s) (locked_in s) own key made → may_fail made ≡ false → refusal_of client c ≡ None
    → ((by : Holder) → HasNotKey client.txn key → IsBusy s.evidence s.progress.last key by → ConditionOf s (reply.Busy by))
    → ((n : ℕ) → ConflictsAt s.evidence.history s.progress.last client.txn key n → ConditionOf s (reply.Conflict n))
    → ConditionOf s made → IsAllowed s
key_allowed {client = client} {c = c} s own key made opened plan_is plain free busy conflicts condition =
    elim (cases_Bool (is_its_key own key)) [
      | inl its ↦ say_allowed s made (rw its at plan_is) plain free condition
      | inr new ↦ unless_busy_allowed s key (unless_changed (front s) own.pin key (Say made)) (rw new at plan_is) free (λ by is. busy by (subst (λ (t : Txn). HasNotKey t key) (sym opened) new) is) (λ is. on_pin new own.pin refl is)
    ]
  where
    on_last : is_its_key own key ≡ false → (pin : ℕ) → own.pin ≡ Some pin → (last : Option ℕ) → conflict (front s) key pin ≡ last → plan_in (store_in s) client c ≡ conflict_or last (Say made) → IsAllowed s
    on_last new pin is None none says = say_allowed s made says plain free condition
    on_last new pin is (Some n) changed says =
        let fresh = front_fresh s in
        say_allowed s (reply.Conflict n) says refl free (conflicts n (subst (λ (t : Txn). ConflictsAt s.evidence.history s.progress.last t key n) (sym opened)
        (new, record { at = s.given.before; fresh = (omega (arith, fresh.0, front_size s), omega (arith, fresh.1, front_size s)); pin = pin; pinned = is; changed = changed })))

    on_pin : is_its_key own key ≡ false → (pin : Option ℕ) → own.pin ≡ pin → plan_in (store_in s) client c ≡ unless_changed (front s) pin key (Say made) → IsAllowed s
    on_pin new None is says = say_allowed s made says plain free condition
    on_pin new (Some pin) is says = on_last new pin is (conflict (front s) key pin) refl says

-- ---- put, del

change_allowed : {client : Client} {c : Command} {answer : Reply} (s : Scene client c answer) (change : Change) (made : Reply)
    → plan_in (store_in s) client c ≡ change_plan (front s) (locked_in s) client.txn change made → refusal_of client c ≡ refuses_change client.txn (key_of change) → (client.txn ≡ Idle → needed client.txn c ≡ 1) → (client.txn ≡ Idle → AsksFor s.evidence.history s.progress.last client.txn c (entry.Write (change ∷ []) ∷ [])) → is_logged made ≡ true
    → (client.txn ≡ Idle → IsLoggedAt s.evidence.history s.progress.last (next (front s)) (entry.Write (change ∷ [])) → ConditionOf s made)
    → ((by : Holder) → HasNotKey client.txn (key_of change) → IsBusy s.evidence s.progress.last (key_of change) by → ConditionOf s (reply.Busy by))
    → ((n : ℕ) → ConflictsAt s.evidence.history s.progress.last client.txn (key_of change) n → ConditionOf s (reply.Conflict n))
    → (TxnIsOpen client.txn → ConditionOf s reply.Held) → IsAllowed s
change_allowed {client = client} {c = c} s change made plan_is refusal_is needs asks logs condition busy conflicts held = by client.txn refl
  where
    by : (txn : Txn) → client.txn ≡ txn → IsAllowed s
    by Idle is =
        let asked : plan_in (store_in s) client c ≡ change_plan (front s) (locked_in s) Idle change made = plan_is ∙ ap (λ (t : Txn). change_plan (front s) (locked_in s) t change made) is in
        let free : refusal_of client c ≡ None = refusal_is ∙ ap (λ (t : Txn). refuses_change t (key_of change)) is in
        unless_busy_allowed s (key_of change) (Log (entry.Write (change ∷ [])) made) asked free (λ by busy_is. busy by (subst (λ (t : Txn). HasNotKey t (key_of change)) (sym is) tt) busy_is) (λ log. one_allowed s (entry.Write (change ∷ [])) made log logs free (needs is) (asks is) (condition is))
    by (Open own) is =
        let asked : plan_in (store_in s) client c ≡ change_plan (front s) (locked_in s) (Open own) change made = plan_is ∙ ap (λ (t : Txn). change_plan (front s) (locked_in s) t change made) is in
        let refuses : refusal_of client c ≡ refuses_change (Open own) (key_of change) = refusal_is ∙ ap (λ (t : Txn). refuses_change t (key_of change)) is in
        elim (cases_Bool (has_no_room own (key_of change))) [
          | inl full ↦ say_refused s reply.TooMany (rw full at asked) refl (rw full at refuses)
          | inr room ↦ key_allowed s own (key_of change) reply.Held is (rw room at asked) refl (rw room at refuses) busy conflicts (held (subst TxnIsOpen (sym is) tt))
        ]
    by (Prepared p) is =
        say_refused s reply.State (plan_is ∙ ap (λ (t : Txn). change_plan (front s) (locked_in s) t change made) is) refl (refusal_is ∙ ap (λ (t : Txn). refuses_change t (key_of change)) is)

-- ---- get

own_in : {client : Client} {c : Command} {answer : Reply} (s : Scene client c answer) (key : List ℕ) → OwnSays s.evidence.history client.txn key (change_to (own_batch (front s) client.txn) key)
own_in {client = client} s key = by client.txn s.txn
  where
    by : (txn : Txn) → TxnIsWithin s.from txn → OwnSays s.evidence.history txn key (change_to (own_batch (front s) txn) key)
    by Idle within = (tt, refl)
    by (Open own) within = (tt, refl)
    by (Prepared p) within =
        let published : p ≤ length (front s) = omega (arith, front_size s, within, s.given.earlier) in
        let same : batch_at s.evidence.history p ≡ batch_at (front s) p = subst (λ (xs : List Entry). batch_at xs p ≡ batch_at (front s) p) (take-append-drop s.given.before s.evidence.history) (batch_at_old (front s) (drop s.given.before s.evidence.history) p published) in
        (omega (arith, within, s.given.earlier, s.given.grows, s.given.within), ap (λ (b : List Change). change_to b key) same)

get_allowed : {client : Client} {answer : Reply} (key : List ℕ) (s : Scene client (command.Get key) answer) → IsAllowed s
get_allowed {client = client} key s = by (change_to (own_batch (front s) client.txn) key) refl
  where
    by_value : (value : Option (List ℕ)) → value_at (front s) key (length (front s)) ≡ value → change_to (own_batch (front s) client.txn) key ≡ None → IsAllowed s
    by_value value is none =
        let own : OwnSays s.evidence.history client.txn key None = subst (OwnSays s.evidence.history client.txn key) none (own_in s key) in
        let here : value_at s.evidence.history key (length (front s)) ≡ value = sym (value_in_front s.evidence.history key (length (front s)) s.given.before (omega (arith, front_size s))) ∙ is in
        let says : plan_in (store_in s) client (command.Get key) ≡ Say (read_reply value (length (front s))) = ap (λ (o : Option (Option (List ℕ))). Say (get_reply (front s) o key)) none ∙ ap (λ (v : Option (List ℕ)). Say (read_reply v (length (front s)))) is in
        read value says own here
      where
        read : (v : Option (List ℕ)) → plan_in (store_in s) client (command.Get key) ≡ Say (read_reply v (length (front s))) → OwnSays s.evidence.history client.txn key None → value_at s.evidence.history key (length (front s)) ≡ v → IsAllowed s
        read (Some v) says own here = say_allowed s (reply.Got v (length (front s))) says refl refl (own, front_fresh s, here)
        read None says own here = say_allowed s (reply.Missing (length (front s))) says refl refl (own, front_fresh s, here)

    by : (own : Option (Option (List ℕ))) → change_to (own_batch (front s) client.txn) key ≡ own → IsAllowed s
    by (Some (Some value)) is = say_allowed s (reply.GotOwn value) (ap (λ (o : Option (Option (List ℕ))). Say (get_reply (front s) o key)) is) refl refl (subst (OwnSays s.evidence.history client.txn key) is (own_in s key))
    by (Some None) is = say_allowed s reply.MissingOwn (ap (λ (o : Option (Option (List ℕ))). Say (get_reply (front s) o key)) is) refl refl (subst (OwnSays s.evidence.history client.txn key) is (own_in s key))
    by None is = by_value (value_at (front s) key (length (front s))) refl is

get_at_allowed : {client : Client} {answer : Reply} (key label : List ℕ) (s : Scene client (command.GetAt key label) answer) → IsAllowed s
get_at_allowed {client = client} key label s = by (number_of client.snapshots label) refl
  where
    read : (n : ℕ) (value : Option (List ℕ)) → plan_in (store_in s) client (command.GetAt key label) ≡ Say (read_reply value n) → number_of client.snapshots label ≡ Some n → n ≤ length s.evidence.history → value_at s.evidence.history key n ≡ value → IsAllowed s
    read n (Some v) says is within here = say_allowed s (reply.Got v n) says refl (ap (λ (o : Option ℕ). unless_labelled o label) is) ((is, within), here)
    read n None says is within here = say_allowed s (reply.Missing n) says refl (ap (λ (o : Option ℕ). unless_labelled o label) is) ((is, within), here)

    by : (number : Option ℕ) → number_of client.snapshots label ≡ number → IsAllowed s
    by None is = say_refused s (reply.UnknownSnapshot label) (ap (λ (o : Option ℕ). Say (get_at_reply (front s) o key label)) is) refl (ap (λ (o : Option ℕ). unless_labelled o label) is)
    by (Some n) is =
        let low : n ≤ s.from = subst (λ (o : Option ℕ). IfSome o (λ m. m ≤ s.from)) is (number_within s.from client.snapshots label s.snapshots) in
        read n (value_at (front s) key n) (ap (λ (o : Option ℕ). Say (get_at_reply (front s) o key label)) is) is (omega (arith, low, s.given.earlier, s.given.grows, s.given.within)) (sym (value_in_front s.evidence.history key n s.given.before (omega (arith, low, s.given.earlier))))

-- ---- scans

module _ {client : Client} {command_ : Command} {answer : Reply} (from to : List ℕ) (s : Scene client command_ answer) where
  rows_in_front : (n : ℕ) → n ≤ length (front s) → rows (front s) from to n ≡ rows s.evidence.history from to n
  rows_in_front n low = same_rows (front s) s.evidence.history n (λ key. value_in_front s.evidence.history key n s.given.before (omega (arith, low, front_size s))) false from to

scan_allowed : {client : Client} {answer : Reply} (from to : List ℕ) (s : Scene client (command.Scan from to) answer) → IsAllowed s
scan_allowed {client = client} from to s = by client.txn refl
  where
    n : ℕ
    n = length (front s)

    by : (txn : Txn) → client.txn ≡ txn → IsAllowed s
    by Idle is = say_allowed s (rows_reply (front s) from to n) (ap (λ (txn : Txn). scan_plan (front s) txn from to) is) refl (ap unless_idle is) (is, front_fresh s, rows_in_front from to s n (omega arith))
    by (Open own) is = say_refused s reply.State (ap (λ (txn : Txn). scan_plan (front s) txn from to) is) refl (ap unless_idle is)
    by (Prepared p) is = say_refused s reply.State (ap (λ (txn : Txn). scan_plan (front s) txn from to) is) refl (ap unless_idle is)

scan_at_allowed : {client : Client} {answer : Reply} (from to label : List ℕ) (s : Scene client (command.ScanAt from to label) answer) → IsAllowed s
scan_at_allowed {client = client} from to label s = by client.txn refl (number_of client.snapshots label) refl
  where
    said : (txn : Txn) (number : Option ℕ) → client.txn ≡ txn → number_of client.snapshots label ≡ number → plan_in (store_in s) client (command.ScanAt from to label) ≡ scan_at_plan (front s) txn number from to label
    said txn number idle is = λ i. scan_at_plan (front s) (idle i) (is i) from to label

    refuses : (txn : Txn) (number : Option ℕ) → client.txn ≡ txn → number_of client.snapshots label ≡ number → refusal_of client (command.ScanAt from to label) ≡ refuses_scan txn number label
    refuses txn number idle is = λ i. refuses_scan (idle i) (is i) label

    by : (txn : Txn) → client.txn ≡ txn → (number : Option ℕ) → number_of client.snapshots label ≡ number → IsAllowed s
    by Idle idle None is = say_refused s (reply.UnknownSnapshot label) (said Idle None idle is) refl (refuses Idle None idle is)
    by Idle idle (Some n) is =
        let low : n ≤ s.from = subst (λ (o : Option ℕ). IfSome o (λ m. m ≤ s.from)) is (number_within s.from client.snapshots label s.snapshots) in
        say_allowed s (rows_reply (front s) from to n) (said Idle (Some n) idle is) refl (refuses Idle (Some n) idle is)
        (idle, (is, omega (arith, low, s.given.earlier, s.given.grows, s.given.within)), rows_in_front from to s n (omega (arith, low, s.given.earlier, front_size s)))
    by (Open own) txn number is = say_refused s reply.State (said (Open own) number txn is) refl (refuses (Open own) number txn is)
    by (Prepared p) prepared number is = say_refused s reply.State (said (Prepared p) number prepared is) refl (refuses (Prepared p) number prepared is)

-- ---- pin, lock

pin_allowed : {client : Client} {answer : Reply} (s : Scene client command.Pin answer) → IsAllowed s
pin_allowed {client = client} s = by client.txn refl
  where
    by : (txn : Txn) → client.txn ≡ txn → IsAllowed s
    by Idle is = say_refused s reply.State (ap (pin_plan (front s)) is) refl (ap unless_open is)
    by (Open own) is = say_allowed s (reply.Pinned (length (front s))) (ap (pin_plan (front s)) is) refl (ap unless_open is) (front_fresh s)
    by (Prepared p) is = say_refused s reply.State (ap (pin_plan (front s)) is) refl (ap unless_open is)

lock_allowed : {client : Client} {answer : Reply} (key : List ℕ) (s : Scene client (command.Lock key) answer) → IsAllowed s
lock_allowed {client = client} key s = by client.txn refl
  where
    says : (own : Staged) → client.txn ≡ Open own → (said : Option (Option (List ℕ))) → change_to own.batch key ≡ said → OwnSays s.evidence.history client.txn key said
    says own is said change = subst (λ (t : Txn). OwnSays s.evidence.history t key said) (sym is) (tt, change)

    read : (own : Staged) → client.txn ≡ Open own → (value : Option (List ℕ)) → value_at (front s) key (length (front s)) ≡ value → change_to own.batch key ≡ None → refusal_of client (command.Lock key) ≡ None
        → plan_in (store_in s) client (command.Lock key) ≡ with_key_plan (front s) (locked_in s) own key (read_reply value (length (front s))) → IsAllowed s
    read own is (Some value) there none free plan_is =
        let here : value_at s.evidence.history key (length (front s)) ≡ Some value = sym (value_in_front s.evidence.history key (length (front s)) s.given.before (omega (arith, front_size s))) ∙ there in
        key_allowed s own key (reply.Got value (length (front s))) is plan_is refl free (λ by new busy. (new, busy)) (λ n conflicts. conflicts) (says own is None none, front_fresh s, here)
    read own is None there none free plan_is =
        let here : value_at s.evidence.history key (length (front s)) ≡ None = sym (value_in_front s.evidence.history key (length (front s)) s.given.before (omega (arith, front_size s))) ∙ there in
        key_allowed s own key (reply.Missing (length (front s))) is plan_is refl free (λ by new busy. (new, busy)) (λ n conflicts. conflicts) (says own is None none, front_fresh s, here)

    on_own : (own : Staged) → client.txn ≡ Open own → (said : Option (Option (List ℕ))) → change_to own.batch key ≡ said → refusal_of client (command.Lock key) ≡ None
        → plan_in (store_in s) client (command.Lock key) ≡ read_or_own (front s) (locked_in s) own said key → IsAllowed s
    on_own own is (Some (Some value)) change free plan_is = say_allowed s (reply.GotOwn value) plan_is refl free (says own is (Some (Some value)) change)
    on_own own is (Some None) change free plan_is = say_allowed s reply.MissingOwn plan_is refl free (says own is (Some None) change)
    on_own own is None change free plan_is = read own is (value_at (front s) key (length (front s))) refl change free plan_is

    by : (txn : Txn) → client.txn ≡ txn → IsAllowed s
    by Idle is = say_refused s reply.State (ap (λ (t : Txn). lock_plan (front s) (locked_in s) t key) is) refl (ap (λ (t : Txn). refuses_lock t key) is)
    by (Open own) is =
        let asked : plan_in (store_in s) client (command.Lock key) ≡ lock_plan (front s) (locked_in s) (Open own) key = ap (λ (t : Txn). lock_plan (front s) (locked_in s) t key) is in
        let refuses : refusal_of client (command.Lock key) ≡ refuses_lock (Open own) key = ap (λ (t : Txn). refuses_lock t key) is in
        elim (cases_Bool (has_no_room own key)) [
          | inl full ↦ say_refused s reply.TooMany (rw full at asked) refl (rw full at refuses)
          | inr room ↦ on_own own is (change_to own.batch key) refl (rw room at refuses) (rw room at asked)
        ]
    by (Prepared p) is = say_refused s reply.State (ap (λ (t : Txn). lock_plan (front s) (locked_in s) t key) is) refl (ap (λ (t : Txn). refuses_lock t key) is)

-- ---- snapshots

snap_allowed : {client : Client} {answer : Reply} (label : List ℕ) (s : Scene client (command.Snap label) answer) → IsAllowed s
snap_allowed {client = client} label s =
    elim (cases_Bool (is_some (number_of client.snapshots label))) [
      | inl has ↦ say_refused s (reply.Taken label) (rw has refl) refl (rw has refl)
      | inr new ↦ elim (cases_Bool (nat_le MOST_SNAPSHOTS (length client.snapshots))) [
        | inl full ↦ say_refused s reply.TooMany (rw (new, full) refl) refl (rw (new, full) refl)
        | inr room ↦ say_allowed s (reply.Snapped (length (front s))) (rw (new, room) refl) refl (rw (new, room) refl) (front_fresh s)
      ]
    ]

free_allowed : {client : Client} {answer : Reply} (label : List ℕ) (s : Scene client (command.Free label) answer) → IsAllowed s
free_allowed {client = client} label s = by (number_of client.snapshots label) refl
  where
    by : (number : Option ℕ) → number_of client.snapshots label ≡ number → IsAllowed s
    by None is = say_refused s (reply.UnknownSnapshot label) (ap (λ (o : Option ℕ). Say (free_reply o label)) is) refl (ap (λ (o : Option ℕ). unless_labelled o label) is)
    by (Some n) is = say_allowed s reply.Freed (ap (λ (o : Option ℕ). Say (free_reply o label)) is) refl (ap (λ (o : Option ℕ). unless_labelled o label) is) tt

-- ---- transactions

begin_allowed : {client : Client} {answer : Reply} (name : List ℕ) (s : Scene client (command.Begin name) answer) → IsAllowed s
begin_allowed {client = client} name s = by client.txn refl
  where
    by_holder : (holder : Option ℕ) → named (front s) name ≡ holder → client.txn ≡ Idle → IsAllowed s
    by_holder None is idle = say_allowed s reply.Begun (ap (λ (t : Txn). begin_plan (front s) t name) idle ∙ ap (λ (o : Option ℕ). Say (begin_reply o name)) is) refl (ap unless_idle idle) tt
    by_holder (Some p) is idle = say_allowed s (reply.Taken name) (ap (λ (t : Txn). begin_plan (front s) t name) idle ∙ ap (λ (o : Option ℕ). Say (begin_reply o name)) is) refl (ap unless_idle idle) (refl, inl (p, was_in s name p is))

    by : (txn : Txn) → client.txn ≡ txn → IsAllowed s
    by Idle is = by_holder (named (front s) name) refl is
    by (Open own) is = say_refused s reply.State (ap (λ (t : Txn). begin_plan (front s) t name) is) refl (ap unless_idle is)
    by (Prepared p) is = say_refused s reply.State (ap (λ (t : Txn). begin_plan (front s) t name) is) refl (ap unless_idle is)

-- no entry before the next one changed a key of the open transaction
keeps_before : {client : Client} {c : Command} {answer : Reply} (s : Scene client c answer) (own : Staged) → client.txn ≡ Open own → KeepsKeys (take (next (front s) - 1) s.evidence.history) own s.progress.keys
keeps_before s own is =
    let kept = subst (TxnIsKept (front s) s.progress.keys) is s.given.kept in
    let before : next (front s) - 1 ≡ s.given.before = omega (arith, front_size s) in
    subst (λ (n : ℕ). KeepsKeys (take n s.evidence.history) own s.progress.keys) (sym before) kept

prepare_allowed : {client : Client} {answer : Reply} (s : Scene client command.Prepare answer) → IsAllowed s
prepare_allowed {client = client} s = by client.txn refl
  where
    by : (txn : Txn) → client.txn ≡ txn → IsAllowed s
    by Idle is = say_refused s reply.State (ap (prepare_plan (front s)) is) refl (ap unless_open is)
    by (Open own) is = one_allowed s (entry.Prepare own.name own.batch) (reply.Prepared (next (front s))) (ap (prepare_plan (front s)) is) refl (ap unless_open is) (ap (λ (t : Txn). needed t command.Prepare) is) (subst (λ (t : Txn). AsksFor s.evidence.history s.progress.last t command.Prepare (entry.Prepare own.name own.batch ∷ [])) (sym is) refl) (λ here. subst (λ (t : Txn). PreparesAt s.evidence.history s.progress t (next (front s))) (sym is) (here, keeps_before s own is))
    by (Prepared p) is = say_refused s reply.State (ap (prepare_plan (front s)) is) refl (ap unless_open is)

commit_allowed : {client : Client} {answer : Reply} (s : Scene client command.Commit answer) → IsAllowed s
commit_allowed {client = client} s = by client.txn refl
  where
    by : (txn : Txn) → client.txn ≡ txn → IsAllowed s
    by Idle is = say_refused s reply.State (ap (commit_plan (front s)) is) refl (ap if_idle is)
    by (Open own) is = one_allowed s (entry.Write own.batch) (reply.Committed (next (front s))) (ap (commit_plan (front s)) is) refl (ap if_idle is) (ap (λ (t : Txn). needed t command.Commit) is) (subst (λ (t : Txn). AsksFor s.evidence.history s.progress.last t command.Commit (entry.Write own.batch ∷ [])) (sym is) refl) (λ here. subst (λ (t : Txn). CommitsAt s.evidence.history s.progress t (next (front s))) (sym is) (here, keeps_before s own is))
    by (Prepared p) is = one_allowed s (entry.Commit p) (reply.Committed (next (front s))) (ap (commit_plan (front s)) is) refl (ap if_idle is) (ap (λ (t : Txn). needed t command.Commit) is) (subst (λ (t : Txn). AsksFor s.evidence.history s.progress.last t command.Commit (entry.Commit p ∷ [])) (sym is) refl) (λ here. subst (λ (t : Txn). CommitsAt s.evidence.history s.progress t (next (front s))) (sym is) here)

rollback_allowed : {client : Client} {answer : Reply} (s : Scene client command.Rollback answer) → IsAllowed s
rollback_allowed {client = client} {answer = answer} s = by client.txn refl
  where
    rolled : (p : ℕ) → client.txn ≡ Prepared p → answer ≡ reply.RolledBack (next (front s) + 1) → RollsBackAt s.evidence.history s.progress.last (Prepared p) (next (front s) + 1)
    rolled p is answered =
        let n = next (front s) + 1 in
        let batch = prior (front s) (batch_at (front s) p) in
        let all : take s.given.after s.evidence.history ≡ front s ++ entry.Undo p batch ∷ entry.Close p ∷ [] = entries_in s (RollBack p batch (reply.RolledBack n)) (reply.RolledBack n) (ap (rollback_plan (front s)) is) refl answered in
        let split : take s.given.after s.evidence.history ≡ (front s ++ entry.Undo p batch ∷ []) ++ entry.Close p ∷ [] = all ∙ sym (append_assoc (front s) (entry.Undo p batch ∷ []) (entry.Close p ∷ [])) in
        let closed : entry_at s.evidence.history n ≡ Some (entry.Close p) = entry_in_front s.evidence.history s.given.after n (entry.Close p) (subst (λ (xs : List Entry). entry_at xs n ≡ Some (entry.Close p)) (sym split) (next_entry (front s ++ entry.Undo p batch ∷ []) [] (entry.Close p) n (omega (arith, length-append (front s) (entry.Undo p batch ∷ []))))) in
        let undone : entry_at s.evidence.history (n - 1) ≡ Some (entry.Undo p batch) = entry_in_front s.evidence.history s.given.after (n - 1) (entry.Undo p batch) (subst (λ (xs : List Entry). entry_at xs (n - 1) ≡ Some (entry.Undo p batch)) (sym all) (next_entry (front s) (entry.Close p ∷ []) (entry.Undo p batch) (n - 1) (omega arith))) in
        ((omega (arith, (front_fresh s).0), closed), (batch, (omega (arith, (front_fresh s).0), undone)))

    by : (txn : Txn) → client.txn ≡ txn → IsAllowed s
    by Idle is = say_refused s reply.State (ap (rollback_plan (front s)) is) refl (ap if_idle is)
    by (Open own) is = say_allowed s reply.Dropped (ap (rollback_plan (front s)) is) refl (ap if_idle is) (subst TxnIsOpen (sym is) tt)
    by (Prepared p) is = log_allowed s 2 (reply.RolledBack (next (front s) + 1)) (ap if_idle is) (ap (λ (t : Txn). needed t command.Rollback) is) (omega arith) (subst (λ (t : Txn). AsksFor s.evidence.history s.progress.last t command.Rollback (asked_of (rollback_plan (front s) t))) (sym is) (prior (front s) (batch_at (front s) p), refl)) (ap (λ (t : Txn). reply_to (store_in s) client (rollback_plan (front s) t)) is) refl (λ answered. subst (λ (t : Txn). RollsBackAt s.evidence.history s.progress.last t (next (front s) + 1)) (sym is) (rolled p is answered))

leave_allowed : {client : Client} {answer : Reply} (s : Scene client command.Leave answer) → IsAllowed s
leave_allowed {client = client} s = by client.txn refl
  where
    by : (txn : Txn) → client.txn ≡ txn → IsAllowed s
    by Idle is = say_refused s reply.State (ap leave_plan is) refl (ap unless_prepared is)
    by (Open own) is = say_refused s reply.State (ap leave_plan is) refl (ap unless_prepared is)
    by (Prepared p) is = say_allowed s reply.Left (ap leave_plan is) refl (ap unless_prepared is) tt

take_allowed : {client : Client} {answer : Reply} (name : List ℕ) (s : Scene client (command.Take name) answer) → IsAllowed s
take_allowed {client = client} name s = by client.txn refl
  where
    by_holder : (holder : Option ℕ) → named (front s) name ≡ holder → client.txn ≡ Idle → IsAllowed s
    by_holder None is idle =
        let same : take (length (front s)) s.evidence.history ≡ front s = ap (λ (n : ℕ). take n s.evidence.history) (front_size s) in
        say_allowed s (reply.Unknown name (length (front s))) (ap (λ (t : Txn). take_plan (front s) t name) idle ∙ ap (λ (o : Option ℕ). Say (take_reply (front s) o name)) is) refl (ap unless_idle idle) (refl, front_fresh s, ap (λ (xs : List Entry). named xs name) same ∙ is)
    by_holder (Some p) is idle =
        let takes : taken (front s) (command.Take name) ≡ p = ap (λ (o : Option ℕ). unwrap_or o 0) is in
        say_allowed s reply.Took (ap (λ (t : Txn). take_plan (front s) t name) idle ∙ ap (λ (o : Option ℕ). Say (take_reply (front s) o name)) is) refl (ap unless_idle idle) (subst (WasUndecided s.evidence.history s.progress.last name) (sym takes) (was_in s name p is))

    by : (txn : Txn) → client.txn ≡ txn → IsAllowed s
    by Idle is = by_holder (named (front s) name) refl is
    by (Open own) is = say_refused s reply.State (ap (λ (t : Txn). take_plan (front s) t name) is) refl (ap unless_idle is)
    by (Prepared p) is = say_refused s reply.State (ap (λ (t : Txn). take_plan (front s) t name) is) refl (ap unless_idle is)

-- ---- the board

hear_allowed : {client : Client} {answer : Reply} (label : List ℕ) (s : Scene client (command.Hear label) answer) → IsAllowed s
hear_allowed {client = client} label s = by (map.get s.given.devices.board label) refl
  where
    unknown : map.get s.given.devices.board label ≡ None → (b : Bool) → knows_label s.progress.labels label ≡ b → b ≡ false
    unknown none true knows = absurd (true≢false (sym (s.given.known.heard label knows) ∙ ap is_some none))
    unknown none false knows = refl

    by : (told : Option ℕ) → map.get s.given.devices.board label ≡ told → IsAllowed s
    by None is = board_allowed s (reply.Silent label) (ap (λ (o : Option ℕ). heard (length (front s)) o label) is) refl refl (refl, unknown is (knows_label s.progress.labels label) refl)
    by (Some n) is =
        board_allowed s (reply.Heard (length (front s))) (ap (λ (o : Option ℕ). heard (length (front s)) o label) is) refl refl
        (front_fresh s, subst (λ (m : ℕ). IsKnown s.evidence (WasTold label m)) (sym (front_size s)) (s.given.known.told label n is))

-- ---- all commands

due_allowed : (client : Client) (c : Command) (answer : Reply) (s : Scene client c answer) → IsAllowed s
due_allowed client (command.Put key value) answer s = change_allowed s (change.Put key value) (reply.Put (next (front s))) refl refl (λ is. ap (λ (t : Txn). needed t (command.Put key value)) is) (λ is. subst (λ (t : Txn). AsksFor s.evidence.history s.progress.last t (command.Put key value) (entry.Write (change.Put key value ∷ []) ∷ [])) (sym is) refl) refl (λ is here. (is, here)) (λ by new busy. (new, busy)) (λ n conflicts. conflicts) (λ opened. opened)
due_allowed client (command.Del key) answer s = change_allowed s (change.Del key) (reply.Del (next (front s))) refl refl (λ is. ap (λ (t : Txn). needed t (command.Del key)) is) (λ is. subst (λ (t : Txn). AsksFor s.evidence.history s.progress.last t (command.Del key) (entry.Write (change.Del key ∷ []) ∷ [])) (sym is) refl) refl (λ is here. (is, here)) (λ by new busy. (new, busy)) (λ n conflicts. conflicts) (λ opened. opened)
due_allowed client (command.Get key) answer s = get_allowed key s
due_allowed client (command.GetAt key label) answer s = get_at_allowed key label s
due_allowed client (command.Scan from to) answer s = scan_allowed from to s
due_allowed client (command.ScanAt from to label) answer s = scan_at_allowed from to label s
due_allowed client (command.Snap label) answer s = snap_allowed label s
due_allowed client (command.Free label) answer s = free_allowed label s
due_allowed client (command.Begin name) answer s = begin_allowed name s
due_allowed client command.Pin answer s = pin_allowed s
due_allowed client (command.Lock key) answer s = lock_allowed key s
due_allowed client command.Prepare answer s = prepare_allowed s
due_allowed client command.Commit answer s = commit_allowed s
due_allowed client command.Rollback answer s = rollback_allowed s
due_allowed client command.Leave answer s = leave_allowed s
due_allowed client (command.Take name) answer s = take_allowed name s
due_allowed client (command.Settle names) answer s = settle_allowed names s
due_allowed client command.Flush answer s = flush_allowed s
due_allowed client command.Compact answer s = compact_allowed s
due_allowed client command.Renew answer s = renew_allowed s
due_allowed client (command.Tell label) answer s = board_allowed s (reply.Told (length (front s))) refl refl refl (front_fresh s)
due_allowed client (command.Hear label) answer s = hear_allowed label s

-- ---- what the reply leaves

staged_within : (n : ℕ) (txn : Txn) (change : Change) → TxnIsWithin n txn → TxnIsWithin n (with_staged txn change)
staged_within n Idle change within = within
staged_within n (Open own) change within = within
staged_within n (Prepared p) change within = within

locked_within : (n : ℕ) (txn : Txn) (key : List ℕ) → TxnIsWithin n txn → TxnIsWithin n (with_locked_key txn key)
locked_within n Idle key within = within
locked_within n (Open own) key within = within
locked_within n (Prepared p) key within = within

pinned_within : (n : ℕ) (txn : Txn) (pin : ℕ) → TxnIsWithin n txn → TxnIsWithin n (with_pin txn pin)
pinned_within n Idle pin within = within
pinned_within n (Open own) pin within = within
pinned_within n (Prepared p) pin within = within

txn_more : (n m : ℕ) (txn : Txn) → n ≤ m → TxnIsWithin n txn → TxnIsWithin m txn
txn_more n m Idle le within = tt
txn_more n m (Open own) le within = tt
txn_more n m (Prepared p) le within = omega (arith, le, within)

taken_within : (h : List Entry) (c : Command) → taken h c ≤ length h
taken_within h (command.Take name) = by (named h name) refl
  where
    by : (holder : Option ℕ) → named h name ≡ holder → unwrap_or (named h name) 0 ≤ length h
    by None is = rw is (omega arith)
    by (Some p) is = rw is (undecided_within h p (found_named h name p is).0).1
taken_within h other = omega arith

prepared_fresh : (client : Client) (c : Command) (n : ℕ) (s : Scene client c (reply.Prepared n)) → IsAllowed s → fresh_in c (reply.Prepared n) ≡ Some n
prepared_fresh client (command.GetAt key label) n s allowed = absurd (by (number_of client.snapshots label) allowed)
  where
    by : (number : Option ℕ) → UnlessRefused (unless_labelled number label) (reply.Prepared n) ⊥ → ⊥
    by None is = absurd cc
    by (Some m) is = is
prepared_fresh client (command.ScanAt from to label) n s allowed = absurd (by client.txn (number_of client.snapshots label) allowed)
  where
    by : (txn : Txn) (number : Option ℕ) → UnlessRefused (refuses_scan txn number label) (reply.Prepared n) ⊥ → ⊥
    by Idle None is = absurd cc
    by Idle (Some m) is = is
    by (Open own) number is = absurd cc
    by (Prepared p) number is = absurd cc
prepared_fresh client other n s allowed = refl

txn_within : (client : Client) (c : Command) (answer : Reply) (s : Scene client c answer) → IsAllowed s → TxnIsWithin s.given.after client.txn → TxnIsWithin s.given.after (client_after (front s) client c answer).txn
txn_within client (command.Put key value) reply.Held s allowed within = staged_within s.given.after client.txn (change.Put key value) within
txn_within client (command.Del key) reply.Held s allowed within = staged_within s.given.after client.txn (change.Del key) within
txn_within client (command.Lock key) (reply.Got value n) s allowed within = locked_within s.given.after client.txn key within
txn_within client (command.Lock key) (reply.Missing n) s allowed within = locked_within s.given.after client.txn key within
txn_within client c (reply.Pinned n) s allowed within = pinned_within s.given.after client.txn n within
txn_within client (command.Begin name) reply.Begun s allowed within = tt
txn_within client (command.Take name) reply.Took s allowed within = omega (arith, taken_within (front s) (command.Take name), front_size s, s.given.grows)
txn_within client c (reply.Prepared n) s allowed within = (subst (λ (o : Option ℕ). IfSome o (λ m. (s.given.before ≤ m) × (m ≤ s.given.after))) (prepared_fresh client c n s allowed) s.given.fresh).1
txn_within client c (reply.Committed n) s allowed within = tt
txn_within client c reply.Dropped s allowed within = tt
txn_within client c (reply.RolledBack n) s allowed within = tt
txn_within client c reply.Left s allowed within = tt
txn_within client c answer s allowed within = within

labels_within : (client : Client) (c : Command) (answer : Reply) (s : Scene client c answer) → AreWithin s.given.after client.snapshots → AreWithin s.given.after (labels_after client.snapshots c answer)
labels_within client (command.Snap label) (reply.Snapped n) s within = within_same s.given.after client.snapshots _ within (s.given.fresh.1, tt)
labels_within client (command.Free label) reply.Freed s within = within_filter s.given.after _ client.snapshots within
labels_within client c answer s within = within

labels_low : (client : Client) (c : Command) (answer : Reply) (s : Scene client c answer) → AreFrom s.evidence.base (labels_after client.snapshots c answer)
labels_low client (command.Snap label) (reply.Snapped n) s = from_same s.evidence.base client.snapshots _ s.labels (omega (arith, s.based, s.low, s.given.earlier, s.given.fresh.0), tt)
labels_low client (command.Free label) reply.Freed s = from_filter s.evidence.base _ client.snapshots s.labels
labels_low client c answer s = s.labels

staged_low : (base : ℕ) (txn : Txn) (change : Change) → AllByRecursion (λ n. base ≤ n) (pins_of txn) → AllByRecursion (λ n. base ≤ n) (pins_of (with_staged txn change))
staged_low base Idle change low = low
staged_low base (Open own) change low = low
staged_low base (Prepared p) change low = low

locked_low : (base : ℕ) (txn : Txn) (key : List ℕ) → AllByRecursion (λ n. base ≤ n) (pins_of txn) → AllByRecursion (λ n. base ≤ n) (pins_of (with_locked_key txn key))
locked_low base Idle key low = low
locked_low base (Open own) key low = low
locked_low base (Prepared p) key low = low

pinned_low : (base : ℕ) (txn : Txn) (n : ℕ) → base ≤ n → AllByRecursion (λ n. base ≤ n) (pins_of txn) → AllByRecursion (λ n. base ≤ n) (pins_of (with_pin txn n))
pinned_low base Idle n from low = low
pinned_low base (Open own) n from low = (from, tt)
pinned_low base (Prepared p) n from low = low

pins_low : (client : Client) (c : Command) (answer : Reply) (s : Scene client c answer) → IsAllowed s → AllByRecursion (λ n. s.evidence.base ≤ n) (pins_of (client_after (front s) client c answer).txn)
pins_low client (command.Put key value) reply.Held s allowed = staged_low s.evidence.base client.txn (change.Put key value) s.pins
pins_low client (command.Del key) reply.Held s allowed = staged_low s.evidence.base client.txn (change.Del key) s.pins
pins_low client (command.Lock key) (reply.Got value n) s allowed = locked_low s.evidence.base client.txn key s.pins
pins_low client (command.Lock key) (reply.Missing n) s allowed = locked_low s.evidence.base client.txn key s.pins
pins_low client c (reply.Pinned n) s allowed = let late = pinned_late s.evidence s.progress client (taken (front s) c) c n allowed in pinned_low s.evidence.base client.txn n (omega (arith, s.based, late)) s.pins
pins_low client (command.Begin name) reply.Begun s allowed = tt
pins_low client (command.Take name) reply.Took s allowed = tt
pins_low client c (reply.Prepared n) s allowed = tt
pins_low client c (reply.Committed n) s allowed = tt
pins_low client c reply.Dropped s allowed = tt
pins_low client c (reply.RolledBack n) s allowed = tt
pins_low client c reply.Left s allowed = tt
pins_low client c answer s allowed = s.pins

last_low : (base last before after : ℕ) (number : Option ℕ) → base ≤ last → last ≤ before → IfSome number (λ n. (before ≤ n) × (n ≤ after)) → base ≤ unwrap_or number last
last_low base last before after (Some n) low earlier fresh = omega (arith, low, earlier, fresh.0)
last_low base last before after None low earlier fresh = low

last_within : (last before after : ℕ) (number : Option ℕ) → last ≤ before → before ≤ after → IfSome number (λ n. (before ≤ n) × (n ≤ after)) → unwrap_or number last ≤ after
last_within last before after (Some n) low grows fresh = fresh.1
last_within last before after None low grows fresh = omega (arith, low, grows)

pub due_session : (e : Evidence) (from : ℕ) (progress : Progress) (client : Client) (cs : List Command) (rs : List Reply) → e.base ≤ progress.last → progress.last ≤ from → AreFrom e.base client.snapshots → AllByRecursion (λ n. e.base ≤ n) (pins_of client.txn) → TxnIsWithin from client.txn → AreWithin from client.snapshots → AreDueFrom e from progress client cs rs → IsSession e progress client cs rs
due_session e from progress client [] [] based low labels pins txn snapshots due = tt
due_session e from progress client [] (r ∷ rs) based low labels pins txn snapshots due = absurd due
due_session e from progress client (c ∷ cs) [] based low labels pins txn snapshots due = absurd due
due_session e from progress client (c ∷ cs) (r ∷ rs) based low labels pins txn snapshots (given, rest) =
    let s : Scene client c r = record { evidence = e; from = from; progress = progress; based = based; low = low; labels = labels; pins = pins; txn = txn; snapshots = snapshots; given = given } in
    let later : from ≤ given.after = omega (arith, given.earlier, given.grows) in
    let allowed = due_allowed client c r s in (
      taken (take given.before e.history) c,
      allowed,
      due_session e given.after (progress_after progress c r) (client_after (take given.before e.history) client c r) cs rs
          (last_low e.base progress.last given.before given.after (fresh_in c r) based (omega (arith, low, given.earlier)) given.fresh)
          (last_within progress.last given.before given.after (fresh_in c r) (omega (arith, low, given.earlier)) given.grows given.fresh)
          (subst (AreFrom e.base) (sym (snapshots_after (taken (take given.before e.history) c) client c r)) (labels_low client c r s))
          (pins_low client c r s allowed)
          (txn_within client c r s allowed (txn_more from given.after client.txn later txn))
          (subst (AreWithin given.after) (sym (snapshots_after (taken (take given.before e.history) c) client c r)) (labels_within client c r s (within_more from given.after client.snapshots later snapshots)))
          rest,
    )
