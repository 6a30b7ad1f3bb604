-- What is true of every session: of its reads, its numbers and its entries.
use Rattle.std.proofs.Common.{◌≡◌, ℕ, List, [], ◌∷◌, length, Option, Some, None, refl, sym, ap, ◌∙◌, subst, arith, inl, inr}
use Rattle.std.specs.Prelude.{IfSome, is_some, nat_le}
use Rattle.std.proofs.lemmas.Bool.{cases_Bool}
use Rattle.wp_model.specs.declared.entry.Entry.{Entry}
use Rattle.wp_model.specs.declared.entry.Entry.TheVariants as entry
use Rattle.wp_model.specs.declared.change.Change.TheVariants as change
use Rattle.wp_text.specs.declared.script.Command.{Command}
use Rattle.wp_text.specs.declared.script.Command.TheVariants as command
use Rattle.wp_text.specs.declared.reply.Reply.{Reply}
use Rattle.wp_text.specs.declared.reply.Reply.TheVariants as reply
use Rattle.wp_replies.specs.declared.client.TheConstants.{MOST_SNAPSHOTS}
use Rattle.wp_replies.specs.declared.client.LabelledSnapshot.{LabelledSnapshot}
use Rattle.wp_replies.specs.Txn.{Txn, Idle, Open, Prepared}
use Rattle.wp_replies.specs.Client.{Client, number_of, has_no_room}
use Rattle.wp_replies.specs.After.{after_reply}
use Rattle.wp_replies.specs.Kind.{Plain, kind, number_in, number_of_kind, numbers_logged, acknowledged, fresh_in, last_after}
use Rattle.wp_replies.specs.Progress.{Progress, progress_after}
use Rattle.wp_replies.specs.Replies.{Evidence, refuses_change, refuses_lock, unless_idle, unless_open, unless_prepared, if_idle, unless_labelled, refuses_label, refusal_of, IsFresh, IsLoggedAt, PreparesAt, CommitsAt, RollsBackAt, Condition, UnlessRefused, Allows, refuses_scan, refuses_settle}
use Rattle.wp_replies.specs.Session.{IsSession}
use Rattle.wp_replies.specs.Laws.{ReadsValue, AreReads, NeverFall, AsksLog, AreAsked, Takes, AreLogged}
use Rattle.wp_replies.proofs.Conditions.{entry_within, logged_within, snapshots_after}
use Rattle.wp_replies.proofs.Settles.{settled_fresh, settled_asked}

-- ---- refusals speak of no entry

abbrev pub IsPlainIfSome : Option Reply → Type 0
IsPlainIfSome refusal = IfSome refusal (λ r. kind r ≡ Plain)

change_plain : (txn : Txn) (key : List ℕ) → IsPlainIfSome (refuses_change txn key)
change_plain Idle key = tt
change_plain (Open own) key = elim (cases_Bool (has_no_room own key)) [ inl full ↦ rw full refl | inr room ↦ rw room tt ]
change_plain (Prepared p) key = refl

lock_plain : (txn : Txn) (key : List ℕ) → IsPlainIfSome (refuses_lock txn key)
lock_plain Idle key = refl
lock_plain (Open own) key = elim (cases_Bool (has_no_room own key)) [ inl full ↦ rw full refl | inr room ↦ rw room tt ]
lock_plain (Prepared p) key = refl

labelled_plain : (number : Option ℕ) (label : List ℕ) → IsPlainIfSome (unless_labelled number label)
labelled_plain (Some n) label = tt
labelled_plain None label = refl

label_plain : (snapshots : List LabelledSnapshot) (label : List ℕ) → IsPlainIfSome (refuses_label snapshots label)
label_plain snapshots label =
    elim (cases_Bool (is_some (number_of snapshots label))) [
      | inl has ↦ rw has refl
      | inr new ↦ elim (cases_Bool (nat_le MOST_SNAPSHOTS (length snapshots))) [ inl full ↦ rw (new, full) refl | inr room ↦ rw (new, room) tt ]
    ]

idle_plain : (txn : Txn) → IsPlainIfSome (unless_idle txn) × IsPlainIfSome (unless_open txn) × IsPlainIfSome (unless_prepared txn) × IsPlainIfSome (if_idle txn)
idle_plain Idle = (tt, refl, refl, refl)
idle_plain (Open own) = (refl, tt, refl, tt)
idle_plain (Prepared p) = (refl, refl, tt, tt)

scan_plain : (txn : Txn) (number : Option ℕ) (label : List ℕ) → IsPlainIfSome (refuses_scan txn number label)
scan_plain Idle number label = labelled_plain number label
scan_plain (Open own) number label = refl
scan_plain (Prepared p) number label = refl

settle_plain : (txn : Txn) (names : List (List ℕ)) → IsPlainIfSome (refuses_settle txn names)
settle_plain txn [] = refl
settle_plain txn (name ∷ names) = (idle_plain txn).0

pub refusal_plain : (client : Client) (c : Command) → IsPlainIfSome (refusal_of client c)
refusal_plain client (command.Put key value) = change_plain client.txn key
refusal_plain client (command.Del key) = change_plain client.txn key
refusal_plain client (command.GetAt key label) = labelled_plain (number_of client.snapshots label) label
refusal_plain client (command.Scan from to) = (idle_plain client.txn).0
refusal_plain client (command.ScanAt from to label) = scan_plain client.txn (number_of client.snapshots label) label
refusal_plain client (command.Snap label) = label_plain client.snapshots label
refusal_plain client (command.Free label) = labelled_plain (number_of client.snapshots label) label
refusal_plain client (command.Begin name) = (idle_plain client.txn).0
refusal_plain client command.Pin = (idle_plain client.txn).1
refusal_plain client (command.Lock key) = lock_plain client.txn key
refusal_plain client command.Prepare = (idle_plain client.txn).1
refusal_plain client command.Commit = (idle_plain client.txn).3
refusal_plain client command.Rollback = (idle_plain client.txn).3
refusal_plain client command.Leave = (idle_plain client.txn).2
refusal_plain client (command.Take name) = (idle_plain client.txn).0
refusal_plain client (command.Settle names) = settle_plain client.txn names
refusal_plain client _ = tt

-- what is true by the row, and where the reply speaks of no entry
pub allowed_gives : (Q : Type 0) (refusal : Option Reply) (r : Reply) (condition : Type 0) → IsPlainIfSome refusal → (condition → Q) → (kind r ≡ Plain → Q) → UnlessRefused refusal r condition → Q
allowed_gives Q None r condition plain by_condition by_kind allowed = by_condition allowed
allowed_gives Q (Some refusal) r condition plain by_condition by_kind allowed = by_kind (ap kind allowed ∙ plain)

-- ---- reads

allowed_read : (e : Evidence) (progress : Progress) (client : Client) (p : ℕ) (c : Command) (r : Reply) → Allows e progress client p c r → ReadsValue e.history progress.last client.snapshots c r
allowed_read e progress client p (command.Get key) (reply.Got value n) a = (a.1, a.2)
allowed_read e progress client p (command.Get key) (reply.Missing n) a = (a.1, a.2)
allowed_read e progress client p (command.Lock key) (reply.Got value n) a = allowed_gives _ (refuses_lock client.txn key) (reply.Got value n) _ (lock_plain client.txn key) (λ condition. (condition.1, condition.2)) (λ plain. absurd cc) a
allowed_read e progress client p (command.Lock key) (reply.Missing n) a = allowed_gives _ (refuses_lock client.txn key) (reply.Missing n) _ (lock_plain client.txn key) (λ condition. (condition.1, condition.2)) (λ plain. absurd cc) a
allowed_read e progress client p (command.GetAt key label) (reply.Got value n) a = allowed_gives _ (unless_labelled (number_of client.snapshots label) label) (reply.Got value n) _ (labelled_plain (number_of client.snapshots label) label) (λ condition. (condition.0.0, condition.0.1, condition.1)) (λ plain. absurd cc) a
allowed_read e progress client p (command.GetAt key label) (reply.Missing n) a = allowed_gives _ (unless_labelled (number_of client.snapshots label) label) (reply.Missing n) _ (labelled_plain (number_of client.snapshots label) label) (λ condition. (condition.0.0, condition.0.1, condition.1)) (λ plain. absurd cc) a
allowed_read e progress client p (command.Scan from to) (reply.Rows pairs n) a = allowed_gives _ (unless_idle client.txn) (reply.Rows pairs n) _ (idle_plain client.txn).0 (λ condition. (condition.1, condition.2)) (λ plain. absurd cc) a
allowed_read e progress client p (command.ScanAt from to label) (reply.Rows pairs n) a = allowed_gives _ (refuses_scan client.txn (number_of client.snapshots label) label) (reply.Rows pairs n) _ (scan_plain client.txn (number_of client.snapshots label) label) (λ condition. (condition.1.0, condition.1.1, condition.2)) (λ plain. absurd cc) a
allowed_read e progress client p c r a = tt

pub session_reads : (e : Evidence) (progress : Progress) (client : Client) (cs : List Command) (rs : List Reply) → IsSession e progress client cs rs → AreReads e.history progress.last client.snapshots cs rs
session_reads e progress client [] [] s = tt
session_reads e progress client [] (r ∷ rs) s = tt
session_reads e progress client (c ∷ cs) [] s = tt
session_reads e progress client (c ∷ cs) (r ∷ rs) (p, allowed, rest) = (
  allowed_read e progress client p c r allowed,
  subst (λ (snapshots : List LabelledSnapshot). AreReads e.history (last_after progress.last c r) snapshots cs rs) (snapshots_after p client c r) (session_reads e (progress_after progress c r) (after_reply p client c r) cs rs rest),
)

-- ---- numbers

logged_fresh : (h : List Entry) (last n : ℕ) (e : Entry) → IsLoggedAt h last n e → IsFresh h last n
logged_fresh h last n e l = (omega (arith, l.0), entry_within h n e l.1)

prepares_fresh : (h : List Entry) (progress : Progress) (txn : Txn) (n : ℕ) → PreparesAt h progress txn n → IsFresh h progress.last n
prepares_fresh h progress (Open own) n l = logged_fresh h progress.last n _ l.0
prepares_fresh h progress _ n l = absurd l

commits_fresh : (h : List Entry) (progress : Progress) (txn : Txn) (n : ℕ) → CommitsAt h progress txn n → IsFresh h progress.last n
commits_fresh h progress Idle n l = absurd l
commits_fresh h progress (Open own) n l = logged_fresh h progress.last n _ l.0
commits_fresh h progress (Prepared p) n l = logged_fresh h progress.last n _ l

rolls_fresh : (h : List Entry) (last : ℕ) (txn : Txn) (n : ℕ) → RollsBackAt h last txn n → IsFresh h last n
rolls_fresh h last (Prepared p) n l = logged_fresh h last n _ l.0
rolls_fresh h last _ n l = absurd l

unnumbered_fresh : (h : List Entry) (last : ℕ) (c : Command) (r : Reply) → number_in r ≡ None → IfSome (fresh_in c r) (IsFresh h last)
unnumbered_fresh h last (command.GetAt key label) r none = tt
unnumbered_fresh h last (command.ScanAt from to label) r none = tt
unnumbered_fresh h last c r none = subst (λ (o : Option ℕ). IfSome o (IsFresh h last)) (sym none) tt

pub condition_fresh : (e : Evidence) (progress : Progress) (client : Client) (p : ℕ) (r : Reply) (c : Command) → Condition e progress client p c r → IfSome (fresh_in c r) (IsFresh e.history progress.last)
condition_fresh e progress client p (reply.Put n) (command.Put key value) k = logged_fresh e.history progress.last n _ k.1
condition_fresh e progress client p (reply.Put n) c k = absurd k
condition_fresh e progress client p (reply.Del n) (command.Del key) k = logged_fresh e.history progress.last n _ k.1
condition_fresh e progress client p (reply.Del n) c k = absurd k
condition_fresh e progress client p (reply.Got value n) (command.Get key) k = k.1
condition_fresh e progress client p (reply.Got value n) (command.GetAt key label) k = tt
condition_fresh e progress client p (reply.Got value n) (command.Lock key) k = k.1
condition_fresh e progress client p (reply.Got value n) c k = absurd k
condition_fresh e progress client p (reply.Missing n) (command.Get key) k = k.1
condition_fresh e progress client p (reply.Missing n) (command.GetAt key label) k = tt
condition_fresh e progress client p (reply.Missing n) (command.Lock key) k = k.1
condition_fresh e progress client p (reply.Missing n) c k = absurd k
condition_fresh e progress client p (reply.Rows pairs n) (command.Scan from to) k = k.1
condition_fresh e progress client p (reply.Rows pairs n) (command.ScanAt from to label) k = tt
condition_fresh e progress client p (reply.Rows pairs n) c k = absurd k
condition_fresh e progress client p (reply.Snapped n) (command.Snap label) k = k
condition_fresh e progress client p (reply.Snapped n) c k = absurd k
condition_fresh e progress client p (reply.Pinned n) command.Pin k = k
condition_fresh e progress client p (reply.Pinned n) c k = absurd k
condition_fresh e progress client p (reply.Prepared n) command.Prepare k = prepares_fresh e.history progress client.txn n k
condition_fresh e progress client p (reply.Prepared n) c k = absurd k
condition_fresh e progress client p (reply.Committed n) command.Commit k = commits_fresh e.history progress client.txn n k
condition_fresh e progress client p (reply.Committed n) c k = absurd k
condition_fresh e progress client p (reply.RolledBack n) command.Rollback k = rolls_fresh e.history progress.last client.txn n k
condition_fresh e progress client p (reply.RolledBack n) c k = absurd k
condition_fresh e progress client p (reply.Settled n count) (command.Settle names) k = (settled_fresh e.history progress.last names n count (logged_within e.history progress.last) k.1).1
condition_fresh e progress client p (reply.Settled n count) c k = absurd k
condition_fresh e progress client p (reply.Unknown other n) (command.Take name) k = k.1
condition_fresh e progress client p (reply.Unknown other n) (command.Settle names) k = k.2
condition_fresh e progress client p (reply.Unknown other n) c k = absurd k
condition_fresh e progress client p (reply.Flushed n versions) command.Flush k = k.0
condition_fresh e progress client p (reply.Flushed n versions) c k = absurd k
condition_fresh e progress client p (reply.Compacted n versions) command.Compact k = k.0
condition_fresh e progress client p (reply.Compacted n versions) c k = absurd k
condition_fresh e progress client p (reply.Renewed n carried) command.Renew k = k.0
condition_fresh e progress client p (reply.Renewed n carried) c k = absurd k
condition_fresh e progress client p (reply.Told n) (command.Tell label) k = k
condition_fresh e progress client p (reply.Told n) c k = absurd k
condition_fresh e progress client p (reply.Heard n) (command.Hear label) k = k.0
condition_fresh e progress client p (reply.Heard n) c k = absurd k
condition_fresh e progress client p r c k = unnumbered_fresh e.history progress.last c r refl

pub fresh_none : (h : List Entry) (last : ℕ) (c : Command) (r : Reply) → kind r ≡ Plain → IfSome (fresh_in c r) (IsFresh h last)
fresh_none h last c r plain = unnumbered_fresh h last c r (ap number_of_kind plain)

pub session_numbers : (e : Evidence) (progress : Progress) (client : Client) (cs : List Command) (rs : List Reply) → IsSession e progress client cs rs → NeverFall e.history progress.last cs rs
session_numbers e progress client [] [] s = tt
session_numbers e progress client [] (r ∷ rs) s = tt
session_numbers e progress client (c ∷ cs) [] s = tt
session_numbers e progress client (c ∷ cs) (r ∷ rs) (p, allowed, rest) = (
  allowed_gives _ (refusal_of client c) r _ (refusal_plain client c) (condition_fresh e progress client p r c) (fresh_none e.history progress.last c r) allowed,
  session_numbers e (progress_after progress c r) (after_reply p client c r) cs rs rest,
)

-- ---- entries

prepares_asked : (h : List Entry) (progress : Progress) (txn : Txn) (n : ℕ) → PreparesAt h progress txn n → AreAsked h progress.last txn command.Prepare (n ∷ [])
prepares_asked h progress (Open own) n l = ((_, l.0, refl), tt)
prepares_asked h progress _ n l = absurd l

commits_asked : (h : List Entry) (progress : Progress) (txn : Txn) (n : ℕ) → CommitsAt h progress txn n → AreAsked h progress.last txn command.Commit (n ∷ [])
commits_asked h progress Idle n l = absurd l
commits_asked h progress (Open own) n l = ((_, l.0, refl), tt)
commits_asked h progress (Prepared p) n l = ((_, l, refl), tt)

rolls_asked : (h : List Entry) (last : ℕ) (txn : Txn) (n : ℕ) → RollsBackAt h last txn n → AreAsked h last txn command.Rollback (acknowledged (reply.RolledBack n))
rolls_asked h last (Prepared p) n (closed, (batch, undone)) = ((_, undone, inr (batch, refl)), ((_, closed, inl refl), tt))
rolls_asked h last _ n l = absurd l

condition_asked : (e : Evidence) (progress : Progress) (client : Client) (p : ℕ) (r : Reply) (c : Command) → Condition e progress client p c r → AreAsked e.history progress.last client.txn c (acknowledged r)
condition_asked e progress client p (reply.Put n) (command.Put key value) k = ((entry.Write (change.Put key value ∷ []), k.1, subst (λ (t : Txn). AsksLog e.history progress.last t (command.Put key value) (entry.Write (change.Put key value ∷ []))) (sym k.0) refl), tt)
condition_asked e progress client p (reply.Put n) c k = absurd k
condition_asked e progress client p (reply.Del n) (command.Del key) k = ((entry.Write (change.Del key ∷ []), k.1, subst (λ (t : Txn). AsksLog e.history progress.last t (command.Del key) (entry.Write (change.Del key ∷ []))) (sym k.0) refl), tt)
condition_asked e progress client p (reply.Del n) c k = absurd k
condition_asked e progress client p (reply.Prepared n) command.Prepare k = prepares_asked e.history progress client.txn n k
condition_asked e progress client p (reply.Prepared n) c k = absurd k
condition_asked e progress client p (reply.Committed n) command.Commit k = commits_asked e.history progress client.txn n k
condition_asked e progress client p (reply.Committed n) c k = absurd k
condition_asked e progress client p (reply.RolledBack n) command.Rollback k = rolls_asked e.history progress.last client.txn n k
condition_asked e progress client p (reply.RolledBack n) c k = absurd k
condition_asked e progress client p (reply.Settled n count) (command.Settle names) k = subst (λ (t : Txn). AreAsked e.history progress.last t (command.Settle names) (acknowledged (reply.Settled n count))) (sym k.0) (settled_asked e.history progress.last names n count (logged_within e.history progress.last) k.1)
condition_asked e progress client p (reply.Settled n count) c k = absurd k
condition_asked e progress client p r c k = tt

asked_none : (h : List Entry) (last : ℕ) (txn : Txn) (c : Command) (r : Reply) → kind r ≡ Plain → AreAsked h last txn c (acknowledged r)
asked_none h last txn c r plain = subst (AreAsked h last txn c) (sym (ap numbers_logged plain)) tt

-- only an idle client is answered `took`
pub took_by_condition : (txn : Txn) (condition : Type 0) → UnlessRefused (unless_idle txn) reply.Took condition → condition
took_by_condition Idle condition a = a
took_by_condition (Open own) condition a = absurd cc
took_by_condition (Prepared p) condition a = absurd cc

allowed_takes : (e : Evidence) (progress : Progress) (client : Client) (p : ℕ) (c : Command) (r : Reply) → Allows e progress client p c r → Takes e.history progress.last p c r
allowed_takes e progress client p (command.Take name) reply.Took a = took_by_condition client.txn _ a
allowed_takes e progress client p c r a = tt

pub session_logged : (e : Evidence) (progress : Progress) (client : Client) (cs : List Command) (rs : List Reply) → IsSession e progress client cs rs → AreLogged e.history progress.last client cs rs
session_logged e progress client [] [] s = tt
session_logged e progress client [] (r ∷ rs) s = tt
session_logged e progress client (c ∷ cs) [] s = tt
session_logged e progress client (c ∷ cs) (r ∷ rs) (p, allowed, rest) = (
  allowed_gives _ (refusal_of client c) r _ (refusal_plain client c) (condition_asked e progress client p r c) (asked_none e.history progress.last client.txn c r) allowed,
  (p, allowed_takes e progress client p c r allowed, session_logged e (progress_after progress c r) (after_reply p client c r) cs rs rest),
)
