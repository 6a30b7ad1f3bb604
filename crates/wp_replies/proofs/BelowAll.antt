-- What a client comes to is from the base on, and so no session looks below it.
use Rattle.std.proofs.Common.{ℕ, ◌<◌, ◌≤◌, Bool, List, [], ◌∷◌, ◌++◌, Option, Some, None, subst, sym, inl, inr, arith}
use Rattle.std.specs.Prelude.{IfSome, unwrap_or}
use Rattle.std.specs.List.{AllByRecursion, filter}
use Rattle.std.proofs.lemmas.Bool.{cases_Bool}
use Rattle.wp_model.specs.declared.change.Change.{Change}
use Rattle.wp_model.specs.declared.change.Change.TheVariants as change
use Rattle.wp_model.specs.declared.entry.Entry.{Entry}
use Rattle.wp_text.specs.declared.script.Command.{Command}
use Rattle.wp_text.specs.declared.script.Command.TheVariants as command
use Rattle.wp_text.specs.declared.reply.Reply.{Reply}
use Rattle.wp_text.specs.declared.reply.Reply.TheVariants as reply
use Rattle.wp_replies.specs.declared.client.LabelledSnapshot.{LabelledSnapshot}
use Rattle.wp_replies.specs.Txn.{Txn, Idle, Open, Prepared}
use Rattle.wp_replies.specs.After.{with_staged, with_locked_key, with_pin, labels_after, after_reply}
use Rattle.wp_replies.specs.Alike.{IsLike, TxnIsFrom, AreFrom, IsFrom}
use Rattle.wp_replies.specs.Client.{Client}
use Rattle.wp_replies.specs.Kind.{fresh_in}
use Rattle.wp_replies.specs.Progress.{ToldKey, Progress, is_told, key_come, with_key, with_behind, keys_after, progress_after}
use Rattle.wp_replies.specs.Replies.{Evidence, refusal_of, IsFresh, PreparesAt, Condition, Allows}
use Rattle.wp_replies.specs.Session.{IsSession}
use Rattle.wp_replies.proofs.Conditions.{snapshots_after, unless_refused_more}
use Rattle.wp_replies.proofs.SessionLemmas.{refusal_plain, allowed_gives, condition_fresh, fresh_none, took_by_condition}
use Rattle.wp_replies.proofs.Below.{condition_other}

pub from_same : (base : ℕ) (front back : List LabelledSnapshot) → AreFrom base front → AreFrom base back → AreFrom base (front ++ back)
from_same base [] back f b = b
from_same base (s ∷ front) back f b = (f.0, from_same base front back f.1 b)

pub from_filter : (base : ℕ) (keeps : LabelledSnapshot → Bool) (snapshots : List LabelledSnapshot) → AreFrom base snapshots → AreFrom base (filter keeps snapshots)
from_filter base keeps [] f = tt
from_filter base keeps (s ∷ snapshots) f =
    elim (cases_Bool (keeps s)) [
      | inl kept ↦ rw kept (f.0, from_filter base keeps snapshots f.1)
      | inr dropped ↦ rw dropped (from_filter base keeps snapshots f.1)
    ]

staged_from : (base : ℕ) (history : List Entry) (txn : Txn) (change : Change) → TxnIsFrom base history txn → TxnIsFrom base history (with_staged txn change)
staged_from base history Idle change from = from
staged_from base history (Open own) change from = from
staged_from base history (Prepared p) change from = from

locked_from : (base : ℕ) (history : List Entry) (txn : Txn) (key : List ℕ) → TxnIsFrom base history txn → TxnIsFrom base history (with_locked_key txn key)
locked_from base history Idle key from = from
locked_from base history (Open own) key from = from
locked_from base history (Prepared p) key from = from

pinned_from : (base : ℕ) (history : List Entry) (txn : Txn) (n : ℕ) → base ≤ n → TxnIsFrom base history txn → TxnIsFrom base history (with_pin txn n)
pinned_from base history Idle n low from = from
pinned_from base history (Open own) n low from = low
pinned_from base history (Prepared p) n low from = from

-- ---- keys

key_from : (base told : ℕ) (key : Option (List ℕ)) (keys : List ToldKey) → base ≤ told → AllByRecursion (λ k. base ≤ k.told) keys → AllByRecursion (λ k. base ≤ k.told) (with_key keys key told)
key_from base told None keys low all = all
key_from base told (Some key) keys low all =
    elim (cases_Bool (is_told keys key)) [
      | inl there ↦ rw there all
      | inr new ↦ rw new (one_more keys all)
    ]
  where
    one_more : (xs : List ToldKey) → AllByRecursion (λ k. base ≤ k.told) xs → AllByRecursion (λ k. base ≤ k.told) (xs ++ record { key = key; told = told; behind = None } ∷ [])
    one_more [] all = (low, tt)
    one_more (x ∷ xs) all = (all.0, one_more xs all.1)

behind_from : (base : ℕ) (fresh : Option ℕ) (keys : List ToldKey) → AllByRecursion (λ k. base ≤ k.told) keys → AllByRecursion (λ k. base ≤ k.told) (with_behind keys fresh)
behind_from base fresh [] all = tt
behind_from base fresh (k ∷ keys) all = (all.0, behind_from base fresh keys all.1)

keys_from : (base : ℕ) (progress : Progress) (c : Command) (r : Reply) → base ≤ progress.last → AllByRecursion (λ k. base ≤ k.told) progress.keys → AllByRecursion (λ k. base ≤ k.told) (keys_after progress c r)
keys_from base progress (command.Begin name) reply.Begun low all = tt
keys_from base progress c r low all = behind_from base (fresh_in c r) (with_key progress.keys (key_come c r) progress.last) (key_from base progress.last (key_come c r) progress.keys low all)

-- the last number only rises
last_from : (base last : ℕ) (history : List Entry) (number : Option ℕ) → base ≤ last → IfSome number (IsFresh history last) → base ≤ unwrap_or number last
last_from base last history (Some n) low fresh = omega (arith, low, fresh.0)
last_from base last history None low fresh = low

module _ (e : Evidence) (progress : Progress) (client : Client) (p : ℕ) where
  -- a prepare that was acknowledged is later than all that the client had seen
  prepares_late : (txn : Txn) (n : ℕ) → PreparesAt e.history progress txn n → progress.last < n
  prepares_late (Open own) n l = l.0.0
  prepares_late _ n l = absurd l

  condition_late : (c : Command) (n : ℕ) → Condition e progress client p c (reply.Prepared n) → progress.last < n
  condition_late command.Prepare n k = prepares_late client.txn n k
  condition_late c n k = absurd k

  late : (c : Command) (n : ℕ) → Allows e progress client p c (reply.Prepared n) → progress.last < n
  late c n allowed = allowed_gives (progress.last < n) (refusal_of client c) (reply.Prepared n) _ (refusal_plain client c) (condition_late c n) (λ plain. absurd cc) allowed

  condition_pinned : (c : Command) (n : ℕ) → Condition e progress client p c (reply.Pinned n) → progress.last ≤ n
  condition_pinned command.Pin n k = k.0
  condition_pinned c n k = absurd k

  pub pinned_late : (c : Command) (n : ℕ) → Allows e progress client p c (reply.Pinned n) → progress.last ≤ n
  pinned_late c n allowed = allowed_gives (progress.last ≤ n) (refusal_of client c) (reply.Pinned n) _ (refusal_plain client c) (condition_pinned c n) (λ plain. absurd cc) allowed

  txn_from : (c : Command) (r : Reply) → IsFrom e.base e.history progress client → Allows e progress client p c r → TxnIsFrom e.base e.history (after_reply p client c r).txn
  txn_from (command.Put key value) reply.Held f allowed = staged_from e.base e.history client.txn (change.Put key value) f.txn
  txn_from (command.Del key) reply.Held f allowed = staged_from e.base e.history client.txn (change.Del key) f.txn
  txn_from (command.Lock key) (reply.Got value n) f allowed = locked_from e.base e.history client.txn key f.txn
  txn_from (command.Lock key) (reply.Missing n) f allowed = locked_from e.base e.history client.txn key f.txn
  txn_from c (reply.Pinned n) f allowed = let low = f.last in let after = pinned_late c n allowed in pinned_from e.base e.history client.txn n (omega (arith, low, after)) f.txn
  txn_from (command.Begin name) reply.Begun f allowed = tt
  txn_from (command.Take name) reply.Took f allowed =
      let w = took_by_condition client.txn _ allowed in let low = f.last in
      inr (w.at, omega (arith, low, w.fresh.0), w.fresh.1, w.undecided)
  txn_from c (reply.Prepared n) f allowed = let low = f.last in let after = late c n allowed in inl (omega (arith, low, after))
  txn_from c (reply.Committed n) f allowed = tt
  txn_from c reply.Dropped f allowed = tt
  txn_from c (reply.RolledBack n) f allowed = tt
  txn_from c reply.Left f allowed = tt
  txn_from c r f allowed = f.txn

  labels_from : (c : Command) (r : Reply) → IsFrom e.base e.history progress client → Allows e progress client p c r → AreFrom e.base (labels_after client.snapshots c r)
  labels_from (command.Snap label) (reply.Snapped n) f allowed =
      let low = f.last in
      let fresh = allowed_gives (IsFresh e.history progress.last n) (refusal_of client (command.Snap label)) (reply.Snapped n) _ (refusal_plain client (command.Snap label)) (λ condition. condition) (λ plain. absurd cc) allowed in
      from_same e.base client.snapshots _ f.snapshots (omega (arith, low, fresh.0), tt)
  labels_from (command.Free label) reply.Freed f allowed = from_filter e.base _ client.snapshots f.snapshots
  labels_from c r f allowed = f.snapshots

  after_from : (c : Command) (r : Reply) → IsFrom e.base e.history progress client → Allows e progress client p c r → IsFrom e.base e.history (progress_after progress c r) (after_reply p client c r)
  after_from c r f allowed = record {
    last = last_from e.base progress.last e.history (fresh_in c r) f.last (allowed_gives _ (refusal_of client c) r _ (refusal_plain client c) (condition_fresh e progress client p r c) (fresh_none e.history progress.last c r) allowed);
    txn = txn_from c r f allowed;
    snapshots = subst (AreFrom e.base) (sym (snapshots_after p client c r)) (labels_from c r f allowed);
    keys = keys_from e.base progress c r f.last f.keys;
  }

pub session_other : (e : Evidence) (other : List Entry) → IsLike e other → (progress : Progress) (client : Client) (cs : List Command) (rs : List Reply) → IsFrom e.base e.history progress client → IsSession e progress client cs rs
    → IsSession (record e { history = other }) progress client cs rs
session_other e other like progress client [] [] f s = tt
session_other e other like progress client [] (r ∷ rs) f s = absurd s
session_other e other like progress client (c ∷ cs) [] f s = absurd s
session_other e other like progress client (c ∷ cs) (r ∷ rs) f (p, allowed, rest) =
    (p, unless_refused_more (refusal_of client c) r _ _ (condition_other e other like progress client p c r f) allowed, session_other e other like (progress_after progress c r) (after_reply p client c r) cs rs (after_from e progress client p c r f allowed) rest)
