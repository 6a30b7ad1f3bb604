-- A command's reply that is due at a moment of a history, and when the table allows it.
use Rattle.std.proofs.Common.{◌≡◌, ℕ, zero, suc, ◌+◌, ◌≤◌, ◌<◌, Bool, true, false, ◌||◌, List, [], ◌∷◌, ◌++◌, length, take, drop, Option, Some, None, refl, sym, ap, ◌∙◌, subst, arith, inl, inr}
use Rattle.std.specs.Prelude.{slice_get, nat_lt}
use Rattle.std.specs.List.{AllByRecursion}
use Rattle.std.proofs.lemmas.Bool.{cases_Bool, ltb-true}
use Rattle.std.proofs.lemmas.List.{take-append-drop}
use Rattle.std.proofs.lemmas.Slice.Eq.{bytes_eq-Decides}
use Rattle.wp_model.specs.declared.entry.Entry.{Entry}
use Rattle.wp_model.specs.History.{entry_at, named, newest, value_at}
use Rattle.wp_model.proofs.Found.{found_named}
use Rattle.wp_text.specs.declared.script.Command.{Command}
use Rattle.wp_text.specs.declared.script.Command.TheVariants as command
use Rattle.wp_text.specs.declared.reply.Reply.{Reply}
use Rattle.wp_text.specs.declared.reply.Reply.TheVariants as reply
use Rattle.wp_replies.specs.Txn.{Txn, Idle, Open, Prepared}
use Rattle.wp_replies.specs.declared.plan.Plan.{Plan}
use Rattle.wp_replies.specs.declared.plan.Plan.TheVariants.{Say, Log}
use Rattle.wp_replies.specs.Alike.{AreFrom}
use Rattle.wp_replies.specs.Client.{Client, pins_of, AreWithin}
use Rattle.wp_replies.specs.Kind.{Kind, Logged, kind, is_logged, says_logged, is_fault, is_installed, says_installed, calls_log}
use Rattle.wp_replies.specs.Progress.{Progress}
use Rattle.wp_replies.specs.Replies.{LogStopped, Evidence, IsKnown, refusal_of, IsFresh, IsLoggedAt, WasUndecided, TxnIsWithin, needed, AsksFor, HadBase, RenewsSomething, Condition, UnlessRefused, Allows}
use Rattle.wp_replies.specs.Plan.{asked_of, next}
use Rattle.wp_replies.specs.Due.{Store, plan_in, logged, reply_to, due, IsReply, logged_entries, taken}
use Rattle.wp_replies.specs.Moments.{store_at, IsDueFrom}
use Rattle.wp_replies.proofs.Conditions.{slice_get_more}

-- ---- the history at a moment

size : (h : List Entry) (n : ℕ) → n ≤ length h → length (take n h) ≡ n
size [] zero le = refl
size [] (suc n) le = absurd (omega arith)
size (e ∷ h) zero le = refl
size (e ∷ h) (suc n) le = let rest = size h n (omega arith) in omega (arith, rest)

pub entry_in_front : (h : List Entry) (m n : ℕ) (e : Entry) → entry_at (take m h) n ≡ Some e → entry_at h n ≡ Some e
entry_in_front h m zero e is = absurd cc
entry_in_front h m (suc n) e is = subst (λ (xs : List Entry). slice_get xs n ≡ Some e) (take-append-drop m h) (slice_get_more (take m h) (drop m h) n e is)

pub next_entry : (front more : List Entry) (e : Entry) (n : ℕ) → n ≡ length front + 1 → entry_at (front ++ e ∷ more) n ≡ Some e
next_entry front more e zero is = absurd (omega (arith, is))
next_entry [] more e (suc zero) is = refl
next_entry [] more e (suc (suc n)) is = absurd (omega (arith, is))
next_entry (x ∷ front) more e (suc n) is = let within : n ≡ length front + 1 = omega (arith, is) in by n within (next_entry front more e n within)
  where
    by : (k : ℕ) → k ≡ length front + 1 → entry_at (front ++ e ∷ more) k ≡ Some e → slice_get (x ∷ (front ++ e ∷ more)) k ≡ Some e
    by zero is here = absurd (omega (arith, is))
    by (suc k) is here = here

pub front_take : (h : List Entry) (n m : ℕ) → n ≤ m → take n (take m h) ≡ take n h
front_take h zero m le = refl
front_take [] (suc n) zero le = absurd (omega arith)
front_take [] (suc n) (suc m) le = refl
front_take (e ∷ h) (suc n) zero le = absurd (omega arith)
front_take (e ∷ h) (suc n) (suc m) le = ap (λ (xs : List Entry). e ∷ xs) (front_take h n m (omega arith))

pub value_in_front : (h : List Entry) (key : List ℕ) (n m : ℕ) → n ≤ m → value_at (take m h) key n ≡ value_at h key n
value_in_front h key n m le = ap (λ (xs : List Entry). newest xs key) (front_take h n m le)

-- ---- one command

-- a command's reply that is due at a moment of a history, where the client has seen no later one
pub record Scene (client : Client) (c : Command) (answer : Reply) : Type 0 where
  pub evidence : Evidence
  pub from : ℕ
  pub progress : Progress
  pub based : evidence.base ≤ progress.last
  pub low : progress.last ≤ from
  pub labels : AreFrom evidence.base client.snapshots
  pub pins : AllByRecursion (λ n. evidence.base ≤ n) (pins_of client.txn)
  pub txn : TxnIsWithin from client.txn
  pub snapshots : AreWithin from client.snapshots
  pub given : IsDueFrom evidence from progress client c answer

-- the entries published before the command
abbrev pub front : {client : Client} {c : Command} {answer : Reply} → Scene client c answer → List Entry
front s = take s.given.before s.evidence.history

abbrev pub store_in : {client : Client} {c : Command} {answer : Reply} → Scene client c answer → Store
store_in s = store_at s.evidence s.given.devices s.given.before

-- a reply's row
abbrev pub ConditionOf : {client : Client} {c : Command} {answer : Reply} → Scene client c answer → Reply → Type 0
ConditionOf {client = client} {c = c} s made = Condition s.evidence s.progress client (taken (front s) c) c made

abbrev pub IsAllowed : {client : Client} {c : Command} {answer : Reply} → Scene client c answer → Type 0
IsAllowed {client = client} {c = c} {answer = answer} s = Allows s.evidence s.progress client (taken (front s) c) c answer

pub front_size : {client : Client} {c : Command} {answer : Reply} (s : Scene client c answer) → length (front s) ≡ s.given.before
front_size s = size s.evidence.history s.given.before (omega (arith, s.given.grows, s.given.within))

pub front_fresh : {client : Client} {c : Command} {answer : Reply} (s : Scene client c answer) → IsFresh s.evidence.history s.progress.last (length (front s))
front_fresh s = (omega (arith, front_size s, s.low, s.given.earlier), omega (arith, front_size s, s.given.grows, s.given.within))

-- what has a name is undecided
pub was_in : {client : Client} {c : Command} {answer : Reply} (s : Scene client c answer) (name : List ℕ) (p : ℕ) → named (front s) name ≡ Some p → WasUndecided s.evidence.history s.progress.last name p
was_in s name p is =
    let found = found_named (front s) name p is in
    let fresh = front_fresh s in
    record { at = s.given.before; fresh = (omega (arith, fresh.0, front_size s), omega (arith, fresh.1, front_size s)); undecided = found.0; named = (bytes_eq-Decides _ _).0 found.1 }

-- a device may fail in place of the reply
abbrev pub may_fail : Reply → Bool
may_fail r = calls_log r || is_installed r

pub none_of : (a b : Bool) → (a || b) ≡ false → a ≡ true → ⊥
none_of true b none is = absurd cc
none_of false b none is = absurd cc

nor_of : (a b : Bool) → (a || b) ≡ false → b ≡ true → ⊥
nor_of true b none is = absurd cc
nor_of false true none is = absurd cc
nor_of false false none is = absurd cc

-- a reply without the log and the tables is the one that is due
answered : {client : Client} {c : Command} {answer : Reply} (s : Scene client c answer) (made : Reply) → due (store_in s) client c ≡ made → may_fail made ≡ false → answer ≡ made
answered {client = client} {c = c} {answer = answer} s made is plain = by s.given.replied
  where
    by : IsReply (store_in s) client c answer → answer ≡ made
    by (inl said) = said ∙ is
    by (inr (inl fault)) = let calls : calls_log made ≡ true = subst (λ (r : Reply). calls_log r ≡ true) is fault.1 in absurd (none_of (calls_log made) (is_installed made) plain calls)
    by (inr (inr fault)) = let installs : is_installed made ≡ true = subst (λ (r : Reply). is_installed r ≡ true) is fault.1 in absurd (nor_of (calls_log made) (is_installed made) plain installs)

-- likewise where the plan says it
said : {client : Client} {c : Command} {answer : Reply} (s : Scene client c answer) (made : Reply) → plan_in (store_in s) client c ≡ Say made → may_fail made ≡ false → answer ≡ made
said {client = client} s made is plain = answered s made (ap (reply_to (store_in s) client) is) plain

pub say_refused : {client : Client} {c : Command} {answer : Reply} (s : Scene client c answer) (made : Reply) → plan_in (store_in s) client c ≡ Say made → may_fail made ≡ false → refusal_of client c ≡ Some made → IsAllowed s
say_refused {client = client} {c = c} {answer = answer} s made is plain refused = subst (λ (o : Option Reply). UnlessRefused o answer (ConditionOf s answer)) (sym refused) (said s made is plain)

-- the base of the devices is the one of so many entries
had_base : {client : Client} {c : Command} {answer : Reply} (s : Scene client c answer) → HadBase s.evidence s.progress (length (front s)) s.given.devices.installed.segment.base
had_base s = subst (λ (n : ℕ). HadBase s.evidence s.progress n s.given.devices.installed.segment.base) (sym (front_size s)) s.given.known.based

pub by_condition : {client : Client} {c : Command} {answer : Reply} (s : Scene client c answer) → refusal_of client c ≡ None → ConditionOf s answer → IsAllowed s
by_condition {client = client} {c = c} {answer = answer} s free condition = subst (λ (o : Option Reply). UnlessRefused o answer (ConditionOf s answer)) (sym free) condition

pub say_allowed : {client : Client} {c : Command} {answer : Reply} (s : Scene client c answer) (made : Reply) → plan_in (store_in s) client c ≡ Say made → may_fail made ≡ false → refusal_of client c ≡ None → ConditionOf s made → IsAllowed s
say_allowed s made is plain free condition = by_condition s free (subst (ConditionOf s) (sym (said s made is plain)) condition)

pub board_allowed : {client : Client} {c : Command} {answer : Reply} (s : Scene client c answer) (made : Reply) → due (store_in s) client c ≡ made → may_fail made ≡ false → refusal_of client c ≡ None → ConditionOf s made → IsAllowed s
board_allowed s made is plain free condition = by_condition s free (subst (ConditionOf s) (sym (answered s made is plain)) condition)

-- a reply that acknowledges entries tells of no edit
logged_or_installed : (k : Kind) → says_logged k ≡ true → says_installed k ≡ true → ⊥
logged_or_installed (Logged last count) logs installs = absurd cc
logged_or_installed other logs installs = absurd cc

logged_uninstalled : (store : Store) (count : ℕ) (made : Reply) → is_logged made ≡ true → is_installed (logged store count made) ≡ true → ⊥
logged_uninstalled store count made logs installs =
    elim (cases_Bool store.stopped) [
      | inl failed ↦ let none : is_installed (reply.Stopped (length store.history)) ≡ true = rw failed at installs in absurd cc
      | inr runs ↦ elim (cases_Bool (nat_lt store.limit (length store.history + count))) [
        | inl over ↦ let none : is_installed (reply.Full (length store.history) store.limit) ≡ true = rw (runs, over) at installs in absurd cc
        | inr room ↦ logged_or_installed (kind made) logs (rw (runs, room) at installs)
      ]
    ]

-- a command that needs an entry is no renewal
pub needs_no_renewal : (e : Evidence) (txn : Txn) (c : Command) → 1 ≤ needed txn c → RenewsSomething e c
needs_no_renewal e Idle command.Renew some = absurd (omega (arith, some))
needs_no_renewal e (Open own) command.Renew some = absurd (omega (arith, some))
needs_no_renewal e (Prepared p) command.Renew some = absurd (omega (arith, some))
needs_no_renewal e txn other some = tt

-- the log takes so many entries, and the reply is this one; or it refuses them
pub log_allowed : {client : Client} {c : Command} {answer : Reply} (s : Scene client c answer) (count : ℕ) (made : Reply) → refusal_of client c ≡ None → needed client.txn c ≡ count → 1 ≤ count → AsksFor s.evidence.history s.progress.last client.txn c (asked_of (plan_in (store_in s) client c))
    → due (store_in s) client c ≡ logged (store_in s) count made → is_logged made ≡ true → (answer ≡ made → ConditionOf s made) → IsAllowed s
log_allowed {client = client} {c = c} {answer = answer} s count made free needs some asks due_is logs condition = by_condition s free (by s.given.replied)
  where
    needs_some : 1 ≤ needed client.txn c
    needs_some = omega (arith, needs, some)

    on_log : answer ≡ logged (store_in s) count made → ConditionOf s answer
    on_log is =
        elim (cases_Bool s.given.devices.stopped) [
          | inl failed ↦
              let answered : answer ≡ reply.Stopped (length (front s)) = rw failed at is in
              subst (ConditionOf s) (sym answered) (inl needs_some, front_fresh s, subst (λ (n : ℕ). IsKnown s.evidence (LogStopped n)) (sym (front_size s)) (s.given.known.stopped failed))
          | inr runs ↦ elim (cases_Bool (nat_lt s.given.devices.limit (length (front s) + count))) [
            | inl over ↦
                let answered : answer ≡ reply.Full (length (front s)) s.given.devices.limit = rw (runs, over) at is in
                let past : s.given.devices.limit < length (front s) + needed client.txn c = omega (arith, needs, ltb-true _ _ over) in
                subst (ConditionOf s) (sym answered) (needs_some, front_fresh s, (s.given.devices.installed.segment.base, had_base s, s.given.known.limit), past)
            | inr room ↦
                let answered : answer ≡ made = rw (runs, room) at is in
                subst (ConditionOf s) (sym answered) (condition answered)
          ]
        ]

    by : IsReply (store_in s) client c answer → ConditionOf s answer
    by (inl is) = on_log (is ∙ due_is)
    by (inr (inl fault)) = subst (ConditionOf s) (sym fault.0) (subst (AsksFor s.evidence.history s.progress.last client.txn c) (sym (s.given.asked (ap is_fault fault.0)).0) asks, needs_no_renewal s.evidence client.txn c needs_some)
    by (inr (inr fault)) = let installs : is_installed (logged (store_in s) count made) ≡ true = subst (λ (r : Reply). is_installed r ≡ true) due_is fault.1 in absurd (logged_uninstalled (store_in s) count made logs installs)

-- the entries of a reply that acknowledges them
pub entries_in : {client : Client} {c : Command} {answer : Reply} (s : Scene client c answer) (p : Plan) (made : Reply) → plan_in (store_in s) client c ≡ p → is_logged made ≡ true → answer ≡ made → take s.given.after s.evidence.history ≡ front s ++ asked_of p
entries_in {client = client} {c = c} s p made is logs answered =
    let all : take s.given.after s.evidence.history ≡ front s ++ logged_entries (store_in s) client c made = subst (λ (r : Reply). take s.given.after s.evidence.history ≡ front s ++ logged_entries (store_in s) client c r) answered s.given.logged in
    rw (logs, is) at all

-- a plan with one entry
pub one_allowed : {client : Client} {c : Command} {answer : Reply} (s : Scene client c answer) (e : Entry) (made : Reply) → plan_in (store_in s) client c ≡ Log e made → is_logged made ≡ true → refusal_of client c ≡ None → needed client.txn c ≡ 1 → AsksFor s.evidence.history s.progress.last client.txn c (e ∷ [])
    → (IsLoggedAt s.evidence.history s.progress.last (next (front s)) e → ConditionOf s made) → IsAllowed s
one_allowed {client = client} {c = c} s e made is logs free needs asks condition =
    log_allowed s 1 made free needs (omega arith) (subst (AsksFor s.evidence.history s.progress.last client.txn c) (sym (ap asked_of is)) asks) (ap (reply_to (store_in s) client) is) logs (λ answered.
    let all = entries_in s (Log e made) made is logs answered in
    let here = entry_in_front s.evidence.history s.given.after (next (front s)) e (subst (λ (xs : List Entry). entry_at xs (next (front s)) ≡ Some e) (sym all) (next_entry (front s) [] e (next (front s)) refl)) in
    condition (omega (arith, (front_fresh s).0), here))
