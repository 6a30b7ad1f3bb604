-- A reply to a flush, a compaction or a renewal that is due at a moment of a history is one that the table allows.
use Rattle.std.proofs.Common.{◌≡◌, ℕ, zero, suc, ◌≤◌, ◌<◌, ◌⊎◌, Bool, true, false, true≢false, ◌==◌, eq-eqb, List, [], ◌∷◌, ◌++◌, length, take, drop, None, refl, sym, ap, ◌∙◌, subst, arith, inl, inr}
use Rattle.std.specs.List.{AllByRecursion}
use Rattle.std.specs.Prelude.{nat_lt}
use Rattle.std.proofs.lemmas.Bool.{cases_Bool, cases_lt, or_cases, or_left, or_right, eqb-true, ltb-true, ltb-false}
use Rattle.std.proofs.lemmas.List.{take-append-drop}
use Rattle.wp_model.specs.declared.entry.Entry.{Entry}
use Rattle.wp_model.specs.Legal.{changes_in}
use Rattle.wp_model.specs.declared.segment.Segment.{Segment}
use Rattle.wp_model.specs.declared.version.Version.{Version}
use Rattle.wp_model.specs.Covered.{is_among}
use Rattle.wp_model.specs.Flushed.{InstalledEdit, versions_under, versions_after, later_versions}
use Rattle.wp_model.specs.History.{undecided}
use Rattle.wp_cuts.specs.Cut.{carried_of, cut_at}
use Rattle.wp_cuts.specs.Kept.{carried_versions, HasKeysAt}
use Rattle.wp_cuts.proofs.Own.{own_few}
use Rattle.wp_text.specs.declared.script.Command.{Command}
use Rattle.wp_text.specs.declared.script.Command.TheVariants as command
use Rattle.wp_text.specs.declared.reply.Reply.{Reply}
use Rattle.wp_text.specs.declared.reply.Reply.TheVariants as reply
use Rattle.wp_replies.specs.declared.client.LabelledSnapshot.{LabelledSnapshot}
use Rattle.wp_replies.specs.Txn.{Txn, Idle, Open, Prepared}
use Rattle.wp_replies.specs.Alike.{AreFrom}
use Rattle.wp_replies.specs.Client.{Client, numbers_of, pins_of, live_of}
use Rattle.wp_replies.specs.Kind.{calls_log, is_fault, is_installed, is_tables_fault}
use Rattle.wp_replies.specs.Replies.{LogStopped, OtherCompacted, IsKnown, refusal_of, AsksFor, FailsFlush, FailsCompaction, FailsRenewal, IsCompactionCount, HasNothingToMerge, IsHaltedAt}
use Rattle.wp_replies.specs.Due.{unless_halted, flushed, due, IsReply}
use Rattle.wp_replies.specs.Tables.{unflushed, listed, retained}
use Rattle.wp_replies.proofs.Below.{joined_from}
use Rattle.wp_replies.proofs.Scenes.{front_take, value_in_front, Scene, front, store_in, ConditionOf, IsAllowed, front_size, front_fresh, none_of, by_condition}

append_empty : {A : Type 0} (xs ys : List A) → xs ++ ys ≡ [] → (xs ≡ []) × (ys ≡ [])
append_empty [] ys is = (refl, is)
append_empty (x ∷ xs) ys is = absurd cc

-- where a longer history has no version, its front has none either
none_in_front : (front more : List Entry) (k : ℕ) → versions_after k (front ++ more) ≡ [] → versions_after k front ≡ []
none_in_front [] more k none = refl
none_in_front (e ∷ front) more k none =
    let parts = append_empty (versions_under (suc k) (changes_in e)) (versions_after (suc k) (front ++ more)) none in
    let rest = none_in_front front more (suc k) parts.1 in
    rw (parts.0, rest) refl

-- nor above a number
none_above : (front more : List Entry) (k n : ℕ) → versions_after k (drop n (front ++ more)) ≡ [] → versions_after k (drop n front) ≡ []
none_above front more k zero none = none_in_front front more k none
none_above [] more k (suc n) none = refl
none_above (e ∷ front) more k (suc n) none = none_above front more k n none

-- the row of a flush or a compaction where the tables take an edit, or fail
on_tables : {client : Client} {c : Command} {answer : Reply} (s : Scene client c answer) (made : Reply) → refusal_of client c ≡ None → due (store_in s) client c ≡ unless_halted (store_in s) made
    → calls_log made ≡ false → ConditionOf s made → (is_tables_fault answer ≡ true → is_installed made ≡ true → ConditionOf s reply.FaultTables) → (IsHaltedAt s.evidence s.given.devices.installed.flushed → ConditionOf s (reply.Halted s.given.devices.installed.flushed)) → IsAllowed s
on_tables {client = client} {c = c} {answer = answer} s made free due_is unlogged condition fault halted = by_condition s free (by s.given.replied)
  where
    by_halted : (r : Reply) → r ≡ unless_halted (store_in s) made → ConditionOf s r
    by_halted r is = elim (cases_Bool s.given.devices.halted) [
      | inl failed ↦ let answered : r ≡ reply.Halted s.given.devices.installed.flushed = rw failed at is in subst (ConditionOf s) (sym answered) (halted (s.given.known.halted failed))
      | inr runs ↦ let answered : r ≡ made = rw runs at is in subst (ConditionOf s) (sym answered) condition
    ]

    uncalled_log : calls_log (unless_halted (store_in s) made) ≡ true → ⊥
    uncalled_log calls = elim (cases_Bool s.given.devices.halted) [
      | inl failed ↦ let none : calls_log (reply.Halted s.given.devices.installed.flushed) ≡ true = rw failed at calls in absurd cc
      | inr runs ↦ let some : calls_log made ≡ true = rw runs at calls in none_of (calls_log made) false (rw unlogged refl) some
    ]

    installs : is_installed (unless_halted (store_in s) made) ≡ true → is_installed made ≡ true
    installs is = elim (cases_Bool s.given.devices.halted) [
      | inl failed ↦ let none : is_installed (reply.Halted s.given.devices.installed.flushed) ≡ true = rw failed at is in absurd cc
      | inr runs ↦ rw runs at is
    ]

    by : IsReply (store_in s) client c answer → ConditionOf s answer
    by (inl is) = by_halted answer (is ∙ due_is)
    by (inr (inl failed)) = absurd (uncalled_log (subst (λ (r : Reply). calls_log r ≡ true) due_is failed.1))
    by (inr (inr failed)) = subst (ConditionOf s) (sym failed.0) (fault (ap is_tables_fault failed.0) (installs (subst (λ (r : Reply). is_installed r ≡ true) due_is failed.1)))

-- the history at the moment of the scene
at_front : {client : Client} {c : Command} {answer : Reply} (s : Scene client c answer) → take (length (front s)) s.evidence.history ≡ front s
at_front s = ap (λ (n : ℕ). take n s.evidence.history) (front_size s)

flush_fails : {client : Client} {answer : Reply} (s : Scene client command.Flush answer) → 1 ≤ length (unflushed (front s) s.given.devices.installed) → is_tables_fault answer ≡ true → FailsFlush s.evidence s.progress.last
flush_fails s some f =
    let asked = s.given.asked_edit f in record {
      at = length (front s);
      fresh = front_fresh s;
      some = rw (at_front s, ← asked.1) some;
      edit = rw (at_front s, ← asked.1) asked.0;
    }

-- ---- numbers from the base on

numbers_from : (base : ℕ) (snapshots : List LabelledSnapshot) → AreFrom base snapshots → AllByRecursion (λ n. base ≤ n) (numbers_of snapshots)
numbers_from base [] from = tt
numbers_from base (s ∷ snapshots) from = (from.0, numbers_from base snapshots from.1)

among_from : (base : ℕ) (numbers : List ℕ) → AllByRecursion (λ n. base ≤ n) numbers → (n : ℕ) → is_among numbers n ≡ true → base ≤ n
among_from base [] all n is = absurd cc
among_from base (m ∷ numbers) all n is = elim (or_cases (m == n) (is_among numbers n) is) [
  | inl here ↦ subst (λ (x : ℕ). base ≤ x) (eqb-true m n here) all.0
  | inr there ↦ among_from base numbers all.1 n there
]

among_back : (front back : List ℕ) (n : ℕ) → is_among back n ≡ true → is_among (front ++ back) n ≡ true
among_back [] back n is = is
among_back (m ∷ front) back n is = or_right (m == n) (is_among (front ++ back) n) (among_back front back n is)

live_from : {client : Client} {c : Command} {answer : Reply} (s : Scene client c answer) → AllByRecursion (λ n. s.evidence.base ≤ n) (live_of client)
live_from {client = client} s = joined_from s.evidence.base (numbers_of client.snapshots) (pins_of client.txn) (numbers_from s.evidence.base client.snapshots s.labels) s.pins

compaction_fails : {client : Client} {answer : Reply} (s : Scene client command.Compact answer) → nat_lt s.given.devices.installed.tables 2 ≡ false → is_tables_fault answer ≡ true → FailsCompaction s.evidence s.progress.last client
compaction_fails {client = client} s enough f =
    let asked = s.given.asked_edit f in record {
      at = length (front s);
      fresh = front_fresh s;
      two = rw (← asked.1) (ltb-false _ _ enough);
      live = live_of client;
      own = λ n is. is;
      from_base = among_from s.evidence.base (live_of client) (live_from s);
      edit = rw (at_front s, ← asked.1) asked.0;
    }

pub flush_allowed : {client : Client} {answer : Reply} (s : Scene client command.Flush answer) → IsAllowed s
flush_allowed {client = client} s = by (unflushed (front s) s.given.devices.installed) refl
  where
    by : (versions : List Version) → unflushed (front s) s.given.devices.installed ≡ versions → IsAllowed s
    by [] is = on_tables s reply.Nothing refl (ap (λ (vs : List Version). unless_halted (store_in s) (flushed (length (front s)) vs)) is) refl (seen, (s.given.devices.installed.flushed, s.given.known.flushed, none)) (λ f installs. absurd cc) (λ halted. halted)
      where
        seen : s.progress.last ≤ length s.evidence.history
        seen = omega (arith, s.low, s.given.earlier, s.given.grows, s.given.within)

        none : later_versions (take s.progress.last s.evidence.history) s.given.devices.installed.flushed ≡ []
        none =
            let low : s.progress.last ≤ s.given.before = omega (arith, s.low, s.given.earlier) in
            let parts : take s.progress.last s.evidence.history ++ drop s.progress.last (front s) ≡ front s = subst (λ (xs : List Entry). xs ++ drop s.progress.last (front s) ≡ front s) (front_take s.evidence.history s.progress.last s.given.before low) (take-append-drop s.progress.last (front s)) in
            none_above (take s.progress.last s.evidence.history) (drop s.progress.last (front s)) s.given.devices.installed.flushed s.given.devices.installed.flushed (rw parts is)
    by (v ∷ versions) is =
        on_tables s (reply.Flushed (length (front s)) (length (v ∷ versions))) refl (ap (λ (vs : List Version). unless_halted (store_in s) (flushed (length (front s)) vs)) is) refl
        (front_fresh s, omega arith, (s.given.devices.installed.flushed, s.given.known.flushed, ap (λ (xs : List Entry). length (later_versions xs s.given.devices.installed.flushed)) (at_front s) ∙ ap (λ (vs : List Version). length vs) is)) (λ f installs. flush_fails s (rw is (omega arith)) f) (λ halted. halted)

pub compact_allowed : {client : Client} {answer : Reply} (s : Scene client command.Compact answer) → IsAllowed s
compact_allowed {client = client} s =
    elim (cases_Bool (nat_lt s.given.devices.installed.tables 2)) [
      | inl few ↦ on_tables s reply.Nothing refl (ap (unless_halted (store_in s)) (rw few refl)) refl (few_known few s.given.known.counted) (λ f installs. absurd cc) (λ halted. halted)
      | inr enough ↦ on_tables s (reply.Compacted (length (front s)) (length kept)) refl (ap (unless_halted (store_in s)) (rw enough refl)) refl (front_fresh s, counted) (λ f installs. compaction_fails s enough f) (λ halted. halted)
    ]
  where
    numbers : List ℕ
    numbers = listed (live_of client) s.evidence.base s.given.devices.installed

    kept : List Version
    kept = retained (front s) numbers s.given.devices.installed

    few_known : nat_lt s.given.devices.installed.tables 2 ≡ true → (s.progress.tables ≤ s.given.devices.installed.tables) ⊎ IsKnown s.evidence OtherCompacted → HasNothingToMerge s.evidence s.progress.tables
    few_known few (inl counted) = inl (omega (arith, counted, ltb-true _ _ few))
    few_known few (inr known) = inr known

    counted : IsCompactionCount s.evidence.history s.evidence.base (length (front s)) (length kept)
    counted = λ keys has.
        let base = s.evidence.base in
        let stored = s.given.known.stored in
        let low : base ≤ s.given.before = omega (arith, s.based, s.low, s.given.earlier) in
        let there : HasKeysAt (front s) base keys = λ key value is. has key value (sym (value_in_front s.evidence.history key base s.given.before low) ∙ is) in
        let all = joined_from base (live_of client) (base ∷ s.given.devices.installed.segment.base ∷ []) (live_from s) (omega arith, (stored.from_base, tt)) in
        let bound = own_few (front s) (cut_at (front s) base) s.given.devices.installed.versions numbers keys stored.legal (record { within = stored.within; whole = stored.whole; is = refl }) stored.order
        (record {
          above = stored.within;
          listed = among_back (live_of client) (base ∷ s.given.devices.installed.segment.base ∷ []) base (or_left (base == base) (is_among (s.given.devices.installed.segment.base ∷ []) base) (eq-eqb base base refl));
          from_base = among_from base numbers all;
          part = λ key p value there. (stored.part key p value there).0;
          within = λ key p value there. (stored.part key p value there).1;
          gives = stored.gives;
        })
        there in
        let carried = ap (λ (f : List Entry). length (carried_versions (carried_of f))) (front_take s.evidence.history base s.given.before low) in
        let later = ap (λ (f : List Entry). length (later_versions f base)) (at_front s) in
        omega (arith, bound, carried, later)

-- ---- a renewal

-- it asks the log for no entry
pub asks_none : (history : List Entry) (last : ℕ) (txn : Txn) (entries : List Entry) → entries ≡ [] → AsksFor history last txn command.Renew entries
asks_none history last Idle entries none = none
asks_none history last (Open own) entries none = none
asks_none history last (Prepared p) entries none = none

-- the base goes up
base_below : {client : Client} {answer : Reply} (s : Scene client command.Renew answer) → (s.given.devices.installed.segment.base == length (front s)) ≡ false → s.given.devices.installed.segment.base < length (front s)
base_below s differs = let size = front_size s in let within = s.given.known.based.2 in elim (cases_lt s.given.devices.installed.segment.base (length (front s))) [
  | inl lower ↦ lower
  | inr high ↦ absurd (true≢false (sym (eq-eqb s.given.devices.installed.segment.base (length (front s)) (omega (arith, size, within, high))) ∙ differs))
]

renewal_fails : {client : Client} {answer : Reply} (s : Scene client command.Renew answer) → (s.given.devices.installed.segment.base == length (front s)) ≡ false → is_tables_fault answer ≡ true → FailsRenewal s.evidence s.progress.last
renewal_fails s differs f =
    let asked = s.given.asked_edit f in record {
      at = length (front s);
      fresh = front_fresh s;
      behind = let same = ap (λ (x : InstalledEdit). x.segment.base) asked.1 in let below = base_below s differs in omega (arith, same, below);
      place = s.given.place;
      edit = rw (at_front s, ← asked.1) asked.0;
    }

pub renew_allowed : {client : Client} {answer : Reply} (s : Scene client command.Renew answer) → IsAllowed s
renew_allowed {client = client} {answer = answer} s = by_condition s refl (by s.given.replied)
  where
    -- ... above the one that the client knows of
    below : (s.given.devices.installed.segment.base == length (front s)) ≡ false → s.progress.base < length (front s)
    below differs = let risen = s.given.known.based.1 in let installed = base_below s differs in omega (arith, risen, installed)

    by_due : (r : Reply) → r ≡ due (store_in s) client command.Renew → ConditionOf s r
    by_due r is = elim (cases_Bool s.given.devices.halted) [
      | inl failed ↦ let answered : r ≡ reply.Halted s.given.devices.installed.flushed = rw failed at is in subst (ConditionOf s) (sym answered) (s.given.known.halted failed)
      | inr runs ↦ elim (cases_Bool s.given.devices.stopped) [
        | inl closed ↦
            let answered : r ≡ reply.Stopped (length (front s)) = rw (runs, closed) at is in
            subst (ConditionOf s) (sym answered) (inr refl, front_fresh s, subst (λ (n : ℕ). IsKnown s.evidence (LogStopped n)) (sym (front_size s)) (s.given.known.stopped closed))
        | inr open_ ↦ elim (cases_Bool (s.given.devices.installed.segment.base == length (front s))) [
          | inl same ↦
              let answered : r ≡ reply.Nothing = rw (runs, open_, same) at is in
              let at = eqb-true s.given.devices.installed.segment.base (length (front s)) same in
              subst (ConditionOf s) (sym answered) (s.given.devices.installed.segment.base, s.given.known.based.0, omega (arith, at, (front_fresh s).0))
          | inr differs ↦
              let answered : r ≡ reply.Renewed (length (front s)) (length (undecided (front s))) = rw (runs, open_, differs) at is in
              subst (ConditionOf s) (sym answered) (front_fresh s, below differs, ap (λ (f : List Entry). length (undecided f)) (sym (at_front s)))
        ]
      ]
    ]

    more : s.given.devices.installed.segment ≡ s.evidence.installed.segment → (s.given.devices.installed.segment.base == length (front s)) ≡ false → s.evidence.installed.segment.base < length s.evidence.history
    more segment other = let same = ap (λ (x : Segment). x.base) segment in let below = base_below s other in let high = (front_fresh s).1 in omega (arith, same, below, high)

    -- what installs an edit, or calls the log, found another base
    differs : (is_such : Reply → Bool) → is_such (reply.Halted s.given.devices.installed.flushed) ≡ false → is_such (reply.Stopped (length (front s))) ≡ false → is_such reply.Nothing ≡ false
        → is_such (due (store_in s) client command.Renew) ≡ true → (s.given.devices.installed.segment.base == length (front s)) ≡ false
    differs is_such halted stopped nothing is = elim (cases_Bool s.given.devices.halted) [
      | inl failed ↦ let such : is_such (reply.Halted s.given.devices.installed.flushed) ≡ true = rw failed at is in absurd (true≢false (sym such ∙ halted))
      | inr runs ↦ elim (cases_Bool s.given.devices.stopped) [
        | inl closed ↦ let such : is_such (reply.Stopped (length (front s))) ≡ true = rw (runs, closed) at is in absurd (true≢false (sym such ∙ stopped))
        | inr open_ ↦ elim (cases_Bool (s.given.devices.installed.segment.base == length (front s))) [
          | inl same ↦ let such : is_such reply.Nothing ≡ true = rw (runs, open_, same) at is in absurd (true≢false (sym such ∙ nothing))
          | inr other ↦ other
        ]
      ]
    ]

    by : IsReply (store_in s) client command.Renew answer → ConditionOf s answer
    by (inl is) = by_due answer is
    by (inr (inl failed)) = subst (ConditionOf s) (sym failed.0) (let asked = s.given.asked (ap is_fault failed.0) in (asks_none s.evidence.history s.progress.last client.txn s.evidence.failed.entries asked.0, more asked.1 (differs calls_log refl refl refl failed.1)))
    by (inr (inr failed)) = subst (ConditionOf s) (sym failed.0) (renewal_fails s (differs is_installed refl refl refl failed.1) (ap is_tables_fault failed.0))
