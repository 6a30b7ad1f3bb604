-- The reply to a settle that is due at a moment of a history is one that the table allows.
use Rattle.std.proofs.Common.{◌≡◌, ℕ, suc, ◌+◌, ◌≤◌, ◌⊎◌, List, [], ◌∷◌, ◌++◌, length, take, Option, Some, None, refl, sym, ap, ◌∙◌, subst, append_assoc, length-append, arith, inl, inr}
use Rattle.std.specs.List.{AllByRecursion}
use Rattle.std.proofs.lemmas.Slice.Zip.{AllZip-long}
use Rattle.wp_model.specs.declared.entry.Entry.{Entry}
use Rattle.wp_model.specs.declared.entry.Entry.TheVariants as entry
use Rattle.wp_model.specs.CachePlace.{first_crowded}
use Rattle.wp_model.specs.History.{entry_at, named}
use Rattle.wp_text.specs.declared.script.Command.TheVariants as command
use Rattle.wp_text.specs.declared.reply.Reply.{Reply}
use Rattle.wp_text.specs.declared.reply.Reply.TheVariants as reply
use Rattle.wp_replies.specs.Txn.{Txn, Idle, Open, Prepared}
use Rattle.wp_replies.specs.declared.plan.Plan.{Plan}
use Rattle.wp_replies.specs.declared.plan.Plan.TheVariants.{Say, Settle}
use Rattle.wp_replies.specs.Client.{Client}
use Rattle.wp_replies.specs.Replies.{refusal_of, unless_idle, WasUndecided, AsksFor, AreNamed, AreCommitted, SettlesAll, needed}
use Rattle.wp_replies.specs.Plan.{asked_of, commits_of, with_named, settling, settle_names, settle_plan}
use Rattle.wp_replies.specs.Due.{plan_in, due, reply_to, logged, unless_crowded}
use Rattle.wp_replies.proofs.Settles.{all_map}
use Rattle.wp_replies.proofs.Scenes.{entry_in_front, next_entry, Scene, front, was_in, store_in, IsAllowed, front_size, front_fresh, say_refused, say_allowed, board_allowed, log_allowed, entries_in}

-- ---- the plan

-- the first name that has no undecided prepare
record IsFirstUnnamed (history : List Entry) (names : List (List ℕ)) (made : Plan) : Type 0 where
  name : List ℕ
  before : List (List ℕ)
  after : List (List ℕ)
  says : made ≡ Say (reply.Unknown name (length history))
  place : names ≡ before ++ name ∷ after
  none : named history name ≡ None
  others : AllByRecursion (λ other. (p : ℕ) × (named history other ≡ Some p)) before

abbrev Settles : List Entry → List (List ℕ) → Plan → Type 0
Settles history names made = ((numbers : List ℕ) × (made ≡ Settle numbers) × AreNamed history names numbers) ⊎ IsFirstUnnamed history names made

settles_or_unknown : (history : List Entry) (names : List (List ℕ)) → Settles history names (settle_names history names)
settles_or_unknown history [] = inl ([], refl, tt)
settles_or_unknown history (name ∷ names) = by (named history name) refl (settle_names history names) (settles_or_unknown history names)
  where
    by : (holder : Option ℕ) → named history name ≡ holder → (rest : Plan) → Settles history names rest → Settles history (name ∷ names) (with_named history (named history name) name rest)
    by None is rest made = inr (record { name = name; before = []; after = names; says = ap (λ (o : Option ℕ). with_named history o name rest) is; place = refl; none = is; others = tt })
    by (Some p) is rest (inl (numbers, says, are)) = inl (p ∷ numbers, ap (λ (o : Option ℕ). with_named history o name rest) is ∙ ap (settling p) says, (is, are))
    by (Some p) is rest (inr made) = inr (record {
      name = made.name;
      before = name ∷ made.before;
      after = made.after;
      says = ap (λ (o : Option ℕ). with_named history o name rest) is ∙ ap (settling p) made.says;
      place = ap (λ (xs : List (List ℕ)). name ∷ xs) made.place;
      none = made.none;
      others = ((p, is), made.others);
    })

-- ---- the Commits

-- they stand in the history behind what was published
commits_behind : (h : List Entry) (last after : ℕ) (front : List Entry) (numbers : List ℕ) → last ≤ length front → take after h ≡ front ++ commits_of numbers → AreCommitted h last (length front) numbers
commits_behind h last after front [] low all = tt
commits_behind h last after front (p ∷ numbers) low all =
    let more : length (front ++ entry.Commit p ∷ []) ≡ suc (length front) = omega (arith, length-append front (entry.Commit p ∷ [])) in
    let here : entry_at h (suc (length front)) ≡ Some (entry.Commit p) = entry_in_front h after (suc (length front)) (entry.Commit p) (subst (λ (xs : List Entry). entry_at xs (suc (length front)) ≡ Some (entry.Commit p)) (sym all) (next_entry front (commits_of numbers) (entry.Commit p) (suc (length front)) (omega arith))) in
    let rest = commits_behind h last after (front ++ entry.Commit p ∷ []) numbers (omega (arith, low, more)) (all ∙ sym (append_assoc front (entry.Commit p ∷ []) (commits_of numbers))) in
    ((omega (arith, low), here), subst (λ (n : ℕ). AreCommitted h last n numbers) more rest)

module _ {client : Client} {answer : Reply} (names : List (List ℕ)) (s : Scene client (command.Settle names) answer) where
  at_front : take (length (front s)) s.evidence.history ≡ front s
  at_front = ap (λ (n : ℕ). take n s.evidence.history) (front_size s)

  -- each Commit is of a prepare that had the name
  commits_asked : (some : List (List ℕ)) (numbers : List ℕ) → AreNamed (front s) some numbers → AsksFor s.evidence.history s.progress.last Idle (command.Settle some) (commits_of numbers)
  commits_asked [] [] are = tt
  commits_asked [] (p ∷ numbers) are = absurd are
  commits_asked (name ∷ some) [] are = absurd are
  commits_asked (name ∷ some) (p ∷ numbers) are = ((p, refl, was_in s name p are.0), commits_asked some numbers are.1)

  unknown_allowed : client.txn ≡ Idle → refusal_of client (command.Settle names) ≡ None → IsFirstUnnamed (front s) names (plan_in (store_in s) client (command.Settle names)) → IsAllowed s
  unknown_allowed idle free k =
      say_allowed s (reply.Unknown k.name (length (front s))) k.says refl free (
        idle,
        record { before = k.before; after = k.after; place = k.place; undecided = all_map (λ other. (p : ℕ) × (named (front s) other ≡ Some p)) (λ other. (p : ℕ) × WasUndecided s.evidence.history s.progress.last other p) (λ other x. (x.0, was_in s other x.0 x.1)) k.before k.others },
        front_fresh s,
        ap (λ (xs : List Entry). named xs k.name) at_front ∙ k.none,
      )

  module _ (numbers : List ℕ) (plan_is : plan_in (store_in s) client (command.Settle names) ≡ Settle numbers) (are : AreNamed (front s) names numbers) (idle : client.txn ≡ Idle) (free : refusal_of client (command.Settle names) ≡ None) (some : 1 ≤ length names) where
    as_many : length numbers ≡ length names
    as_many = AllZip-long (λ name p. named (front s) name ≡ Some p) names numbers are

    due_is : (pair : Option (ℕ × ℕ)) → first_crowded s.evidence.limits.cells numbers ≡ pair → due (store_in s) client (command.Settle names) ≡ unless_crowded pair (logged (store_in s) (length numbers) (reply.Settled (length (front s) + length numbers) (length numbers)))
    due_is pair is = ap (reply_to (store_in s) client) plan_is ∙ ap (λ (o : Option (ℕ × ℕ)). unless_crowded o (logged (store_in s) (length numbers) (reply.Settled (length (front s) + length numbers) (length numbers)))) is

    settles : answer ≡ reply.Settled (length (front s) + length numbers) (length numbers) → SettlesAll s.evidence.history s.progress.last names (length (front s) + length numbers) (length numbers)
    settles answered = record {
      all = as_many;
      some = omega (arith, some, as_many);
      published = length (front s);
      behind = refl;
      numbers = numbers;
      named = subst (λ (xs : List Entry). AreNamed xs names numbers) (sym at_front) are;
      committed = commits_behind s.evidence.history s.progress.last s.given.after (front s) numbers (front_fresh s).0 (entries_in s (Settle numbers) (reply.Settled (length (front s) + length numbers) (length numbers)) plan_is refl answered);
    }

    group_allowed : (pair : Option (ℕ × ℕ)) → first_crowded s.evidence.limits.cells numbers ≡ pair → IsAllowed s
    group_allowed (Some pair) is =
        board_allowed s (reply.Crowded pair.0 pair.1) (due_is (Some pair) is) refl free (idle, record { at = length (front s); fresh = front_fresh s; numbers = numbers; named = subst (λ (xs : List Entry). AreNamed xs names numbers) (sym at_front) are; crowded = is })
    group_allowed None is =
        log_allowed s (length numbers) (reply.Settled (length (front s) + length numbers) (length numbers)) free
        (ap (λ (t : Txn). needed t (command.Settle names)) idle ∙ sym as_many)
        (omega (arith, some, as_many))
        (subst (λ (t : Txn). AsksFor s.evidence.history s.progress.last t (command.Settle names) (asked_of (plan_in (store_in s) client (command.Settle names)))) (sym idle) (subst (λ (x : Plan). AsksFor s.evidence.history s.progress.last Idle (command.Settle names) (asked_of x)) (sym plan_is) (commits_asked names numbers are)))
        (due_is None is)
        refl
        (λ answered. (idle, settles answered))

pub settle_allowed : {client : Client} {answer : Reply} (names : List (List ℕ)) (s : Scene client (command.Settle names) answer) → IsAllowed s
settle_allowed {client = client} [] s = say_refused s reply.State refl refl refl
settle_allowed {client = client} (name ∷ names) s = by client.txn refl
  where
    by_plan : client.txn ≡ Idle → Settles (front s) (name ∷ names) (settle_names (front s) (name ∷ names)) → IsAllowed s
    by_plan idle (inl (numbers, says, are)) = group_allowed (name ∷ names) s numbers (ap (λ (t : Txn). settle_plan (front s) t (name ∷ names)) idle ∙ says) are idle (ap unless_idle idle) (omega arith) (first_crowded s.evidence.limits.cells numbers) refl
    by_plan idle (inr k) = unknown_allowed (name ∷ names) s idle (ap unless_idle idle) (record {
      name = k.name;
      before = k.before;
      after = k.after;
      says = ap (λ (t : Txn). settle_plan (front s) t (name ∷ names)) idle ∙ k.says;
      place = k.place;
      none = k.none;
      others = k.others;
    })

    by : (txn : Txn) → client.txn ≡ txn → IsAllowed s
    by Idle is = by_plan is (settles_or_unknown (front s) (name ∷ names))
    by (Open own) is = say_refused s reply.State (ap (λ (t : Txn). settle_plan (front s) t (name ∷ names)) is) refl (ap unless_idle is)
    by (Prepared p) is = say_refused s reply.State (ap (λ (t : Txn). settle_plan (front s) t (name ∷ names)) is) refl (ap unless_idle is)
