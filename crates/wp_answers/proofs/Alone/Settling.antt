-- What a client is answered that is alone and settles several prepared transactions.
use Rattle.std.proofs.Common.{◌≡◌, ◌≢◌, inl, inr, ℕ, ◌+◌, ◌≤◌, List, [], ◌∷◌, ◌++◌, length, map, Option, Some, None, refl, sym, subst, ap, ◌∙◌, append-nil, length-append, false, arith}
use Rattle.std.specs.Prelude.{AllPairs}
use Rattle.std.specs.List.{AllByRecursion}
use Rattle.std.proofs.lemmas.List.{length-map}
use Rattle.wp_model.specs.CachePlace.{NoneShare, first_crowded}
use Rattle.wp_model.proofs.CachePlaces.{none_crowded}
use Rattle.wp_model.proofs.Tests.{same_some}
use Rattle.wp_model.specs.declared.entry.Entry.{Entry}
use Rattle.wp_model.specs.declared.entry.Entry.TheVariants as entry
use Rattle.wp_model.specs.Flushed.{InstalledEdit}
use Rattle.wp_model.specs.History.{is_prepare, named}
use Rattle.wp_model.specs.Legal.{IsLegal}
use Rattle.wp_text.specs.declared.script.Command.{Command}
use Rattle.wp_text.specs.declared.script.Command.TheVariants as command
use Rattle.wp_text.specs.declared.reply.Reply.{Reply}
use Rattle.wp_text.specs.declared.reply.Reply.TheVariants as reply
use Rattle.wp_core.specs.Lists.{IsIn}
use Rattle.wp_core.specs.Sound.Actors.{StartsWith}
use Rattle.wp_core.specs.Sound.Pasts.{last_installed}
use Rattle.wp_core.specs.Views.{Event, took, told, locks_stay}
use Rattle.wp_core.specs.World.{Participant, World}
use Rattle.wp_records.specs.Records.{IsAboutNone}
use Rattle.wp_shared.specs.Calls.{ContinuesWith}
use Rattle.wp_shared.specs.Seats.{SharedState, SeatState, Stands}
use Rattle.wp_open_txns.specs.declared.error.TxnError.{TxnError}
use Rattle.wp_open_txns.specs.declared.error.TxnError.TheVariants.{Memory, Crowded, Unknown, InUse, NumbersFull, LogFault, Stopped}
use Rattle.wp_open_txns.specs.Txn.{PreparedState}
use Rattle.wp_txn.specs.Groups.{numbers_of, their_commits, CommitsAll, RefusesAll}
use Rattle.wp_replies.specs.declared.client.LabelledSnapshot.{LabelledSnapshot}
use Rattle.wp_replies.specs.declared.plan.Plan.{Plan}
use Rattle.wp_replies.specs.declared.plan.Plan.TheVariants as plans
use Rattle.wp_replies.specs.Txn.{Idle}
use Rattle.wp_replies.specs.Client.{Client}
use Rattle.wp_replies.specs.Due.{Store, plan_in, logged, unless_crowded, reply_to}
use Rattle.wp_replies.specs.Plan.{refused_or, settling, with_named, settle_names, asked_of}
use Rattle.wp_replies.specs.Replies.{AreNamed}
use Rattle.wp_client.specs.Alone.{IsOnly, IsStoreOf, AreLockedIn, AnswersAlone}
use Rattle.wp_client.specs.Replies.{refusal}
use Rattle.wp_client.proofs.Alone.Kept.{locked_unprepared, locked_each}
use Rattle.wp_client.proofs.Alone.Names.{never_in_use}
use Rattle.wp_client.proofs.Alone.Quiet.{quiet_answers}
use Rattle.wp_client.proofs.Alone.Seated.{AreQuiet, Follows, follows_on, seen_still}
use Rattle.wp_answers.specs.Settling.{takes_of, having_taken, TakesAll, IsOfNone, GivesUpTo, RefusesOne}
use Rattle.wp_answers.proofs.Alone.Logged.{AsksFor, put_answers, stopped_answers, full_answers, fault_answers}
use Rattle.wp_answers.proofs.Settles.{takes_log, takes_tables, settle_free, ComesBack, seen_same, comes_plain, is_none, refused_here, number_is, size, put_settled}
use Rattle.wp_answers.proofs.Taking.{found_named_all}

-- ---- the takes

takes_edits : (names : List (List ℕ)) (edit : InstalledEdit) → last_installed edit (takes_of names) ≡ edit
takes_edits [] edit = refl
takes_edits (name ∷ names) edit = takes_edits names edit

takes_untold : (names : List (List ℕ)) (label : List ℕ) (n : ℕ) → IsIn (told label n) (takes_of names) → ⊥
takes_untold [] label n there = there
takes_untold (name ∷ names) label n (inl same) = let e : took name ≡ told label n = same in absurd cc
takes_untold (name ∷ names) label n (inr there) = takes_untold names label n there

takes_quiet : (names : List (List ℕ)) → AreQuiet (takes_of names)
takes_quiet names = record { log = takes_log names; leave = record { tables = takes_tables names; edits = takes_edits names; told = takes_untold names } }

-- ---- what it comes to

-- the first one that is no undecided prepare's is told
settle_unknown : (history : List Entry) (before : List (List ℕ)) (numbers : List ℕ) (name : List ℕ) (after : List (List ℕ)) → AreNamed history before numbers → named history name ≡ None → settle_names history (before ++ name ∷ after) ≡ plans.Say (reply.Unknown name (length history))
settle_unknown history [] [] name after are none = ap (λ (o : Option ℕ). with_named history o name (settle_names history after)) none
settle_unknown history [] (p ∷ numbers) name after are none = absurd are
settle_unknown history (other ∷ before) [] name after are none = absurd are
settle_unknown history (other ∷ before) (p ∷ numbers) name after are none =
    ap (λ (o : Option ℕ). with_named history o other (settle_names history (before ++ name ∷ after))) are.0 ∙ ap (settling p) (settle_unknown history before numbers name after are.1 none)

settle_all : (history : List Entry) (names : List (List ℕ)) (numbers : List ℕ) → AreNamed history names numbers → settle_names history names ≡ plans.Settle numbers
settle_all history [] [] are = refl
settle_all history [] (p ∷ numbers) are = absurd are
settle_all history (name ∷ names) [] are = absurd are
settle_all history (name ∷ names) (p ∷ numbers) are = ap (λ (o : Option ℕ). with_named history o name (settle_names history names)) are.0 ∙ ap (settling p) (settle_all history names numbers are.1)

none_prepares : (numbers : List ℕ) → AllByRecursion (λ e. is_prepare (Some e) ≡ false) (map (λ p. entry.Commit p) numbers)
none_prepares [] = tt
none_prepares (p ∷ numbers) = (refl, none_prepares numbers)

-- Commits end no fact of keys that stay held
about_none : (history : List Entry) (numbers : List ℕ) (name : List ℕ) (q : ℕ) (keys : List (List ℕ)) → IsAboutNone history (map (λ p. entry.Commit p) numbers) (locks_stay name q keys)
about_none history [] name q keys = tt
about_none history (p ∷ numbers) name q keys = (refl, about_none (history ++ entry.Commit p ∷ []) numbers name q keys)

-- what was seen between two times, where nothing more was seen
seen_between : (one two three : List Entry) → StartsWith two one → StartsWith three two → three ≡ one → two ≡ one
seen_between one two three first second same = by first.0 first.1
  where
    by : (more : List Entry) → two ≡ one ++ more → two ≡ one
    by [] e = e ∙ append-nil one
    by (x ∷ more) e =
        let a : length two ≡ length (one ++ x ∷ more) = ap (λ (h : List Entry). length h) e in let b = length-append one (x ∷ more) in
        let c : length three ≡ length (two ++ second.0) = ap (λ (h : List Entry). length h) second.1 in let d = length-append two second.0 in let all : length three ≡ length one = ap (λ (h : List Entry). length h) same in absurd (omega (arith, a, b, c, d, all))

module _ {D : Type 0} (z : SharedState D) (first : InstalledEdit) (old new : SeatState) (only : IsOnly old) (store : Store) (is : IsStoreOf z first old.knows.participant store) (stood : (w : World) × Stands z new w) (names : List (List ℕ)) (some : 1 ≤ length names) (snapshots : List LabelledSnapshot) where
  abbrev me : Client
  me = record { txn = Idle; snapshots = snapshots }

  abbrev asked : Command
  asked = command.Settle names

  abbrev mine : Participant
  mine = old.knows.participant

  abbrev back : List (List ℕ) → Participant
  back taken = having_taken taken new.knows.participant.transactions mine

  plan_is : (p : Plan) → settle_names store.history names ≡ p → plan_in store me asked ≡ p
  plan_is p so = ap (λ (o : Option Reply). refused_or o (settle_names store.history names)) (settle_free names some) ∙ so

  -- the client had prepared nothing, and what it noted of keys stays
  locks_back : (p : Participant) → ContinuesWith IsOfNone z old new p → AreLockedIn z old Idle store → AreLockedIn z new Idle store
  locks_back p goes = locked_unprepared z old new (λ name q keys. goes.notes (locks_stay name q keys) (refl, λ n. refl)) Idle Idle store.history store.locked tt

  follows_back : (events : List Event) → ComesBack z old new events → Follows old new [] events
  follows_back events k = follows_on IsOfNone z old new _ k.goes events refl refl

  -- ---- one of them is not taken

  pub not_taken_alone : AllPairs ◌≢◌ names → (why : TxnError) (r : Reply) → refusal why ≡ Some r → RefusesOne z old names why new → AnswersAlone z first old new me me asked r store
  not_taken_alone differ (Unknown other at) r answered k = subst (λ (x : Reply). AnswersAlone z first old new me me asked x store) (ap (λ (n : List ℕ). reply.Unknown n at) (sym k.refused.0) ∙ same_some (reply.Unknown other at) r answered)
      (let comes = comes_plain z old k.mid k.behind new k.before k.txns k.taken k.leaves k.refused.3 in let f = follows_back (takes_of k.before) comes in
      let seen : k.behind.knows.participant.seen ≡ store.history = sym (seen_same z old k.mid k.behind new k.before k.txns k.taken k.leaves) ∙ seen_still z first old new only store is stood (takes_of k.before) f in
      let number : at ≡ length store.history = k.refused.1 ∙ ap (λ (h : List Entry). length h) seen in
      let due_is : plan_in store me asked ≡ plans.Say (reply.Unknown k.name (length store.history)) =
      plan_is _ (ap (settle_names store.history) k.place ∙ settle_unknown store.history k.before (numbers_of k.txns) k.name k.after (subst (λ (h : List Entry). AreNamed h k.before (numbers_of k.txns)) seen k.named) (ap (λ (h : List Entry). named h k.name) (sym seen) ∙ k.refused.2)) in
      quiet_answers z first old new only store is stood (takes_of k.before) f (takes_quiet k.before) me me asked (reply.Unknown k.name at)
      (record { logged = refl; fault = refl; installed = refl; tables = refl; board = λ b. refl })
      (inl (ap (λ (n : ℕ). reply.Unknown k.name n) number ∙ sym (ap (reply_to store me) due_is))) refl (locks_back _ comes.goes))
  not_taken_alone differ (InUse other) r answered k =
      let only_mid : IsOnly k.mid = record { by = k.taken.goes_on.same_by ∙ only.by; made = k.taken.goes_on.made ∙ only.made; joined = k.taken.goes_on.joined ∙ only.joined } in
      absurd (never_in_use z k.mid k.behind only_mid k.name other (is_none z old new names some snapshots k.before k.name k.after k.place differ k.txns k.mid k.behind k.taken k.named k.leaves) k.refused)
  not_taken_alone differ Memory r answered k = absurd cc
  not_taken_alone differ _ r answered k = absurd k.refused

  -- ---- all of them are taken

  module _ (txns : List PreparedState) (mid : SeatState) (all : TakesAll z old names txns mid) where
    many_numbers : length (numbers_of txns) ≡ length txns
    many_numbers = length-map txns (λ (t : PreparedState). t.number)

    -- so many Commits, which that reply acknowledges
    settle_asks : AreNamed store.history names (numbers_of txns) → NoneShare z.cells (numbers_of txns) → (m : ℕ) → length (numbers_of txns) ≡ m → AsksFor store me asked m (reply.Settled (length store.history + m) m) (their_commits txns)
    settle_asks are share m many =
        let plan = plan_is _ (settle_all store.history names (numbers_of txns) are) in
        let free : first_crowded store.cells (numbers_of txns) ≡ None = none_crowded store.cells (numbers_of txns) (subst (λ (cells : ℕ). NoneShare cells (numbers_of txns)) (sym is.cells) share) in record {
          due_is = ap (reply_to store me) plan
              ∙ (ap (λ (o : Option (ℕ × ℕ)). unless_crowded o (logged store (length (numbers_of txns)) (reply.Settled (length store.history + length (numbers_of txns)) (length (numbers_of txns))))) free
              ∙ ap (λ (n : ℕ). logged store n (reply.Settled (length store.history + n) n)) many);
          asked = ap asked_of plan;
          logged = refl;
          fault = refl;
          installed = refl;
          tables = refl;
          board = λ b r. refl;
        }

    -- ---- they are refused

    module _ (behind : SeatState) (leaves : GivesUpTo z behind new []) where
      -- as they were named then they are in the store
      named_in_store : StartsWith behind.knows.participant.seen mid.knows.participant.seen → new.knows.participant.seen ≡ store.history → AreNamed store.history names (numbers_of txns)
      named_in_store grown seen =
          let last : behind.knows.participant.seen ≡ mine.seen = sym (seen_same z old mid behind new names txns all.taken leaves) ∙ (seen ∙ is.history) in
          subst (λ (h : List Entry). AreNamed h names (numbers_of txns)) (seen_between mine.seen mid.knows.participant.seen behind.knows.participant.seen all.taken.goes_on.seen grown last ∙ sym is.history) all.named

      pub not_settled_alone : (why : TxnError) (r : Reply) → refusal why ≡ Some r → RefusesAll z mid txns why behind → AnswersAlone z first old new me me asked r store
      not_settled_alone (Crowded p q) r answered k = subst (λ (x : Reply). AnswersAlone z first old new me me asked x store) (same_some (reply.Crowded p q) r answered)
          (let comes = comes_plain z old mid behind new names txns all.taken leaves k.1 in let f = follows_back (takes_of names) comes in
          let are = named_in_store k.1.seen (seen_still z first old new only store is stood (takes_of names) f) in
          let crowded : first_crowded store.cells (numbers_of txns) ≡ Some (p, q) = ap (λ (cells : ℕ). first_crowded cells (numbers_of txns)) is.cells ∙ k.0 in
          quiet_answers z first old new only store is stood (takes_of names) f (takes_quiet names) me me asked (reply.Crowded p q)
          (record { logged = refl; fault = refl; installed = refl; tables = refl; board = λ b. refl })
          (inl (sym (ap (reply_to store me) (plan_is _ (settle_all store.history names (numbers_of txns) are))
          ∙ ap (λ (o : Option (ℕ × ℕ)). unless_crowded o (logged store (length (numbers_of txns)) (reply.Settled (length store.history + length (numbers_of txns)) (length (numbers_of txns))))) crowded))) refl (locks_back _ comes.goes))
      not_settled_alone Memory r answered k = absurd cc
      not_settled_alone (Stopped n) r answered k = subst (λ (x : Reply). AnswersAlone z first old new me me asked x store) (same_some (reply.Stopped n) r answered)
          (stopped_answers z first old new only store is stood IsOfNone (having_taken names mid.knows.participant.transactions mine) (back names) (takes_of names) refl refl refl (takes_quiet names) (length txns) (λ es. es ≡ their_commits txns) me asked (reply.Settled (length store.history + length txns) (length txns)) (their_commits txns)
          (λ closed found seen. settle_asks (named_in_store k.1.2.seen seen) k.0 (length txns) many_numbers) (λ p same goes. locks_back p goes) n (refused_here z old new names some snapshots txns mid all behind leaves (Stopped n) k.1) refl)
      not_settled_alone (NumbersFull published limit) r answered k = subst (λ (x : Reply). AnswersAlone z first old new me me asked x store) (same_some (reply.Full published limit) r answered)
          (full_answers z first old new only store is stood IsOfNone (having_taken names mid.knows.participant.transactions mine) (back names) (takes_of names) refl refl refl (takes_quiet names) (length txns) (λ es. es ≡ their_commits txns) me asked (reply.Settled (length store.history + length txns) (length txns)) (their_commits txns)
          (λ closed found seen. settle_asks (named_in_store k.1.4.seen seen) k.0 (length txns) many_numbers) (λ p same goes. locks_back p goes) published limit (refused_here z old new names some snapshots txns mid all behind leaves (NumbersFull published limit) k.1) refl)
      not_settled_alone LogFault r answered k = subst (λ (x : Reply). AnswersAlone z first old new me me asked x store) (same_some reply.FaultLog r answered)
          (fault_answers z first old new only store is stood IsOfNone (having_taken names mid.knows.participant.transactions mine) (back names) (takes_of names) refl refl refl (takes_quiet names) (length txns) (λ es. es ≡ their_commits txns) me asked (reply.Settled (length store.history + length txns) (length txns)) (their_commits txns)
          (λ closed found seen. settle_asks (named_in_store k.1.2.2.seen seen) k.0 (length txns) many_numbers) (λ p same goes. locks_back p goes) (λ es seen same. same) (refused_here z old new names some snapshots txns mid all behind leaves LogFault k.1) refl)
      not_settled_alone _ r answered k = absurd k.1

    -- ---- they are settled

    pub settled_alone : (n count : ℕ) (many : count ≡ length txns) (k : CommitsAll z mid txns n new) → AnswersAlone z first old new me me asked (reply.Settled n count) store
    settled_alone n count many k =
        let history = k.history in let entries = their_commits txns in
        let so_many : length entries ≡ count = size z old new names some snapshots txns mid all n count many k in
        let last : n ≡ length history + count = number_is z old new names some snapshots txns mid all n count many k in
        put_answers z first old new only store is stood IsOfNone (having_taken names mid.knows.participant.transactions mine) (back names) (takes_of names) refl refl refl (takes_quiet names) history entries (put_settled z old new names some snapshots txns mid all n count many k) me me asked (reply.Settled n count)
        (λ behind legal.
        let are : AreNamed store.history names (numbers_of txns) = subst (λ (h : List Entry). AreNamed h names (numbers_of txns)) behind (subst (λ (ns : List (List ℕ)). AreNamed history ns (numbers_of txns)) all.taken.names_are (found_named_all z mid history false k.put.found_log txns all.taken.holds.have.0)) in
        let number : length store.history + length entries ≡ n = sym (last ∙ (ap (λ (h : List Entry). length h + count) behind ∙ ap (λ (m : ℕ). length store.history + m) (sym so_many))) in
        subst (λ (x : ℕ × ℕ). AsksFor store me asked (length entries) (reply.Settled x.0 x.1) entries) (λ i. (number i, so_many i)) (settle_asks are k.none_share (length entries) (sym (length-map (numbers_of txns) (λ p. entry.Commit p)))))
        refl
        (λ behind legal are. locked_each z new store.history entries (subst (λ (h : List Entry). IsLegal (h ++ entries)) behind legal) store.locked (none_prepares (numbers_of txns))
        (locked_unprepared z old new (λ name q keys. (put_settled z old new names some snapshots txns mid all n count many k).goes_on.notes (locks_stay name q keys) ((refl, λ m. refl), about_none history (numbers_of txns) name q keys)) Idle Idle store.history store.locked tt are))
