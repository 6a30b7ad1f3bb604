-- What a client is answered that compacts.
use Rattle.std.proofs.Common.{◌≡◌, inl, inr, ℕ, ◌≤◌, ◌<◌, true, List, [], ◌∷◌, ◌++◌, length, map, take, drop, Option, Some, None, refl, sym, subst, ap, ◌∙◌, arith, ◌==◌, eq-eqb}
use Rattle.std.specs.Prelude.{slice_index_or, Result, Ok, Err, IfSome, min, nat_lt}
use Rattle.std.specs.List.{Contains, list_any}
use Rattle.std.specs.Option.{option_map}
use Rattle.std.proofs.lemmas.Bool.{cases_Bool, eqb-true}
use Rattle.std.proofs.lemmas.Bool.Decides.{nat_tests}
use Rattle.std.proofs.lemmas.List.{map-append, take-append-drop, length-take-le}
use Rattle.std.proofs.lemmas.List.Folds.{list_any_at}
use Rattle.wp_model.specs.declared.entry.Entry.{Entry}
use Rattle.wp_model.specs.Flushed.{InstalledEdit}
use Rattle.wp_model.specs.Snapshots.{Snapshots, IsLive}
use Rattle.wp_text.specs.declared.script.Command.TheVariants as command
use Rattle.wp_text.specs.declared.reply.Reply.{Reply}
use Rattle.wp_text.specs.declared.reply.Reply.TheVariants as reply
use Rattle.wp_core.specs.Changes.{is_same_registration}
use Rattle.wp_core.specs.Lists.{IsIn, one_if}
use Rattle.wp_core.specs.Reading.{Registration}
use Rattle.wp_core.specs.Sound.Actors.{StartsWith}
use Rattle.wp_core.specs.Sound.Pasts.{tables_due}
use Rattle.wp_core.specs.States.{Installed}
use Rattle.wp_core.specs.Views.{Event, installed}
use Rattle.wp_core.specs.World.{Participant}
use Rattle.wp_core.proofs.KeepsSeen.{shorter}
use Rattle.wp_core.proofs.Registered.{registered_live}
use Rattle.wp_model.proofs.Tests.{same_some}
use Rattle.wp_rule.proofs.Knows.{at_sound, one_was_first}
use Rattle.wp_parts.specs.Parts.{content}
use Rattle.wp_shared.specs.Seats.{SharedState, SeatState, place_at}
use Rattle.wp_read.specs.Registers as pins
use Rattle.wp_maint.specs.declared.done.Done.{Done}
use Rattle.wp_maint.specs.declared.error.MaintError.{MaintError}
use Rattle.wp_maint.specs.declared.error.MaintError.TheVariants.{Memory, Nothing, TableFault, TablesStopped}
use Rattle.wp_maint.specs.Calls.{found_by}
use Rattle.wp_compact.specs.Calls.{FewTables, SeveralTables, HasPinned, IsCompactionOf, Compacts}
use Rattle.wp_replies.specs.Client.{Client, number_if, numbers_of, pins_of, live_of}
use Rattle.wp_replies.specs.Progress.{Progress}
use Rattle.wp_replies.specs.Replies.{Evidence, OtherCompacted, IsKnown, IsCompactionCount, HasNothingToMerge, FailsCompaction}
use Rattle.wp_replies.specs.Tables.{listed, after_compaction}
use Rattle.wp_replies.proofs.Conditions.{compaction_count_more}
use Rattle.wp_answers.proofs.Alone.Retained.{numbers_in, of_number, times_in, among_counted}
use Rattle.wp_answers.proofs.Alone.Compacting.{compacted_alone, nothing_compacted_alone, compact_failed_alone, compact_halted_alone}
use Rattle.wp_client.specs.Agrees.{Agrees}
use Rattle.wp_client.specs.Answers.{IsExplained, Answers, BreaksOff, IsAnswered}
use Rattle.wp_client.specs.declared.holdings.HeldSnapshot.{HeldSnapshot}
use Rattle.wp_client.specs.declared.holdings.HeldTxn.{HeldTxn}
use Rattle.wp_client.specs.declared.holdings.HeldTxn.TheVariants as held
use Rattle.wp_client.specs.Holdings.{HoldingsState, txn_of, labelled, client_of, snapshot_of, registration_if, pin_in, Holds}
use Rattle.wp_answers.specs.Replies.{tables_refusal}
use Rattle.wp_client.proofs.Growing.{of_two, taken_old}
use Rattle.wp_client.proofs.Alone.Published.{total_both}
use Rattle.wp_client.proofs.Labelled.{is_registered}
use Rattle.wp_answers.proofs.Maintaining.{compaction_is, tables_answers, halted_answers, nothing_answers, failed_answers}
use Rattle.wp_client.proofs.Staying.{past_more, holds_still, keeps_holds, broke_off}

-- ---- the client's snapshots are among those that were live

among_contains : (xs : List ℕ) (n : ℕ) → Contains xs n → list_any (λ m. m == n) xs ≡ true
among_contains xs n k = list_any_at (λ m. m == n) xs k.0 n k.1 (eq-eqb (slice_index_or xs k.0 n) n k.2)

-- a number that passes is in the list
any_in : (xs : List ℕ) (n : ℕ) → list_any (λ m. m == n) xs ≡ true → IsIn n xs
any_in [] n there = absurd cc
any_in (x ∷ xs) n there =
    elim (cases_Bool (x == n)) [
      | inl same ↦ inl (eqb-true x n same)
      | inr differs ↦ inr (any_in xs n (rw differs at there))
    ]

-- the registrations have the numbers of the snapshots
numbers_held : (xs : List HeldSnapshot) → numbers_in (map snapshot_of xs) ≡ numbers_of (map labelled xs)
numbers_held [] = refl
numbers_held (x ∷ xs) = ap (λ (ns : List ℕ). x.snapshot.number ∷ ns) (numbers_held xs)

-- what is registered for the client: its snapshots, and its transaction's pin
abbrev registered_for : HoldingsState → List Registration
registered_for h = map snapshot_of h.snapshots ++ registration_if (pin_in h.txn)

pin_numbered : (t : HeldTxn) → numbers_in (registration_if (pin_in t)) ≡ pins_of (txn_of t)
pin_numbered held.Idle = refl
pin_numbered (held.Open t) = by t.pin
  where
    by : (pin : Option Registration) → numbers_in (registration_if pin) ≡ number_if (option_map (λ (r : Registration). r.number) pin)
    by None = refl
    by (Some r) = refl
pin_numbered (held.Prepared t) = refl

numbers_for : (h : HoldingsState) → numbers_in (registered_for h) ≡ live_of (client_of h)
numbers_for h = map-append (λ (r : Registration). r.number) (map snapshot_of h.snapshots) (registration_if (pin_in h.txn))
    ∙ (ap (λ (ns : List ℕ). ns ++ numbers_in (registration_if (pin_in h.txn))) (numbers_held h.snapshots) ∙ ap (λ (ns : List ℕ). numbers_of (map labelled h.snapshots) ++ ns) (pin_numbered h.txn))

-- what is counted of the first entries that were seen is counted of the history
count_seen : (history seen : List Entry) (base at versions : ℕ) → StartsWith history seen → at ≤ length seen → base ≤ at → IsCompactionCount (take at seen) base at versions → IsCompactionCount history base at versions
count_seen history seen base at versions starts within low few =
    let size : length (take at seen) ≡ at = length-take-le at seen within in
    let front : take at history ++ drop at history ≡ history = take-append-drop at history in
    subst (λ (h : List Entry). IsCompactionCount h base at versions) (ap (λ (h : List Entry). h ++ drop at history) (sym (taken_old history seen at starts within)) ∙ front)
    (compaction_count_more (take at seen) (drop at history) base at versions (omega (arith, size, low)) (omega (arith, size)) few)

module _ {D : Type 0} (z : SharedState D) (old new : SeatState) where
  abbrev it : Participant
  it = old.knows.participant

  abbrev seen : List Entry
  seen = new.knows.participant.seen

  -- the floor is a number that the seat has seen, and no earlier than what it had seen before
  floor_within : (floor : ℕ) (live : List ℕ) → HasPinned z old new floor live → (length it.seen ≤ floor) × (floor ≤ length seen)
  floor_within floor live k = let more = shorter (take floor seen) it.seen k.later in let size = length-take-le floor seen k.within in (omega (arith, more, size), k.within)

  -- ---- a compaction

  module _ (client : Client) where
    compacted_beside : (done : Done) → Compacts z old (Ok done) new → Answers z old new client client command.Compact (reply.Compacted done.at done.versions)
    compacted_beside done (t, k) =
        let edit = after_compaction (take done.at seen) (listed k.live k.first.segment.base t.last) t.last in let event : Event = found_by z old new t k.found in let made : Event = installed edit true in let bounds = floor_within done.at k.live k.pinned in
        tables_answers z old new command.Compact compaction_is client (reply.Compacted done.at done.versions) (event ∷ made ∷ []) k.goes_on
        (record {
          acknowledges = refl;
          tables = λ before. ap (λ (v : ℕ). min v 1) k.versions;
          labels = λ before. refl;
          log_failed = refl;
          log_stopped = refl;
          tables_failed = refl;
          once = omega arith;
          remembered = tt;
          explained = of_two (IsExplained it.client client.txn command.Compact (Some (reply.Compacted done.at done.versions))) event made tt refl;
        })
        refl bounds.0 (λ before low. bounds.1)
        (λ first is_first before p e agrees. let low = p.last in let from = bounds.0 in let to = bounds.1 in let high = shorter e.history seen agrees.seen in (
          (omega (arith, low, from), omega (arith, to, high)),
          subst (λ (base : ℕ). IsCompactionCount e.history base done.at done.versions) (sym (agrees.base k.first k.is_first))
              (count_seen e.history seen k.first.segment.base done.at done.versions agrees.seen bounds.1 k.low k.few),
        ))

    nothing_condition : (t : Installed) (due : ℕ) → t.last.tables < 2 → (before : Progress) → before.tables ≡ due → (e : Evidence) → (t.last.tables < due → IsKnown e OtherCompacted) → HasNothingToMerge e before.tables
    nothing_condition t due few before same e known =
        elim (cases_Bool (nat_lt before.tables 2)) [
          | inl less ↦ inl (let l = less in grind (arith, nat_tests))
          | inr most ↦ inr (known (let m = most in let is = same in let f = few in grind (arith, nat_tests)))
        ]

    pub not_compacted_breaks : (why : MaintError) → tables_refusal why ≡ None → Compacts z old (Err why) new → BreaksOff old new client command.Compact
    not_compacted_breaks Memory none (t, goes) = broke_off z old new client command.Compact goes
    not_compacted_breaks _ none f = absurd cc

  just_these : (h : HoldingsState) → Holds z old h → (r : Registration) → times_in r it.registered ≡ times_in r (registered_for h)
  just_these h has r = has.registered r ∙ sym (total_both (λ (s : Registration). one_if (is_same_registration r s)) (map snapshot_of h.snapshots) (registration_if (pin_in h.txn)))

  module _ (h : HoldingsState) (has : Holds z old h) where
    -- what the client has registered was live, and so it is among what was pinned
    own_live : (floor : ℕ) (live : List ℕ) → HasPinned z old new floor live → (n : ℕ) → list_any (λ m. m == n) (live_of (client_of h)) ≡ true → list_any (λ m. m == n) live ≡ true
    own_live floor live k n there =
        let place = of_number n (registered_for h) (subst (IsIn n) (sym (numbers_for h)) (any_in (live_of (client_of h)) n there)) in let s : Registration = place.0 in let taken = k.pinned.taken in
        let registered : IsIn s it.registered = is_registered s it.registered
        (let all = just_these h has s in let some = among_counted s (registered_for h) place.1 in omega (arith, all, some)) in
        let of_actor : IsIn s taken.actor.participant.registered = subst (λ (p : Participant). IsIn s p.registered) (sym taken.participant) registered in
        let was_live = (registered_live taken.world.writes.history taken.world.snapshots taken.world.actors old.by taken.actor s taken.there.there of_actor (at_sound (place_at z old.by) taken.actor taken.world taken.there).registrations).0 in
        let before : IsLive k.pinned.before n = subst (IsLive k.pinned.before) place.2 (subst (λ (m : Snapshots). IsLive m s.number) taken.live was_live) in
        subst (λ (ns : List ℕ). list_any (λ m. m == n) ns ≡ true) (sym k.live_is) (among_contains (pins.numbers_of k.others) n ((k.pinned.are_live.each n).1 before))

    fails_with : (t : Installed) (asked : Option InstalledEdit) (made : InstalledEdit) → SeveralTables t.last → (next : IsCompactionOf (HasPinned z old new) z new t.last made) → IfSome asked (λ edit. edit ≡ after_compaction (take next.floor seen) (listed next.live next.first.segment.base t.last) t.last)
        → (before : Progress) → before.last ≤ length it.seen → (e : Evidence) → Agrees e z new.knows.participant → e.installed ≡ t.last → e.failed.edit ≡ asked → FailsCompaction e before.last (client_of h)
    fails_with t asked made several next is before low e agrees last failed =
        let bounds = floor_within next.floor next.live next.pinned in let from = bounds.0 in let to = bounds.1 in let high = shorter e.history seen agrees.seen in let base = agrees.base next.first next.is_first in record {
          at = next.floor;
          fresh = (omega (arith, low, from), omega (arith, to, high));
          two = subst (λ (x : InstalledEdit). 2 ≤ x.tables) (sym last) several;
          live = next.live;
          own = own_live next.floor next.live next.pinned;
          from_base = λ n there. let least = next.from_base n (any_in next.live n there) in omega (arith, least, base);
          edit = subst (λ (o : Option InstalledEdit). IfSome o (λ edit. edit ≡ after_compaction (take next.floor e.history) (listed next.live e.base e.installed) e.installed)) (sym failed)
              (subst (λ (b : ℕ). IfSome asked (λ edit. edit ≡ after_compaction (take next.floor e.history) (listed next.live b e.installed) e.installed)) (sym base)
              (subst (λ (x : InstalledEdit). IfSome asked (λ edit. edit ≡ after_compaction (take next.floor e.history) (listed next.live next.first.segment.base x) x)) (sym last)
              (subst (λ (hs : List Entry). IfSome asked (λ edit. edit ≡ after_compaction hs (listed next.live next.first.segment.base t.last) t.last)) (sym (taken_old e.history seen next.floor agrees.seen bounds.1)) is)));
        }

    -- the edit that was asked for, or, where the device failed before, the one that was to be
    fails_condition : (t : Installed) (asked : Option InstalledEdit) (made : InstalledEdit) → SeveralTables t.last → IfSome asked (IsCompactionOf (HasPinned z old new) z new t.last) → IsCompactionOf (HasPinned z old new) z new t.last made
        → (before : Progress) → before.last ≤ length it.seen → (e : Evidence) → Agrees e z new.knows.participant → e.installed ≡ t.last → e.failed.edit ≡ asked → FailsCompaction e before.last (client_of h)
    fails_condition t None made several next due = fails_with t None made several due tt
    fails_condition t (Some edit) made several next due = fails_with t (Some edit) edit several next next.edit_is

    pub compacted_answers : (done : Done) → Compacts z old (Ok done) new → IsAnswered z old new (client_of h) (client_of h) command.Compact (reply.Compacted done.at done.versions)
    compacted_answers done k = (compacted_beside (client_of h) done k, λ world stands only first is_first store so locks. compacted_alone z first old new only store so (world, stands) is_first (txn_of h.txn) (map labelled h.snapshots) (registered_for h) (numbers_for h) (just_these h has) done k)

    pub not_compacted_answers : (why : MaintError) (r : Reply) → tables_refusal why ≡ Some r → Compacts z old (Err why) new → IsAnswered z old new (client_of h) (client_of h) command.Compact r
    not_compacted_answers Memory r is f = absurd cc
    not_compacted_answers Nothing r is (t, k) = subst (IsAnswered z old new (client_of h) (client_of h) command.Compact) (same_some reply.Nothing r is) (
      nothing_answers z old new command.Compact compaction_is (client_of h) t FewTables k
          (λ first is_first before p e agrees known. nothing_condition (client_of h) t (tables_due k.found.world.first_edit it.past) k.idle before
          (p.tables ∙ ap (λ (edit : InstalledEdit). tables_due edit it.past) (one_was_first content z.first first k.found.world.first_edit is_first k.found.there.first_edit)) e known.3),
      λ world stands only first is_first store so locks. nothing_compacted_alone z first old new only store so (world, stands) is_first (txn_of h.txn) (map labelled h.snapshots) (registered_for h) (numbers_for h) (just_these h has) (t, k),
    )
    not_compacted_answers TableFault r is (t, k) = subst (IsAnswered z old new (client_of h) (client_of h) command.Compact) (same_some reply.FaultTables r is) (
      failed_answers z old new command.Compact compaction_is (client_of h) refl t (SeveralTables t.last) (IsCompactionOf (HasPinned z old new) z new t.last) k (fails_condition t k.asked k.survives.0 k.busy k.next k.survives.1),
      λ world stands only first is_first store so locks. compact_failed_alone z first old new only store so (world, stands) is_first (txn_of h.txn) (map labelled h.snapshots) (registered_for h) (numbers_for h) (just_these h has) (t, k),
    )
    not_compacted_answers (TablesStopped flushed) r is (t, k) = subst (IsAnswered z old new (client_of h) (client_of h) command.Compact) (same_some (reply.Halted flushed) r is) (
      halted_answers z old new command.Compact compaction_is (client_of h) t flushed k,
      λ world stands only first is_first store so locks. compact_halted_alone z first old new only store so (world, stands) is_first (txn_of h.txn) (map labelled h.snapshots) (registered_for h) (numbers_for h) (just_these h has) flushed (t, k),
    )

  -- what the client has then: what it had
  pub compaction_holds : (answer : Result Done MaintError) → Compacts z old answer new → (h : HoldingsState) → Holds z old h → Holds z new h
  compaction_holds (Err Memory) (t, goes) = keeps_holds z old new goes
  compaction_holds _ (t, k) = holds_still z old new _ refl refl refl k.goes_on (past_more _ _)
