-- What a client is answered that takes a snapshot, or releases one.
use Rattle.std.proofs.Common.{◌≡◌, ◌+◌, ◌⊎◌, inl, inr, ℕ, ◌<◌, ◌≤◌, Bool, true, false, List, [], ◌∷◌, ◌++◌, length, map, get_or, Option, Some, None, refl, sym, subst, ap, ◌∙◌, arith}
use Rattle.std.specs.Prelude.{nat_le, is_some, MatchOption, if◌then◌else◌}
use Rattle.std.specs.List.{remove}
use Rattle.std.specs.Str.{bytes_eq}
use Rattle.std.proofs.lemmas.Bool.Decides.{nat_tests}
use Rattle.std.proofs.lemmas.List.{length-map}
use mathlib.Core.List.{append-nil}
use Rattle.wp_text.specs.declared.script.Command.TheVariants as command
use Rattle.wp_text.specs.declared.reply.Reply.{Reply}
use Rattle.wp_text.specs.declared.reply.Reply.TheVariants as reply
use Rattle.wp_core.specs.Changes.{is_same_registration}
use Rattle.wp_core.specs.Lists.{IsIn, one_if}
use Rattle.wp_core.specs.Reading.{Registration}
use Rattle.wp_core.specs.World.{Participant}
use Rattle.wp_core.proofs.KeepsSeen.{shorter}
use Rattle.wp_core.proofs.PastsGrow.{in_front, total_more}
use Rattle.wp_model.proofs.Tests.{same_some}
use Rattle.wp_shared.specs.Calls.{Continues}
use Rattle.wp_shared.specs.Seats.{SharedState, SeatState}
use Rattle.wp_open_txns.specs.Calls.{Keeps}
use Rattle.wp_replies.specs.declared.client.TheConstants.{MOST_SNAPSHOTS}
use Rattle.wp_replies.specs.declared.client.LabelledSnapshot.{LabelledSnapshot}
use Rattle.wp_replies.specs.Client.{Client, number_of, without_label, AreWithin}
use Rattle.wp_replies.specs.Replies.{UnlessRefused, unless_labelled, refuses_label, Condition}
use Rattle.wp_replies.proofs.Within.{within_more}
use Rattle.wp_client.proofs.Alone.Snapshots.{snapped_alone, freed_alone, not_snapped_alone, not_freed_alone}
use Rattle.wp_client.specs.declared.holdings.HeldSnapshot.{HeldSnapshot}
use Rattle.wp_client.specs.Answers.{Answers, IsDue, IsAnswered}
use Rattle.wp_client.specs.Holdings.{HoldingsState, txn_of, labelled, client_of, snapshot_of, times_registered, registration_if, pin_in, AreDistinct, Holds}
use Rattle.wp_client.specs.Replies.{IsPlace}
use Rattle.wp_client.proofs.Fitting.{else_answers}
use Rattle.wp_client.proofs.Growing.{last_still}
use Rattle.wp_client.proofs.Noting.{noted_still}
use Rattle.wp_client.proofs.Labels.{itself}
use Rattle.wp_client.proofs.Labelled.{number_is, without_it, distinct_more, distinct_less, none_behind, within_one, within_next, within_less, mapped_more, mapped_between, mapped_both, between, is_registered, pin_counts, times_there}
use Rattle.wp_client.proofs.Reading.{keeps_answers}
use Rattle.wp_client.proofs.Staying.{PinIsIn, pin_there, past_same, holds_txn_still}
use Rattle.wp_open_txns.proofs.Still.{still}

-- ---- the place of a label

pub place_number : (snapshots : List HeldSnapshot) (label : List ℕ) (i : ℕ) (at : IsPlace snapshots label i) → number_of (map labelled snapshots) label ≡ Some at.found.snapshot.number
place_number snapshots label i at =
    ap (λ (xs : List HeldSnapshot). number_of (map labelled xs) label) at.are ∙ number_is label at.front at.found at.back at.none_before (subst (λ (l : List ℕ). bytes_eq at.found.label l ≡ true) at.label_is (itself at.found.label))

-- where it has none, there is no such snapshot, and else the first one is at the place
pub has_label : (snapshots : List HeldSnapshot) (label : List ℕ) (found : Option ℕ) → MatchOption found (number_of (map labelled snapshots) label ≡ None) (IsPlace snapshots label) → is_some (number_of (map labelled snapshots) label) ≡ is_some found
has_label snapshots label None none = ap is_some none
has_label snapshots label (Some i) at = ap is_some (place_number snapshots label i at)

-- what is there
pub at_place : {X : Type 0} (front : List X) (x : X) (back : List X) (d : X) → get_or (front ++ x ∷ back) (length front) d ≡ x
at_place [] x back d = refl
at_place (y ∷ front) x back d = at_place front x back d

pub removed_at : {X : Type 0} (front : List X) (x : X) (back : List X) → remove (front ++ x ∷ back) (length front) ≡ front ++ back
removed_at [] x back = refl
removed_at (y ∷ front) x back = ap (λ (ys : List _). y ∷ ys) (removed_at front x back)

-- the seat has registered it
pub place_registered : {D : Type 0} (z : SharedState D) (s : SeatState) (h : HoldingsState) (label : List ℕ) (i : ℕ) → Holds z s h → (at : IsPlace h.snapshots label i) → IsIn at.found.snapshot s.knows.participant.registered
place_registered z s h label i has at =
    let all = has.registered at.found.snapshot in
    let there : times_registered at.found.snapshot (map snapshot_of h.snapshots) ≡ times_registered at.found.snapshot (map snapshot_of (at.front ++ at.found ∷ at.back)) = ap (λ (xs : List HeldSnapshot). times_registered at.found.snapshot (map snapshot_of xs)) at.are in
    let some = times_there at.front at.found at.back in
    is_registered at.found.snapshot s.knows.participant.registered (omega (arith, all, there, some))

pub place_within : (n : ℕ) (snapshots : List HeldSnapshot) (label : List ℕ) (i : ℕ) → AreWithin n (map labelled snapshots) → (at : IsPlace snapshots label i) → at.found.snapshot.number ≤ n
place_within n snapshots label i within at = within_one n at.front at.found at.back (subst (λ (xs : List HeldSnapshot). AreWithin n (map labelled xs)) at.are within)

-- ---- a label is refused

module _ {D : Type 0} (z : SharedState D) (old new : SeatState) (client : Client) (label : List ℕ) (goes : Keeps z old new) where
  -- by what the client has
  refused_by : (r : Reply) → (r ≡ reply.Taken label) ⊎ (r ≡ reply.TooMany) → refuses_label client.snapshots label ≡ Some r → Answers z old new client client (command.Snap label) r
  refused_by r (inl is) refused = subst (Answers z old new client client (command.Snap label)) (sym is)
      (keeps_answers z old new client (command.Snap label) (reply.Taken label) goes (record { acknowledges = refl; tables = λ before. refl; labels = λ before. refl; log_failed = refl; tables_failed = refl; remembered = tt; keys = λ before. refl })
      refl tt (λ before low. low)
      (λ first is_first before p e agrees. subst (λ (o : Option Reply). UnlessRefused o (reply.Taken label) (Condition e before client 0 (command.Snap label) (reply.Taken label))) (sym (refused ∙ ap Some is)) refl))
  refused_by r (inr is) refused = subst (Answers z old new client client (command.Snap label)) (sym is)
      (keeps_answers z old new client (command.Snap label) reply.TooMany goes (record { acknowledges = refl; tables = λ before. refl; labels = λ before. refl; log_failed = refl; tables_failed = refl; remembered = tt; keys = λ before. refl })
      refl tt (λ before low. low)
      (λ first is_first before p e agrees. subst (λ (o : Option Reply). UnlessRefused o reply.TooMany (Condition e before client 0 (command.Snap label) reply.TooMany)) (sym (refused ∙ ap Some is)) refl))

  which : (taken full : Bool) (r : Reply) → (if taken then Some (reply.Taken label) else (if full then Some reply.TooMany else None)) ≡ Some r → (r ≡ reply.Taken label) ⊎ (r ≡ reply.TooMany)
  which true full r is = inl (sym (same_some (reply.Taken label) r is))
  which false true r is = inr (sym (same_some reply.TooMany r is))
  which false false r is = absurd cc

  pub label_refused : new ≡ old → (r : Reply) → refuses_label client.snapshots label ≡ Some r → IsAnswered z old new client client (command.Snap label) r
  label_refused same r is = (
    refused_by r (which (is_some (number_of client.snapshots label)) (nat_le MOST_SNAPSHOTS (length client.snapshots)) r is) is,
    λ world stands only first is_first store so locks. not_snapped_alone z first old new only store so client.txn client.snapshots label same r is,
  )

  -- the client has no such snapshot
  unlabelled_beside : number_of client.snapshots label ≡ None → Answers z old new client client (command.Free label) (reply.UnknownSnapshot label)
  unlabelled_beside none =
      keeps_answers z old new client (command.Free label) (reply.UnknownSnapshot label) goes (record { acknowledges = refl; tables = λ before. refl; labels = λ before. refl; log_failed = refl; tables_failed = refl; remembered = tt; keys = λ before. refl })
      refl tt (λ before low. low)
      (λ first is_first before p e agrees. subst (λ (o : Option ℕ). UnlessRefused (unless_labelled o label) (reply.UnknownSnapshot label) (Condition e before client 0 (command.Free label) (reply.UnknownSnapshot label))) (sym none) refl)

  pub unlabelled_answers : new ≡ old → number_of client.snapshots label ≡ None → IsAnswered z old new client client (command.Free label) (reply.UnknownSnapshot label)
  unlabelled_answers same none = (unlabelled_beside none, λ world stands only first is_first store so locks. not_freed_alone z first old new only store so client.txn client.snapshots label same none)

-- what refuses a label, by where it is among the snapshots, if it is there
module _ (snapshots : List HeldSnapshot) (label : List ℕ) (found : Option ℕ) (are : MatchOption found (number_of (map labelled snapshots) label ≡ None) (IsPlace snapshots label)) where
  refuses_by : (there full : Bool) → is_some found ≡ there → nat_le MOST_SNAPSHOTS (length snapshots) ≡ full
      → refuses_label (map labelled snapshots) label ≡ (if there then Some (reply.Taken label) else (if full then Some reply.TooMany else None))
  refuses_by there full is size =
      let has : is_some (number_of (map labelled snapshots) label) ≡ there = has_label snapshots label found are ∙ is in
      let most : nat_le MOST_SNAPSHOTS (length (map labelled snapshots)) ≡ full = ap (nat_le MOST_SNAPSHOTS) (length-map snapshots labelled) ∙ size in
      rw (has, most) refl

  pub refuses_taken : (copied : List ℕ) → copied ≡ label → is_some found ≡ true → Some (reply.Taken copied) ≡ refuses_label (map labelled snapshots) label
  refuses_taken copied same is = ap (λ (l : List ℕ). Some (reply.Taken l)) same ∙ sym (refuses_by true (nat_le MOST_SNAPSHOTS (length snapshots)) is refl)

  pub refuses_more : is_some found ≡ false → MOST_SNAPSHOTS ≤ length snapshots → Some reply.TooMany ≡ refuses_label (map labelled snapshots) label
  refuses_more is many = sym (refuses_by false true is (let m = many in grind (arith, nat_tests)))

  pub refuses_none : is_some found ≡ false → length snapshots < MOST_SNAPSHOTS → None ≡ refuses_label (map labelled snapshots) label
  refuses_none is few = sym (refuses_by false false is (let m = few in grind (arith, nat_tests)))

-- what refuses no label has it for no snapshot
no_label : (taken : Option ℕ) (full : Bool) (label : List ℕ) → (if is_some taken then Some (reply.Taken label) else (if full then Some reply.TooMany else None)) ≡ None → taken ≡ None
no_label None full label is = refl
no_label (Some n) full label is = absurd cc

-- ---- a snapshot is taken

module _ {D : Type 0} (z : SharedState D) (old new : SeatState) (h : HoldingsState) (s : HeldSnapshot) where
  abbrev it : Participant
  it = old.knows.participant

  -- the seat has registered it
  abbrev registering : Participant
  registering = record it { registered = it.registered ++ s.snapshot ∷ [] }

  -- the client has it under the label
  abbrev with_it : HoldingsState
  with_it = record h { snapshots = h.snapshots ++ s ∷ [] }

  snapped_beside : refuses_label (map labelled h.snapshots) s.label ≡ None → Continues z old new registering → s.snapshot.number ≡ length new.knows.participant.seen
      → Answers z old new (client_of h) (client_of with_it) (command.Snap s.label) (reply.Snapped s.snapshot.number)
  snapped_beside free goes is =
      else_answers z old new _ registering [] (client_of h) (client_of with_it) (command.Snap s.label) (reply.Snapped s.snapshot.number) 0 goes refl refl (sym (append-nil it.past))
      (record { acknowledges = refl; tables = λ before. refl; labels = λ before. refl; log_failed = refl; log_stopped = refl; tables_failed = refl; once = omega arith; remembered = tt; explained = λ event there. absurd there })
      (ap (λ (xs : List LabelledSnapshot). record { txn = txn_of h.txn; snapshots = xs }) (mapped_more labelled h.snapshots s))
      (noted_still z old new registering goes (txn_of h.txn) (command.Snap s.label) (reply.Snapped s.snapshot.number) (λ before. refl) (let more = shorter new.knows.participant.seen it.seen goes.seen in omega (arith, is, more)))
      (λ before low. omega (arith, is))
      (λ first is_first before p e agrees. let low = last_still first old (txn_of h.txn) new.knows.participant before goes.seen p in let high = shorter e.history new.knows.participant.seen agrees.seen in
      subst (λ (o : Option Reply). UnlessRefused o (reply.Snapped s.snapshot.number) (Condition e before (client_of h) 0 (command.Snap s.label) (reply.Snapped s.snapshot.number))) (sym free) (omega (arith, is, low), omega (arith, is, high)))

  pub snapped_answers : refuses_label (map labelled h.snapshots) s.label ≡ None → Continues z old new registering → s.snapshot.number ≡ length new.knows.participant.seen
      → IsAnswered z old new (client_of h) (client_of with_it) (command.Snap s.label) (reply.Snapped s.snapshot.number)
  snapped_answers free goes is = (
    snapped_beside free goes is,
    subst (λ (xs : List LabelledSnapshot). IsDue z old new (client_of h) (record { txn = txn_of h.txn; snapshots = xs }) (command.Snap s.label) (reply.Snapped s.snapshot.number)) (sym (mapped_more labelled h.snapshots s))
        (λ world stands only first is_first store so locks. snapped_alone z first old new only store so (txn_of h.txn) (map labelled h.snapshots) s.label (world, stands) s.snapshot goes is free),
  )

  pub snapped_holds : refuses_label (map labelled h.snapshots) s.label ≡ None → Continues z old new registering → s.snapshot.number ≡ length new.knows.participant.seen → Holds z old h → Holds z new with_it
  snapped_holds free goes is has = record {
    txn = holds_txn_still z old new goes.free (still z old new registering refl refl (past_same it.past) goes) h.txn
        (λ r is. subst (IsIn r) (sym (ap (λ (p : Participant). p.registered) goes.participant)) (in_front r it.registered (s.snapshot ∷ []) (pin_there old h.txn has.txn.has r is))) has.txn;
    registered = λ r. let now = ap (times_registered r) (ap (λ (p : Participant). p.registered) goes.participant) in
        let more = total_more (λ (x : Registration). one_if (is_same_registration r x)) it.registered s.snapshot in
        let was = has.registered r in
        let held = ap (times_registered r) (mapped_more snapshot_of h.snapshots s) in
        let one = total_more (λ (x : Registration). one_if (is_same_registration r x)) (map snapshot_of h.snapshots) s.snapshot in
        omega (arith, now, more, was, held, one);
    within = within_next (length new.knows.participant.seen) h.snapshots s (within_more (length it.seen) (length new.knows.participant.seen) (map labelled h.snapshots) (shorter new.knows.participant.seen it.seen goes.seen) has.within) (omega (arith, is));
    distinct = distinct_more h.snapshots s has.distinct (no_label (number_of (map labelled h.snapshots) s.label) (nat_le MOST_SNAPSHOTS (length (map labelled h.snapshots))) s.label free);
  }

-- ---- a snapshot is released

-- the seat took the registration out
pub record Released {D : Type 0} (z : SharedState D) (old new : SeatState) (r : Registration) : Type 0 where
  pub front : List Registration
  pub back : List Registration
  pub were : old.knows.participant.registered ≡ front ++ r ∷ back
  pub goes_on : Continues z old new (record old.knows.participant { registered = front ++ back })

module _ {D : Type 0} (z : SharedState D) (old new : SeatState) (h : HoldingsState) (label : List ℕ) (i : ℕ) (at : IsPlace h.snapshots label i) (has : Holds z old h) (out : Released z old new at.found.snapshot) where
  abbrev without_one : HoldingsState
  without_one = record h { snapshots = at.front ++ at.back }

  has_label_itself : bytes_eq at.found.label label ≡ true
  has_label_itself = subst (λ (l : List ℕ). bytes_eq at.found.label l ≡ true) at.label_is (itself at.found.label)

  distinct_there : AreDistinct (map labelled (at.front ++ at.found ∷ at.back))
  distinct_there = subst (λ (xs : List HeldSnapshot). AreDistinct (map labelled xs)) at.are has.distinct

  none_later : number_of (map labelled at.back) label ≡ None
  none_later = subst (λ (l : List ℕ). number_of (map labelled at.back) l ≡ None) at.label_is (none_behind at.front at.found at.back distinct_there)

  left_labels : map labelled (at.front ++ at.back) ≡ without_label (map labelled h.snapshots) label
  left_labels = sym (ap (λ (xs : List HeldSnapshot). without_label (map labelled xs) label) at.are ∙ without_it label at.front at.found at.back at.none_before has_label_itself none_later)

  freed_beside : Answers z old new (client_of h) (client_of without_one) (command.Free label) reply.Freed
  freed_beside =
      else_answers z old new _ (record old.knows.participant { registered = out.front ++ out.back }) [] (client_of h) (client_of without_one) (command.Free label) reply.Freed 0 out.goes_on refl refl (sym (append-nil old.knows.participant.past))
      (record { acknowledges = refl; tables = λ before. refl; labels = λ before. refl; log_failed = refl; log_stopped = refl; tables_failed = refl; once = omega arith; remembered = tt; explained = λ event there. absurd there })
      (ap (λ (xs : List LabelledSnapshot). record { txn = txn_of h.txn; snapshots = xs }) left_labels)
      (noted_still z old new _ out.goes_on (txn_of h.txn) (command.Free label) reply.Freed (λ before. refl) tt)
      (λ before low. low)
      (λ first is_first before p e agrees. subst (λ (o : Option ℕ). UnlessRefused (unless_labelled o label) reply.Freed (Condition e before (client_of h) 0 (command.Free label) reply.Freed)) (sym (place_number h.snapshots label i at)) tt)

  pub freed_answers : IsAnswered z old new (client_of h) (client_of without_one) (command.Free label) reply.Freed
  freed_answers = (
    freed_beside,
    subst (λ (xs : List LabelledSnapshot). IsDue z old new (client_of h) (record { txn = txn_of h.txn; snapshots = xs }) (command.Free label) reply.Freed) (sym left_labels)
        (λ world stands only first is_first store so locks. freed_alone z first old new only store so (txn_of h.txn) (map labelled h.snapshots) label (world, stands) at.found.snapshot.number (place_number h.snapshots label i at) (out.front ++ out.back) out.goes_on),
  )

  left_registered : (r : Registration) → times_registered r new.knows.participant.registered ≡ times_registered r (map snapshot_of (at.front ++ at.back)) + times_registered r (registration_if (pin_in h.txn))
  left_registered r =
      let f = λ (x : Registration). one_if (is_same_registration r x) in
      let now = ap (times_registered r) (ap (λ (p : Participant). p.registered) out.goes_on.participant) in
      let was = ap (times_registered r) out.were in
      let one = between f out.front at.found.snapshot out.back in
      let held = has.registered r in
      let are = ap (λ (xs : List HeldSnapshot). times_registered r (map snapshot_of xs)) at.are in
      let parts = ap (times_registered r) (mapped_between snapshot_of at.front at.found at.back) in
      let two = between f (map snapshot_of at.front) at.found.snapshot (map snapshot_of at.back) in
      let left = ap (times_registered r) (mapped_both snapshot_of at.front at.back) in
      omega (arith, now, was, one, held, are, parts, two, left)

  -- the pin is another one
  pin_left : PinIsIn h.txn new.knows.participant.registered
  pin_left r is = let all = left_registered r in let some = pin_counts r (pin_in h.txn) is in is_registered r new.knows.participant.registered (omega (arith, all, some))

  pub freed_holds : Holds z new without_one
  freed_holds = record {
    txn = holds_txn_still z old new out.goes_on.free (still z old new (record old.knows.participant { registered = out.front ++ out.back }) refl refl (past_same old.knows.participant.past) out.goes_on) h.txn pin_left has.txn;
    registered = left_registered;
    within = within_less (length new.knows.participant.seen) at.front at.found at.back (subst (λ (xs : List HeldSnapshot). AreWithin (length new.knows.participant.seen) (map labelled xs)) at.are
        (within_more (length old.knows.participant.seen) (length new.knows.participant.seen) (map labelled h.snapshots) (shorter new.knows.participant.seen old.knows.participant.seen out.goes_on.seen) has.within));
    distinct = distinct_less at.front at.found at.back distinct_there;
  }
