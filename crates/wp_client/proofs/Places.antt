-- A command on the snapshot that is at a label's place.
use Rattle.std.proofs.Common.{◌≡◌, ℕ, ◌<◌, List, [], ◌∷◌, ◌++◌, length, map, get_or, Option, Some, None, sym, subst, ap, ◌∙◌, arith}
use Rattle.std.specs.List.{remove}
use Rattle.std.proofs.lemmas.List.{length-append}
use Rattle.wp_model.specs.History.{value_at}
use Rattle.wp_model.specs.Rows.{Pair, rows}
use Rattle.wp_text.specs.declared.script.Command.TheVariants as command
use Rattle.wp_text.specs.declared.reply.Reply.TheVariants as reply
use Rattle.wp_core.specs.Lists.{IsIn}
use Rattle.wp_core.specs.World.{Participant}
use Rattle.wp_core.proofs.KeepsSeen.{shorter}
use Rattle.wp_shared.specs.Calls.{Continues}
use Rattle.wp_shared.specs.Seats.{SharedState, SeatState}
use Rattle.wp_open_txns.specs.Calls.{Keeps}
use Rattle.wp_replies.specs.Plan.{read_reply}
use Rattle.wp_replies.specs.Replies.{refuses_label}
use Rattle.wp_client.specs.declared.holdings.HeldTxn.{HeldTxn}
use Rattle.wp_client.specs.declared.holdings.HeldTxn.TheVariants as held
use Rattle.wp_client.specs.declared.holdings.HeldSnapshot.{HeldSnapshot}
use Rattle.wp_client.specs.Answers.{IsAnswered}
use Rattle.wp_client.specs.Holdings.{HoldingsState, labelled, txn_of, client_of, Holds}
use Rattle.wp_client.specs.Replies.{IsPlace}
use Rattle.wp_client.proofs.Clients.{having}
use Rattle.wp_client.proofs.Ranges.{scanned_at_answers}
use Rattle.wp_client.proofs.Reading.{at_answers}
use Rattle.wp_client.proofs.Snapping.{place_number, at_place, removed_at, place_registered, place_within, snapped_answers, snapped_holds, Released, freed_answers, freed_holds}

module _ {D : Type 0} (z : SharedState D) (old : SeatState) (h : HoldingsState) (label : List ℕ) (i : ℕ) (at : IsPlace h.snapshots label i) where
  pub place_below : i < length h.snapshots
  place_below =
      let place = at.place in let all = ap (λ (xs : List HeldSnapshot). length xs) at.are in let parts = length-append at.front (at.found ∷ at.back) in
      omega (arith, place, all, parts)

  abbrev without_it : HoldingsState
  without_it = record h { snapshots = remove h.snapshots i }

  without_is : remove h.snapshots i ≡ at.front ++ at.back
  without_is = ap (λ (xs : List HeldSnapshot). remove xs i) at.are ∙ (ap (remove (at.front ++ at.found ∷ at.back)) (sym at.place) ∙ removed_at at.front at.found at.back)

  -- this is what is there
  module _ (s : HeldSnapshot) (is : s ≡ get_or h.snapshots i s) where
    found_is : s ≡ at.found
    found_is = is ∙ (ap (λ (xs : List HeldSnapshot). get_or xs i s) at.are ∙ (ap (λ (n : ℕ). get_or (at.front ++ at.found ∷ at.back) n s) (sym at.place) ∙ at_place at.front at.found at.back s))

    pub found_registered : Holds z old h → IsIn s.snapshot old.knows.participant.registered
    found_registered has = subst (λ (x : HeldSnapshot). IsIn x.snapshot old.knows.participant.registered) (sym found_is) (place_registered z old h label i has at)

    module _ (new : SeatState) (has : Holds z old h) where
      pub read_at : (key : List ℕ) (value : Option (List ℕ)) → Keeps z old new → value ≡ value_at new.knows.participant.seen key s.snapshot.number
          → IsAnswered z old new (client_of h) (client_of h) (command.GetAt key label) (read_reply value s.snapshot.number)
      read_at key value goes shown =
          let there = place_within (length old.knows.participant.seen) h.snapshots label i has.within at in
          let same : s.snapshot.number ≡ at.found.snapshot.number = ap (λ (x : HeldSnapshot). x.snapshot.number) found_is in
          let more = shorter new.knows.participant.seen old.knows.participant.seen goes.seen in
          at_answers z old new (client_of h) key label goes value s.snapshot.number (place_number h.snapshots label i at ∙ ap Some (sym same)) (omega (arith, there, same, more)) shown

      pub scanned_at : (from to : List ℕ) (pairs : List Pair) → h.txn ≡ held.Idle → Keeps z old new → pairs ≡ rows new.knows.participant.seen from to s.snapshot.number
          → IsAnswered z old new (client_of h) (client_of h) (command.ScanAt from to label) (reply.Rows pairs s.snapshot.number)
      scanned_at from to pairs idle goes shown =
          let there = place_within (length old.knows.participant.seen) h.snapshots label i has.within at in
          let same : s.snapshot.number ≡ at.found.snapshot.number = ap (λ (x : HeldSnapshot). x.snapshot.number) found_is in
          let more = shorter new.knows.participant.seen old.knows.participant.seen goes.seen in
          subst (λ (t : HeldTxn). IsAnswered z old new (having (txn_of t) (map labelled h.snapshots)) (having (txn_of t) (map labelled h.snapshots)) (command.ScanAt from to label) (reply.Rows pairs s.snapshot.number)) (sym idle)
          (scanned_at_answers z old new from to label (map labelled h.snapshots) goes pairs s.snapshot.number (place_number h.snapshots label i at ∙ ap Some (sym same)) (omega (arith, there, same, more)) shown)

      module _ (out : Released z old new s.snapshot) where
        taken_out : Released z old new at.found.snapshot
        taken_out = subst (λ (x : HeldSnapshot). Released z old new x.snapshot) found_is out

        pub freed_there : IsAnswered z old new (client_of h) (client_of without_it) (command.Free label) reply.Freed
        freed_there = subst (λ (xs : List HeldSnapshot). IsAnswered z old new (client_of h) (client_of (record h { snapshots = xs })) (command.Free label) reply.Freed) (sym without_is)
            (freed_answers z old new h label i at has taken_out)

        pub freed_holds_there : Holds z new without_it
        freed_holds_there = subst (λ (xs : List HeldSnapshot). Holds z new (record h { snapshots = xs })) (sym without_is) (freed_holds z old new h label i at has taken_out)

-- a snapshot that is taken under a copy of the label
module _ {D : Type 0} (z : SharedState D) (old new : SeatState) (h : HoldingsState) (s : HeldSnapshot) (label : List ℕ) (same : s.label ≡ label) (free : refuses_label (map labelled h.snapshots) label ≡ None) where
  abbrev registering : Participant
  registering = record old.knows.participant { registered = old.knows.participant.registered ++ s.snapshot ∷ [] }

  abbrev with_it : HoldingsState
  with_it = record h { snapshots = h.snapshots ++ s ∷ [] }

  free_here : refuses_label (map labelled h.snapshots) s.label ≡ None
  free_here = ap (refuses_label (map labelled h.snapshots)) same ∙ free

  module _ (goes : Continues z old new registering) (is : s.snapshot.number ≡ length new.knows.participant.seen) where
    pub snapped_there : IsAnswered z old new (client_of h) (client_of with_it) (command.Snap label) (reply.Snapped s.snapshot.number)
    snapped_there = subst (λ (l : List ℕ). IsAnswered z old new (client_of h) (client_of with_it) (command.Snap l) (reply.Snapped s.snapshot.number)) same (snapped_answers z old new h s free_here goes is)

    pub snapped_holds_there : Holds z old h → Holds z new with_it
    snapped_holds_there = snapped_holds z old new h s free_here goes is
