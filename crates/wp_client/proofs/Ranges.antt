-- What a client is answered that scans a range of keys.
use Rattle.std.proofs.Common.{◌≡◌, ℕ, ◌≤◌, ◌<◌, false, List, [], ◌∷◌, ◌++◌, length, Option, Some, None, refl, sym, subst, ap, ◌∙◌, arith}
use Rattle.std.specs.Prelude.{◌&&◌}
use Rattle.std.specs.FinMap as finite
use Rattle.std.specs.List.{filter}
use Rattle.wp_model.specs.declared.entry.Entry.{Entry}
use Rattle.wp_model.specs.declared.row.Row.{Row}
use Rattle.wp_model.specs.Rows.{Pair, pair_of, is_from, stored, rows, GivesFirst}
use Rattle.wp_text.specs.declared.script.Command.TheVariants as command
use Rattle.wp_text.specs.declared.reply.Reply.TheVariants as reply
use Rattle.wp_core.specs.Lists.{IsIn}
use Rattle.wp_core.specs.Reading.{Registration}
use Rattle.wp_core.specs.Sound.Actors.{StartsWith}
use Rattle.wp_core.proofs.KeepsSeen.{shorter}
use Rattle.wp_shared.specs.Calls.{Continues}
use Rattle.wp_shared.specs.Seats.{SharedState, SeatState}
use Rattle.wp_shared.proofs.Onward.{starts_on}
use Rattle.wp_read.specs.Fresh.{WasPublished}
use Rattle.wp_read.specs.Registers.{IsTaken}
use Rattle.wp_read.proofs.Fresh.{released}
use Rattle.wp_scan.specs.Scan.{ScanState, left_of, GivesOn}
use Rattle.wp_open_txns.specs.Calls.{Keeps}
use Rattle.wp_replies.specs.declared.client.LabelledSnapshot.{LabelledSnapshot}
use Rattle.wp_replies.specs.Txn.{Idle}
use Rattle.wp_replies.specs.Client.{Client, number_of}
use Rattle.wp_replies.specs.Replies.{Condition, UnlessRefused, unless_labelled}
use Rattle.wp_client.specs.Answers.{Answers, IsAnswered}
use Rattle.wp_client.proofs.Alone.ReadKeys.{scanned_alone, scanned_at_alone, unknown_scan_alone}
use Rattle.wp_client.proofs.Clients.{having}
use Rattle.wp_client.proofs.Growing.{taken_old}
use Rattle.wp_client.proofs.Reading.{keeps_answers}

-- The rows of a range at a number that was published while the call ran. The seat is as it was but for what it has seen.
pub record ScansFresh {D : Type 0} (z : SharedState D) (old new : SeatState) (from to : List ℕ) (pairs : List Pair) (at : ℕ) : Type 0 where
  pub goes_on : Keeps z old new
  pub fresh : length old.knows.participant.seen ≤ at
  pub within : at ≤ length new.knows.participant.seen
  pub published : WasPublished z old new at
  pub rows_are : pairs ≡ rows new.knows.participant.seen from to at

-- a longer history has the same rows at a number that was seen
pub rows_old : (history seen : List Entry) (from to : List ℕ) (n : ℕ) → StartsWith history seen → n ≤ length seen → rows history from to n ≡ rows seen from to n
rows_old history seen from to n starts low =
    ap (λ (h : List Entry). filter (λ (row : Pair). is_from false from row.0 && is_from false row.0 to) (finite.entries (stored h))) (taken_old history seen n starts low)

-- ---- row by row

module _ (first now : List Entry) (n : ℕ) (same : now ≡ first) (old new : ScanState) where
  -- a row is given, and as much less is left
  pub given_on : (row : Row) (given pairs whole : List Pair) → GivesOn (left_of now n old) (left_of now n new) (Some row) → pairs ≡ given ++ pair_of row ∷ [] → given ++ left_of first n old ≡ whole → pairs ++ left_of first n new ≡ whole
  given_on row given pairs whole on pushed before =
      ap (λ (ps : List Pair). ps ++ left_of first n new) pushed ∙ subst (λ (h : List Entry). GivesOn (left_of h n old) (left_of h n new) (Some row)) same on given whole before

  pub less_left : (row : Row) → GivesFirst (left_of now n old) (left_of now n new) (Some row) → length (left_of first n new) < length (left_of first n old)
  less_left row is =
      let more : left_of first n old ≡ pair_of row ∷ left_of first n new = subst (λ (h : List Entry). GivesFirst (left_of h n old) (left_of h n new) (Some row)) same is in
      let size = ap (λ (ps : List Pair). length ps) more in omega (arith, size)

  -- none is, and all was given before
  pub all_given : (from to : List ℕ) (given : List Pair) → GivesOn (left_of now n old) (left_of now n new) None → given ++ left_of first n old ≡ rows first from to n → given ≡ rows now from to n
  all_given from to given on before =
      subst (λ (h : List Entry). GivesOn (left_of h n old) (left_of h n new) None) same on given (rows first from to n) before ∙ ap (λ (h : List Entry). rows h from to n) (sym same)

-- ---- as the store is now

module _ {D : Type 0} (z : SharedState D) (old new : SeatState) (from to : List ℕ) (snapshots : List LabelledSnapshot) (pairs : List Pair) (n : ℕ) (scanned : ScansFresh z old new from to pairs n) where
  abbrev idle : Client
  idle = having Idle snapshots

  scanned_beside : Answers z old new idle idle (command.Scan from to) (reply.Rows pairs n)
  scanned_beside =
      keeps_answers z old new idle (command.Scan from to) (reply.Rows pairs n) scanned.goes_on (record { acknowledges = refl; tables = λ before. refl; labels = λ before. refl; log_failed = refl; tables_failed = refl; remembered = tt; keys = λ before. refl })
      refl scanned.fresh (λ before low. scanned.within) (λ first is_first before p e agrees.
      let low = p.last in let from_on = scanned.fresh in let up_to = scanned.within in let high = shorter e.history new.knows.participant.seen agrees.seen in
      (refl, (omega (arith, low, from_on), omega (arith, up_to, high)), scanned.rows_are ∙ sym (rows_old e.history new.knows.participant.seen from to n agrees.seen scanned.within)))

  pub scanned_answers : IsAnswered z old new idle idle (command.Scan from to) (reply.Rows pairs n)
  scanned_answers = (
    scanned_beside,
    λ world stands only first is_first store so locks. scanned_alone z first old new only store so snapshots (world, stands) from to pairs n scanned.goes_on scanned.fresh scanned.within scanned.rows_are,
  )

-- ---- at a snapshot

module _ {D : Type 0} (z : SharedState D) (old new : SeatState) (from to label : List ℕ) (snapshots : List LabelledSnapshot) (goes : Keeps z old new) where
  abbrev idle_then : Client
  idle_then = having Idle snapshots

  scanned_at_beside : (pairs : List Pair) (n : ℕ) → number_of snapshots label ≡ Some n → n ≤ length new.knows.participant.seen → pairs ≡ rows new.knows.participant.seen from to n
      → Answers z old new idle_then idle_then (command.ScanAt from to label) (reply.Rows pairs n)
  scanned_at_beside pairs n at low is =
      keeps_answers z old new idle_then (command.ScanAt from to label) (reply.Rows pairs n) goes (record { acknowledges = refl; tables = λ before. refl; labels = λ before. refl; log_failed = refl; tables_failed = refl; remembered = tt; keys = λ before. refl })
      refl tt (λ before low. low) (λ first is_first before p e agrees.
      let high = shorter e.history new.knows.participant.seen agrees.seen in
      subst (λ (o : Option ℕ). UnlessRefused (unless_labelled o label) (reply.Rows pairs n) (Condition e before idle_then 0 (command.ScanAt from to label) (reply.Rows pairs n))) (sym at)
      (refl, (at, omega (arith, low, high)), is ∙ sym (rows_old e.history new.knows.participant.seen from to n agrees.seen low)))

  pub scanned_at_answers : (pairs : List Pair) (n : ℕ) → number_of snapshots label ≡ Some n → n ≤ length new.knows.participant.seen → pairs ≡ rows new.knows.participant.seen from to n
      → IsAnswered z old new idle_then idle_then (command.ScanAt from to label) (reply.Rows pairs n)
  scanned_at_answers pairs n at low is = (
    scanned_at_beside pairs n at low is,
    λ world stands only first is_first store so locks. scanned_at_alone z first old new only store so snapshots (world, stands) from to label n at goes pairs is,
  )

  -- the client has no such snapshot
  unknown_beside : number_of snapshots label ≡ None → Answers z old new idle_then idle_then (command.ScanAt from to label) (reply.UnknownSnapshot label)
  unknown_beside none =
      keeps_answers z old new idle_then (command.ScanAt from to label) (reply.UnknownSnapshot label) goes (record { acknowledges = refl; tables = λ before. refl; labels = λ before. refl; log_failed = refl; tables_failed = refl; remembered = tt; keys = λ before. refl })
      refl tt (λ before low. low)
      (λ first is_first before p e agrees. subst (λ (o : Option ℕ). UnlessRefused (unless_labelled o label) (reply.UnknownSnapshot label) (Condition e before idle_then 0 (command.ScanAt from to label) (reply.UnknownSnapshot label))) (sym none) refl)

  pub unknown_scanned : new ≡ old → number_of snapshots label ≡ None → IsAnswered z old new idle_then idle_then (command.ScanAt from to label) (reply.UnknownSnapshot label)
  unknown_scanned same none = (unknown_beside none, λ world stands only first is_first store so locks. unknown_scan_alone z first old new only store so snapshots same from to label none)

-- ---- a snapshot that is released again

module _ {D : Type 0} (z : SharedState D) (a b : SeatState) (r : Registration) (took : Continues z a b (record a.knows.participant { registered = a.knows.participant.registered ++ r ∷ [] })) (c : SeatState) (read : Continues z b c b.knows.participant)
    (d : SeatState) (front back : List Registration) (there : c.knows.participant.registered ≡ front ++ r ∷ back) (last : IsIn r back → ⊥) (left : Continues z c d (record c.knows.participant { registered = front ++ back })) where
  pub scans_once : (from to : List ℕ) (pairs : List Pair) → r.number ≡ length b.knows.participant.seen → IsTaken z a b.knows.participant.seen r → pairs ≡ rows c.knows.participant.seen from to r.number → ScansFresh z a d from to pairs r.number
  scans_once from to pairs number taken is =
      let first = shorter b.knows.participant.seen a.knows.participant.seen took.seen in
      let second = shorter c.knows.participant.seen b.knows.participant.seen read.seen in
      let third = shorter d.knows.participant.seen c.knows.participant.seen left.seen in
      record {
        goes_on = released z a b r took c read d front back there last left;
        fresh = omega (arith, first, number);
        within = omega (arith, second, third, number);
        published = record {
          snapshot = r;
          history = b.knows.participant.seen;
          taken = taken;
          number = refl;
          seen = starts_on b.knows.participant.seen c.knows.participant.seen d.knows.participant.seen read.seen left.seen;
        };
        rows_are = is ∙ sym (rows_old d.knows.participant.seen c.knows.participant.seen from to r.number left.seen (omega (arith, second, number)));
      }
