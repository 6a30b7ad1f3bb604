-- What a client is answered that prepares, commits, rolls back, drops or leaves its transaction.
use Rattle.std.proofs.Common.{◌≡◌, inl, ℕ, suc, ◌<◌, ◌≤◌, true, List, [], ◌∷◌, ◌++◌, length, take, Option, Some, None, refl, sym, subst, ap, ◌∙◌, append_assoc, arith}
use Rattle.std.specs.Prelude.{◌≢◌, ◌-◌, IfSome}
use Rattle.std.specs.List.{AllByRecursion}
use Rattle.std.specs.Option.{option_map}
use Rattle.std.proofs.lemmas.List.{length-append}
use mathlib.Core.List.{append-nil}
use Rattle.wp_model.specs.declared.entry.Entry.{Entry}
use Rattle.wp_model.specs.declared.entry.Entry.TheVariants as entry
use Rattle.wp_model.specs.Changed.{IsUnchanged}
use Rattle.wp_model.specs.Flushed.{InstalledEdit}
use Rattle.wp_model.specs.History.{entry_at}
use Rattle.wp_model.proofs.Entries.{entry_at_old, slice_get_next}
use Rattle.wp_model.specs.Legal.{prior}
use Rattle.wp_text.specs.declared.script.Command.{Command}
use Rattle.wp_text.specs.declared.script.Command.TheVariants as command
use Rattle.wp_text.specs.declared.reply.Reply.{Reply}
use Rattle.wp_text.specs.declared.reply.Reply.TheVariants as reply
use Rattle.wp_core.specs.Reading.{Registration}
use Rattle.wp_core.specs.Lists.{IsIn}
use Rattle.wp_core.specs.Sound.Actors.{StartsWith}
use Rattle.wp_core.specs.Views.{locks_stay}
use Rattle.wp_core.specs.World.{Participant}
use Rattle.wp_core.proofs.KeepsSeen.{shorter}
use Rattle.wp_records.specs.Records.{numbers_behind}
use Rattle.wp_read.specs.Registers.{without_last, unregistering}
use Rattle.wp_shared.specs.Calls.{IsLoose, ContinuesWith}
use Rattle.wp_shared.specs.Seats.{SharedState, SeatState}
use Rattle.wp_open_txns.specs.declared.error.TxnError.{TxnError}
use Rattle.wp_open_txns.specs.declared.error.TxnError.TheVariants.{Silent}
use Rattle.wp_open_txns.specs.Calls.{without_transaction, GivesUp, Abandons}
use Rattle.wp_open_txns.specs.Turns.{IsApartFrom}
use Rattle.wp_open_txns.specs.Txn.{OpenState, PreparedState, has_key, keys_in, HasPrepared}
use Rattle.wp_txn.specs.Writes.{AreUnchanged, StayUnchanged, Prepares, Ends, CommitsNow, Commits, RollsBack, RefusesOpen, RefusesPrepared, AsksCommit, AsksRollback}
use Rattle.wp_replies.specs.declared.client.LabelledSnapshot.{LabelledSnapshot}
use Rattle.wp_replies.specs.Txn.{Txn, Idle, Open, Prepared}
use Rattle.wp_replies.specs.After.{after_reply}
use Rattle.wp_replies.specs.Kind.{acknowledged, last_after}
use Rattle.wp_replies.specs.Progress.{ToldKey, Progress}
use Rattle.wp_replies.specs.Replies.{Evidence, IsLoggedAt, AreKept, IsValidated, KeepsKeys, Allows}
use Rattle.wp_replies.specs.Plan.{next}
use Rattle.wp_answers.proofs.Alone.Decisions.{prepared_alone, committed_now_alone, open_stopped_alone, open_full_alone, open_fault_alone, prepare_asks, commit_now_asks, committed_alone, rolled_back_alone, commit_stopped_alone, commit_full_alone, commit_fault_alone, rollback_stopped_alone, rollback_full_alone, rollback_fault_alone, dropped_alone, left_alone}
use Rattle.wp_client.specs.declared.holdings.HeldTxn.TheVariants as held
use Rattle.wp_client.specs.Answers.{IsNoted, IsProgress, Answers, BreaksOff, IsDue, IsAnswered}
use Rattle.wp_client.specs.Holdings.{staged_of, HoldsTxn, HoldsFrom}
use Rattle.wp_client.specs.Replies.{refusal}
use Rattle.wp_answers.proofs.Putting.{one_answers, last_entry, last_within}
use Rattle.wp_client.proofs.Fitting.{Fits, else_answers}
use Rattle.wp_client.proofs.Clients.{having, holds_from}
use Rattle.wp_client.proofs.GivenUp.{without_pin, gone}
use Rattle.wp_client.proofs.Noting.{loose_unchanged}
use Rattle.wp_client.proofs.Growing.{of_two, progress_still}
use Rattle.wp_answers.proofs.Refused.{IsLogged, none_before, by_refusal, refused_answers, refused_holds, refused_memory}
use Rattle.wp_client.proofs.Staying.{Repins, past_same, in_place, broke_off_after, has_now, holds_now}

-- ---- one entry

module _ {D : Type 0} (z : SharedState D) (old new : SeatState) (snapshots : List LabelledSnapshot) where
  abbrev it : Participant
  it = old.knows.participant

  -- what the seat noted of the keys of its open transaction is so in the history that the entry was put behind
  module _ (txn : OpenState) (history : List Entry) (are : AreUnchanged old txn history) where
    each_kept : (keys : List ToldKey) → AllByRecursion (IsNoted old txn.name) keys → AreKept history keys
    each_kept [] noted = tt
    each_kept (k ∷ keys) noted = let is = noted.0 in (record { since = is.number; told = is.told; behind = is.behind; unchanged = are.noted k.key is.number is.noted }, each_kept keys noted.1)

    validated : IsValidated history (staged_of txn)
    validated = by txn.pin refl
      where
        by : (pin : Option Registration) → txn.pin ≡ pin → IfSome (option_map (λ (r : Registration). r.number) pin) (λ n. (key : List ℕ) → has_key txn.batch txn.locked key ≡ true → IsUnchanged history key n)
        by None is = tt
        by (Some r) is = are.pinned r is

    keeps_keys : (first : InstalledEdit) (before : Progress) → IsProgress first old (Open (staged_of txn)) before → (h : List Entry) → h ≡ history → KeepsKeys h (staged_of txn) before.keys
    keeps_keys first before p h same = subst (λ (x : List Entry). KeepsKeys x (staged_of txn) before.keys) (sym same) (record { all = p.keys.all; kept = each_kept before.keys p.keys.each; validated = validated })

  pub prepared_answers : (txn : OpenState) (prepared : PreparedState) (n : ℕ) → Prepares z old txn prepared n new → IsAnswered z old new (having (Open (staged_of txn)) snapshots) (having (Prepared prepared.number) snapshots) command.Prepare (reply.Prepared n)
  prepared_answers txn prepared n k = (
    one_answers z old new _ it (unregistering txn.pin it) k.3.0 (entry.Prepare txn.name txn.batch) [] (having (Open (staged_of txn)) snapshots) (having (Prepared prepared.number) snapshots) command.Prepare (reply.Prepared n) n k.3.1 k.0 refl refl (sym (append-nil it.past))
        (record { acknowledges = refl; tables = λ before. refl; labels = λ before. refl; log_failed = refl; log_stopped = refl; tables_failed = refl; once = omega arith; remembered = tt; explained = λ event there. absurd there })
        (ap (λ (x : PreparedState). having (Prepared x.number) snapshots) k.1) (λ before low are. tt) (λ before. refl) (λ first before p e front logged. (logged, keeps_keys txn k.3.0 k.3.2 first before p _ front)),
    λ world stands only first is_first store so locks. prepared_alone z first old new only store so (world, stands) snapshots txn prepared n k,
  )

  module _ (name : List ℕ) (n : ℕ) where
    -- its transaction ends by one entry
    ended_answers : (t : Txn) (after : Participant) (made : Entry) (So : List Entry → Type 0) → after.client ≡ it.client → after.own ≡ it.own → after.past ≡ it.past → (k : Ends z old name after (made ∷ []) So n new)
        → ((first : InstalledEdit) (before : Progress) → IsProgress first old t before → (e : Evidence) → take (n - 1) e.history ≡ k.1.0 → IsLoggedAt e.history before.last n made → Allows e before (having t snapshots) 0 command.Commit (reply.Committed n))
        → Answers z old new (having t snapshots) (having Idle snapshots) command.Commit (reply.Committed n)
    ended_answers t after made So client own past k condition =
        one_answers z old new _ it after k.1.0 made [] (having t snapshots) (having Idle snapshots) command.Commit (reply.Committed n) n k.1.1 k.0 client own (past ∙ sym (append-nil it.past))
        (record { acknowledges = refl; tables = λ before. refl; labels = λ before. refl; log_failed = refl; log_stopped = refl; tables_failed = refl; once = omega arith; remembered = tt; explained = λ event there. absurd there })
        refl (λ before low are. tt) (λ before. refl) condition

  pub committed_now_answers : (txn : OpenState) (n : ℕ) → CommitsNow z old txn n new → IsAnswered z old new (having (Open (staged_of txn)) snapshots) (having Idle snapshots) command.Commit (reply.Committed n)
  committed_now_answers txn n k = (
    ended_answers txn.name n (Open (staged_of txn)) (without_transaction txn.name (unregistering txn.pin it)) (entry.Write txn.batch) (AreUnchanged old txn) refl refl refl k
        (λ first before p e front logged. (logged, keeps_keys txn k.1.0 k.1.2 first before p _ front)),
    λ world stands only first is_first store so locks. committed_now_alone z first old new only store so (world, stands) snapshots txn n k,
  )

  pub committed_answers : (txn : PreparedState) (n : ℕ) → Commits z old txn n new → IsAnswered z old new (having (Prepared txn.number) snapshots) (having Idle snapshots) command.Commit (reply.Committed n)
  committed_answers txn n k = (
    ended_answers txn.name n (Prepared txn.number) (without_transaction txn.name it) (entry.Commit txn.number) (StayUnchanged txn) refl refl refl k.0 (λ first before p e front logged. logged),
    λ world stands only first is_first store so locks. committed_alone z first old new only store so (world, stands) snapshots txn n k,
  )

  -- ---- no entry

  given_up_answers : (name : List ℕ) (after : Participant) → after.client ≡ it.client → after.own ≡ it.own → after.past ≡ it.past → (t : Txn) (c : Command) (r : Reply) → ContinuesWith (IsApartFrom name) z old new after → Fits c r [] [] it.client t → having Idle snapshots ≡ after_reply 0 (having t snapshots) c r
      → ((before : ℕ) → last_after before c r ≡ before) → ((e : Evidence) (before : Progress) → Allows e before (having t snapshots) 0 c r) → Answers z old new (having t snapshots) (having Idle snapshots) c r
  given_up_answers name after client own past t c r goes fits is last condition =
      else_answers z old new _ after [] (having t snapshots) (having Idle snapshots) c r 0 goes client own (past ∙ sym (append-nil it.past)) fits is (λ before low are. tt)
      (λ before low. let same = last before in omega (arith, same, low)) (λ first is_first before p e agrees. condition e before)

  pub dropped_answers : (txn : OpenState) → Abandons z old new txn → IsAnswered z old new (having (Open (staged_of txn)) snapshots) (having Idle snapshots) command.Rollback reply.Dropped
  dropped_answers txn goes = (
    given_up_answers txn.name (without_transaction txn.name (unregistering txn.pin it)) refl refl refl (Open (staged_of txn)) command.Rollback reply.Dropped goes
        (record { acknowledges = refl; tables = λ before. refl; labels = λ before. refl; log_failed = refl; log_stopped = refl; tables_failed = refl; once = omega arith; remembered = tt; explained = λ event there. absurd there })
        refl (λ before. refl) (λ e before. tt),
    λ world stands only first is_first store so locks. dropped_alone z first old new only store so (world, stands) snapshots txn goes,
  )

  pub left_answers : (txn : PreparedState) → HasPrepared old txn → IsIn (locks_stay txn.name txn.number (keys_in txn.batch txn.locked)) new.knows.notes → GivesUp z old new txn.name → IsAnswered z old new (having (Prepared txn.number) snapshots) (having Idle snapshots) command.Leave reply.Left
  left_answers txn has noted goes = (
    given_up_answers txn.name (without_transaction txn.name it) refl refl refl (Prepared txn.number) command.Leave reply.Left goes
        (record { acknowledges = refl; tables = λ before. refl; labels = λ before. refl; log_failed = refl; log_stopped = refl; tables_failed = refl; once = omega arith; remembered = tt; explained = λ event there. absurd there })
        refl (λ before. refl) (λ e before. tt),
    λ world stands only first is_first store so locks. left_alone z first old new only store so (world, stands) snapshots txn has noted goes,
  )

-- ---- a rollback: two entries

-- the numbers of the last two
two_numbers : (history seen : List Entry) (undo close : Entry) (n : ℕ) → seen ≡ history ++ undo ∷ close ∷ [] → n ≡ length seen → n ≡ suc (suc (length history))
two_numbers history seen undo close n ends is =
    let size = ap (λ (l : List Entry). length l) ends in let more = length-append history (undo ∷ close ∷ []) in omega (arith, size, more, is)

module _ {D : Type 0} (z : SharedState D) (old new : SeatState) (txn : PreparedState) (n : ℕ) (snapshots : List LabelledSnapshot) (k : RollsBack z old txn n new) where
  abbrev seen : List Entry
  seen = new.knows.participant.seen

  abbrev history : List Entry
  history = k.1.0

  abbrev undo : Entry
  undo = entry.Undo txn.number (prior history txn.batch)

  abbrev close : Entry
  close = entry.Close txn.number

  number_is : n ≡ suc (suc (length history))
  number_is = two_numbers history seen undo close n k.1.1.seen k.0

  later_two : (before : Progress) → before.last ≤ length old.knows.participant.seen → (before.last < n) × (before.last < n - 1)
  later_two before low = let more = shorter history old.knows.participant.seen k.1.1.grown in let is = number_is in (omega (arith, low, more, is), omega (arith, low, more, is))

  close_there : (h : List Entry) → StartsWith h seen → entry_at h n ≡ Some close
  close_there h starts = last_entry h seen (history ++ undo ∷ []) close n starts (k.1.1.seen ∙ sym (append_assoc history (undo ∷ []) (close ∷ []))) k.0

  undo_there : (h : List Entry) → StartsWith h seen → entry_at h (n - 1) ≡ Some undo
  undo_there h starts = let is = number_is in let one : n - 1 ≡ suc (length history) = omega (arith, is) in let size = k.0 in
      ap (λ (l : List Entry). entry_at l (n - 1)) starts.1 ∙ (entry_at_old seen starts.0 (n - 1) (omega (arith, size)) ∙ (ap (λ (l : List Entry). entry_at l (n - 1)) k.1.1.seen
      ∙ (ap (entry_at (history ++ undo ∷ close ∷ [])) one ∙ slice_get_next history undo (close ∷ []))))

  own_two : numbers_behind (length history) (undo ∷ close ∷ []) ≡ acknowledged (reply.RolledBack n)
  own_two = let is = number_is in let one : suc (length history) ≡ n - 1 = omega (arith, is) in let two : suc (suc (length history)) ≡ n = omega (arith, is) in
      ap (λ (m : ℕ). m ∷ suc (suc (length history)) ∷ []) one ∙ ap (λ (m : ℕ). (n - 1) ∷ m ∷ []) two

  rolled_back_beside : Answers z old new (having (Prepared txn.number) snapshots) (having Idle snapshots) command.Rollback (reply.RolledBack n)
  rolled_back_beside = let goes = k.1.1.goes_on in
      let grown : new.knows.participant.past ≡ old.knows.participant.past ++ [] = ap (λ (p : Participant). p.past) goes.participant ∙ sym (append-nil old.knows.participant.past) in record {
        stays = in_place _ z old new _ goes refl;
        own = ap (λ (p : Participant). p.own) goes.participant ∙ ap (λ (ns : List ℕ). old.knows.participant.own ++ ns) own_two;
        within = let last = last_within z old new k.1.1 n k.0 in of_two (λ (m : ℕ). m ≤ z.limit) (n - 1) n (omega (arith, last)) last;
        events = [];
        past = grown;
        explained = λ event there. absurd there;
        log_failed = refl;
        log_stopped = refl;
        tables_failed = refl;
        once = omega arith;
        remembered = tt;
        number = 0;
        after = refl;
        progress = λ first is_first before p. progress_still first old new (Prepared txn.number) Idle [] before _ grown (λ due. refl) p (let is = k.0 in omega (arith, is)) refl refl (λ label known. inl known) tt;
        allowed = λ first is_first before p e agrees. let low = later_two before p.last in ((low.0, close_there e.history agrees.seen), (prior history txn.batch, (low.1, undo_there e.history agrees.seen)));
      }

  pub rolled_back_answers : HasPrepared old txn → IsAnswered z old new (having (Prepared txn.number) snapshots) (having Idle snapshots) command.Rollback (reply.RolledBack n)
  rolled_back_answers has = (rolled_back_beside, λ world stands only first is_first store so locks. rolled_back_alone z first old new only store so (world, stands) snapshots txn has n k)

-- ---- what the client has then

module _ {D : Type 0} (z : SharedState D) (old new : SeatState) where
  -- the pin is registered no more
  pin_goes : (txn : OpenState) → HoldsTxn z old (held.Open txn) → Repins old.knows.participant.registered (without_last txn.pin old.knows.participant.registered) (held.Open txn) held.Idle
  pin_goes txn has = without_pin txn old.knows.participant.registered (λ r is. (has.has.pinned r is).0)

  pub committed_now_holds : (txn : OpenState) (n : ℕ) → HoldsTxn z old (held.Open txn) → CommitsNow z old txn n new → HoldsFrom z old new (held.Open txn) held.Idle
  committed_now_holds txn n has k = gone z old new _ _ (held.Open txn) txn.name k.1.1.goes_on refl refl (pin_goes txn has) has has.only

  pub committed_holds : (txn : PreparedState) (n : ℕ) → HoldsTxn z old (held.Prepared txn) → Commits z old txn n new → HoldsFrom z old new (held.Prepared txn) held.Idle
  committed_holds txn n has k = gone z old new _ _ (held.Prepared txn) txn.name k.0.1.1.goes_on refl refl (λ r. refl) has has.only

  pub rolled_back_holds : (txn : PreparedState) (n : ℕ) → HoldsTxn z old (held.Prepared txn) → RollsBack z old txn n new → HoldsFrom z old new (held.Prepared txn) held.Idle
  rolled_back_holds txn n has k = gone z old new _ _ (held.Prepared txn) txn.name k.1.1.goes_on refl refl (λ r. refl) has has.only

  pub prepared_holds : (txn : OpenState) (prepared : PreparedState) (n : ℕ) → HoldsTxn z old (held.Open txn) → Prepares z old txn prepared n new → HoldsFrom z old new (held.Open txn) (held.Prepared prepared)
  prepared_holds txn prepared n has k = let goes = k.3.1.goes_on in let is : PreparedState = record { name = txn.name; number = n; batch = txn.batch; locked = txn.locked } in
      subst (λ (x : PreparedState). HoldsFrom z old new (held.Open txn) (held.Prepared x)) (sym k.1)
      (holds_now _ z old new _ goes (held.Open txn) (held.Prepared is) (pin_goes txn has) (has_now _ z old new _ goes (held.Open txn) (held.Prepared is) refl has (subst (HasPrepared new) k.1 k.2) has.only))

-- ---- refusals

module _ {D : Type 0} (z : SharedState D) (old new : SeatState) (why : TxnError) where
  module _ (c : Command) (txn left : OpenState) (made : Entry) (snapshots : List LabelledSnapshot) (logged : IsLogged old.knows.participant.seen new.knows.participant.seen (having (Open (staged_of txn)) snapshots) c 1 (λ (entries : List Entry). entries ≡ made ∷ [])) (k : RefusesOpen z old txn made left why new) where
    pub open_refused_answers : (r : Reply) → refusal why ≡ Some r → Answers z old new (having (Open (staged_of txn)) snapshots) (having (Open (staged_of left)) snapshots) c r
    open_refused_answers r is =
        subst (λ (x : OpenState). Answers z old new (having (Open (staged_of txn)) snapshots) (having (Open (staged_of x)) snapshots) c r) (sym k.0)
        (refused_answers z old new (having (Open (staged_of txn)) snapshots) c 1 (λ (entries : List Entry). entries ≡ made ∷ []) logged IsLoose (loose_unchanged (Open (staged_of txn))) old.knows.participant old.knows.participant [] (λ event there. there) refl refl (sym (append-nil old.knows.participant.past)) (none_before (having (Open (staged_of txn)) snapshots) c old.knows.participant.client) why r is k.2)

    pub open_refused_named : why ≢ Silent
    open_refused_named is = (subst (λ (w : TxnError). RefusesOpen z old txn made left w new) is k).2

    pub open_refused_breaks : refusal why ≡ None → BreaksOff old new (having (Open (staged_of txn)) snapshots) c
    open_refused_breaks none = broke_off_after _ z old new old.knows.participant (refused_memory z old new 1 (λ (entries : List Entry). entries ≡ made ∷ []) old.knows.participant old.knows.participant why none k.2) [] (having (Open (staged_of txn)) snapshots) c refl refl (sym (append-nil old.knows.participant.past)) (λ event there. absurd there) refl refl refl

  pub open_refused_holds : (txn left : OpenState) (made : Entry) → RefusesOpen z old txn made left why new → HoldsFrom z old new (held.Open txn) (held.Open left)
  open_refused_holds txn left made k = subst (λ (x : OpenState). HoldsFrom z old new (held.Open txn) (held.Open x)) (sym k.0)
      (holds_from z old new (held.Open txn) (refused_holds z old new 1 (λ (entries : List Entry). entries ≡ made ∷ []) old.knows.participant old.knows.participant refl refl refl (past_same old.knows.participant.past) why k.2))

  module _ (c : Command) (txn left : PreparedState) (needs : ℕ) (Asks : List Entry → PreparedState → List Entry → Type 0) (snapshots : List LabelledSnapshot) (logged : IsLogged old.knows.participant.seen new.knows.participant.seen (having (Prepared txn.number) snapshots) c needs (Asks new.knows.participant.seen txn)) (k : RefusesPrepared z old txn needs Asks left why new) where
    pub prepared_refused_answers : (r : Reply) → refusal why ≡ Some r → Answers z old new (having (Prepared txn.number) snapshots) (having (Prepared left.number) snapshots) c r
    prepared_refused_answers r is =
        subst (λ (x : PreparedState). Answers z old new (having (Prepared txn.number) snapshots) (having (Prepared x.number) snapshots) c r) (sym k.0)
        (refused_answers z old new (having (Prepared txn.number) snapshots) c needs (Asks new.knows.participant.seen txn) logged IsLoose tt old.knows.participant old.knows.participant [] (λ event there. there) refl refl (sym (append-nil old.knows.participant.past)) (none_before (having (Prepared txn.number) snapshots) c old.knows.participant.client) why r is k.2)

    pub prepared_refused_named : why ≢ Silent
    prepared_refused_named is = (subst (λ (w : TxnError). RefusesPrepared z old txn needs Asks left w new) is k).2

    pub prepared_refused_breaks : refusal why ≡ None → BreaksOff old new (having (Prepared txn.number) snapshots) c
    prepared_refused_breaks none = broke_off_after _ z old new old.knows.participant (refused_memory z old new needs (Asks new.knows.participant.seen txn) old.knows.participant old.knows.participant why none k.2) [] (having (Prepared txn.number) snapshots) c refl refl (sym (append-nil old.knows.participant.past)) (λ event there. absurd there) refl refl refl

  pub prepared_refused_holds : (txn left : PreparedState) (needs : ℕ) (Asks : List Entry → PreparedState → List Entry → Type 0) → RefusesPrepared z old txn needs Asks left why new → HoldsFrom z old new (held.Prepared txn) (held.Prepared left)
  prepared_refused_holds txn left needs Asks k = subst (λ (x : PreparedState). HoldsFrom z old new (held.Prepared txn) (held.Prepared x)) (sym k.0)
      (holds_from z old new (held.Prepared txn) (refused_holds z old new needs (Asks new.knows.participant.seen txn) old.knows.participant old.knows.participant refl refl refl (past_same old.knows.participant.past) why k.2))

-- what is due where the log refuses it
module _ {D : Type 0} (z : SharedState D) (old new : SeatState) (why : TxnError) (r : Reply) (is : refusal why ≡ Some r) (snapshots : List LabelledSnapshot) where
  abbrev finder : Participant
  finder = old.knows.participant

  module _ (txn left : OpenState) where
    pub prepare_refused_due : RefusesOpen z old txn (entry.Prepare txn.name txn.batch) left why new → IsDue z old new (having (Open (staged_of txn)) snapshots) (having (Open (staged_of left)) snapshots) command.Prepare r
    prepare_refused_due k =
        by_refusal IsLoose z old new 1 (λ (entries : List Entry). entries ≡ entry.Prepare txn.name txn.batch ∷ []) finder finder (IsDue z old new (having (Open (staged_of txn)) snapshots) (having (Open (staged_of left)) snapshots) command.Prepare)
        (λ published limit f. λ world stands only first is_first store so locks. open_full_alone z first old new only store so (world, stands) snapshots txn left command.Prepare (reply.Prepared (next store.history)) (entry.Prepare txn.name txn.batch) (prepare_asks z first old new only store so (world, stands) snapshots txn) published limit (k.0, k.1, f))
        (λ n f. λ world stands only first is_first store so locks. open_stopped_alone z first old new only store so (world, stands) snapshots txn left command.Prepare (reply.Prepared (next store.history)) (entry.Prepare txn.name txn.batch) (prepare_asks z first old new only store so (world, stands) snapshots txn) n (k.0, k.1, f))
        (λ f. λ world stands only first is_first store so locks. open_fault_alone z first old new only store so (world, stands) snapshots txn left command.Prepare (reply.Prepared (next store.history)) (entry.Prepare txn.name txn.batch) (prepare_asks z first old new only store so (world, stands) snapshots txn) (k.0, k.1, f))
        why r is k.2

    pub commit_now_refused_due : RefusesOpen z old txn (entry.Write txn.batch) left why new → IsDue z old new (having (Open (staged_of txn)) snapshots) (having (Open (staged_of left)) snapshots) command.Commit r
    commit_now_refused_due k =
        by_refusal IsLoose z old new 1 (λ (entries : List Entry). entries ≡ entry.Write txn.batch ∷ []) finder finder (IsDue z old new (having (Open (staged_of txn)) snapshots) (having (Open (staged_of left)) snapshots) command.Commit)
        (λ published limit f. λ world stands only first is_first store so locks. open_full_alone z first old new only store so (world, stands) snapshots txn left command.Commit (reply.Committed (next store.history)) (entry.Write txn.batch) (commit_now_asks z first old new only store so (world, stands) snapshots txn) published limit (k.0, k.1, f))
        (λ n f. λ world stands only first is_first store so locks. open_stopped_alone z first old new only store so (world, stands) snapshots txn left command.Commit (reply.Committed (next store.history)) (entry.Write txn.batch) (commit_now_asks z first old new only store so (world, stands) snapshots txn) n (k.0, k.1, f))
        (λ f. λ world stands only first is_first store so locks. open_fault_alone z first old new only store so (world, stands) snapshots txn left command.Commit (reply.Committed (next store.history)) (entry.Write txn.batch) (commit_now_asks z first old new only store so (world, stands) snapshots txn) (k.0, k.1, f))
        why r is k.2

  module _ (txn left : PreparedState) where
    pub commit_refused_due : RefusesPrepared z old txn 1 AsksCommit left why new → IsDue z old new (having (Prepared txn.number) snapshots) (having (Prepared left.number) snapshots) command.Commit r
    commit_refused_due k =
        by_refusal IsLoose z old new 1 (AsksCommit new.knows.participant.seen txn) finder finder (IsDue z old new (having (Prepared txn.number) snapshots) (having (Prepared left.number) snapshots) command.Commit)
        (λ published limit f. λ world stands only first is_first store so locks. commit_full_alone z first old new only store so (world, stands) snapshots txn left published limit (k.0, k.1, f))
        (λ n f. λ world stands only first is_first store so locks. commit_stopped_alone z first old new only store so (world, stands) snapshots txn left n (k.0, k.1, f))
        (λ f. λ world stands only first is_first store so locks. commit_fault_alone z first old new only store so (world, stands) snapshots txn left (k.0, k.1, f))
        why r is k.2

    pub rollback_refused_due : HasPrepared old txn → RefusesPrepared z old txn 2 AsksRollback left why new → IsDue z old new (having (Prepared txn.number) snapshots) (having (Prepared left.number) snapshots) command.Rollback r
    rollback_refused_due has k =
        by_refusal IsLoose z old new 2 (AsksRollback new.knows.participant.seen txn) finder finder (IsDue z old new (having (Prepared txn.number) snapshots) (having (Prepared left.number) snapshots) command.Rollback)
        (λ published limit f. λ world stands only first is_first store so locks. rollback_full_alone z first old new only store so (world, stands) snapshots txn left has published limit (k.0, k.1, f))
        (λ n f. λ world stands only first is_first store so locks. rollback_stopped_alone z first old new only store so (world, stands) snapshots txn left has n (k.0, k.1, f))
        (λ f. λ world stands only first is_first store so locks. rollback_fault_alone z first old new only store so (world, stands) snapshots txn left has (k.0, k.1, f))
        why r is k.2

-- what each command asks the log for
module _ (snapshots : List LabelledSnapshot) where
  pub prepare_logged : {had seen : List Entry} (txn : OpenState) → IsLogged had seen (having (Open (staged_of txn)) snapshots) command.Prepare 1 (λ (entries : List Entry). entries ≡ entry.Prepare txn.name txn.batch ∷ [])
  prepare_logged txn = record { free = refl; some = omega arith; needs_is = refl; asks = λ entries k history last starts low. k; fresh = λ r. refl; comes = λ r of_log before. refl; labels = λ before r. refl }

  pub commit_now_logged : {had seen : List Entry} (txn : OpenState) → IsLogged had seen (having (Open (staged_of txn)) snapshots) command.Commit 1 (λ (entries : List Entry). entries ≡ entry.Write txn.batch ∷ [])
  commit_now_logged txn = record { free = refl; some = omega arith; needs_is = refl; asks = λ entries k history last starts low. k; fresh = λ r. refl; comes = λ r of_log before. refl; labels = λ before r. refl }

  pub commit_logged : {had seen : List Entry} (history : List Entry) (txn : PreparedState) → IsLogged had seen (having (Prepared txn.number) snapshots) command.Commit 1 (AsksCommit history txn)
  commit_logged history txn = record { free = refl; some = omega arith; needs_is = refl; asks = λ entries k history last starts low. k; fresh = λ r. refl; comes = λ r of_log before. refl; labels = λ before r. refl }

  pub rollback_logged : {had seen : List Entry} (history : List Entry) (txn : PreparedState) → IsLogged had seen (having (Prepared txn.number) snapshots) command.Rollback 2 (AsksRollback history txn)
  rollback_logged history txn = record { free = refl; some = omega arith; needs_is = refl; asks = λ entries k h last starts low. (prior history txn.batch, k); fresh = λ r. refl; comes = λ r of_log before. refl; labels = λ before r. refl }
