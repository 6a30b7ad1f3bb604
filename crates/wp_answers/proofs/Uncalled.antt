-- A refusal that comes to no reply was for want of memory, and no device was called.
use Rattle.std.proofs.Common.{◌≡◌, inl, inr, List, [], ◌∷◌, ◌++◌, None, true, refl, ap, ◌∙◌, append-nil, subst, sym, Err, ℕ}
use Rattle.std.specs.List.{filter}
use Rattle.std.proofs.lemmas.List.Elements.{filter-append}
use Rattle.wp_model.specs.declared.change.Change.{Change}
use Rattle.wp_model.specs.declared.change.Change.TheVariants as change
use Rattle.wp_model.specs.Batch.{key_of}
use Rattle.wp_text.specs.declared.script.Command.{Command}
use Rattle.wp_text.specs.declared.script.Command.TheVariants as command
use Rattle.wp_core.specs.Views.{Event}
use Rattle.wp_core.specs.World.{Participant}
use Rattle.wp_shared.specs.Devices.{is_device_mark, device_marks, CalledNoDevice}
use Rattle.wp_shared.specs.Seats.{SharedState, SeatState}
use Rattle.wp_open_txns.specs.declared.error.TxnError.{TxnError}
use Rattle.wp_open_txns.specs.declared.error.TxnError.TheVariants.{Memory, LogFault, Unknown, InUse}
use Rattle.wp_open_txns.specs.Txn.{OpenState, PreparedState}
use Rattle.wp_txn.specs.Writes.{RefusesBeforeLog, RefusesBehindRead, writing_direct}
use Rattle.wp_maint.specs.declared.error.MaintError.{MaintError}
use Rattle.wp_maint.specs.declared.error.MaintError.TheVariants as maint
use Rattle.wp_maint.specs.declared.renewed.RenewError.{RenewError}
use Rattle.wp_maint.specs.declared.renewed.RenewError.TheVariants as renewal
use Rattle.wp_maint.specs.Calls.{RefusesBeforeDevices}
use Rattle.wp_maint.specs.Renewal.{Renews}
use Rattle.wp_client.specs.declared.holdings.HeldTxn.TheVariants as held
use Rattle.wp_client.specs.Replies.{asking, refusal}
use Rattle.wp_answers.specs.Replies.{is_change, renewal_refusal, tables_refusal}
use Rattle.wp_answers.specs.Settling.{takes_of, HasTaken, GivesUpTo, RefusesOne, RefusesTakes, RefusesThem}
use Rattle.wp_answers.specs.Uncalled.{CallsNoDevice, LeavesDevices}

module _ {D : Type 0} (z : SharedState D) (old new : SeatState) where
  pub before_log : (found : Participant) (why : TxnError) → refusal why ≡ None → RefusesBeforeLog z found old why new → RefusesBeforeLog z found old Memory new
  before_log found LogFault none k = absurd cc
  before_log found _ none k = k

  pub behind_read : (why : TxnError) → refusal why ≡ None → RefusesBehindRead z old why new → RefusesBehindRead z old Memory new
  behind_read LogFault none k = absurd cc
  behind_read _ none k = k

  pub of_flush_or_compaction : (Keeps : Type 0) (why : MaintError) → tables_refusal why ≡ None → RefusesBeforeDevices Keeps old why new → RefusesBeforeDevices Keeps old maint.Memory new
  of_flush_or_compaction Keeps maint.Memory none k = k
  of_flush_or_compaction Keeps _ none k = absurd cc

  pub of_renewal : (why : RenewError) → renewal_refusal why ≡ None → Renews z old (Err why) new → Renews z old (Err renewal.Memory) new
  of_renewal renewal.Memory none k = k
  of_renewal _ none k = absurd cc

  -- a change that is written at once
  pub at_once : (c : Change) (asked : Command) → asked ≡ asking c → (why : TxnError) → refusal why ≡ None → RefusesBeforeLog z (writing_direct (key_of c) old.knows.participant) old why new → CallsNoDevice z old new asked held.Idle
  at_once c asked same why none k = subst (λ (x : Command). CallsNoDevice z old new x held.Idle) (sym same) (of_change c (before_log (writing_direct (key_of c) old.knows.participant) why none k))
    where
      of_change : (d : Change) → RefusesBeforeLog z (writing_direct (key_of d) old.knows.participant) old Memory new → CallsNoDevice z old new (asking d) held.Idle
      of_change (change.Put key value) r = r
      of_change (change.Del key) r = r

  -- ... and one that an open transaction takes in
  pub staged : (t : OpenState) (asked : Command) → is_change asked ≡ true → CallsNoDevice z old new asked (held.Open t)
  staged t (command.Put key value) is = tt
  staged t (command.Del key) is = tt
  staged t _ is = absurd cc

-- ---- a settle

takes_unmarked : (names : List (List ℕ)) → filter is_device_mark (takes_of names) ≡ []
takes_unmarked [] = refl
takes_unmarked (name ∷ names) = takes_unmarked names

called_through : (p q r : Participant) → CalledNoDevice p q → CalledNoDevice q r → CalledNoDevice p r
called_through p q r first second = record { own = second.own ∙ first.own; marks = second.marks ∙ first.marks }

-- the seat called no device as it took the transactions
taken_uncalled : {D : Type 0} (z : SharedState D) (s t : SeatState) (names : List (List ℕ)) (txns : List PreparedState) → HasTaken z s names txns t → CalledNoDevice s.knows.participant t.knows.participant
taken_uncalled z s t names txns k = record {
  own = ap (λ (p : Participant). p.own) k.goes_on.participant;
  marks = ap device_marks k.goes_on.participant ∙ (filter-append is_device_mark s.knows.participant.past (takes_of names)
      ∙ (ap (λ (events : List Event). device_marks s.knows.participant ++ events) (takes_unmarked names) ∙ append-nil (device_marks s.knows.participant)));
}

-- nor as it left them
left_uncalled : {D : Type 0} (z : SharedState D) (s t : SeatState) (left : List PreparedState) → GivesUpTo z s t left → CalledNoDevice s.knows.participant t.knows.participant
left_uncalled z s t left k = record { own = ap (λ (p : Participant). p.own) k.same; marks = ap device_marks k.same }

module _ {D : Type 0} (z : SharedState D) (old new : SeatState) (names : List (List ℕ)) (why : TxnError) (none : refusal why ≡ None) where
  pub not_taken_uncalled : RefusesTakes z old names why new → LeavesDevices z old new (command.Settle names) held.Idle
  not_taken_uncalled (inl (memory, same)) = inl same
  not_taken_uncalled (inr k) = by why none k
    where
      by : (w : TxnError) → refusal w ≡ None → RefusesOne z old names w new → LeavesDevices z old new (command.Settle names) held.Idle
      by Memory none k = inr (record {
        mid = k.behind;
        behind = k.behind;
        taken = called_through old.knows.participant k.mid.knows.participant k.behind.knows.participant (taken_uncalled z old k.mid k.before k.txns k.taken)
            (record { own = ap (λ (p : Participant). p.own) k.refused.participant; marks = ap device_marks k.refused.participant });
        refused = (record { own = refl; marks = refl }, inl refl);
        left = left_uncalled z k.behind new [] k.leaves;
      })
      by (Unknown other at) none k = absurd cc
      by (InUse other) none k = absurd cc
      by _ none k = absurd k.refused

  pub not_settled_uncalled : (txns : List PreparedState) (mid : SeatState) → HasTaken z old names txns mid → RefusesThem z mid txns why new → LeavesDevices z old new (command.Settle names) held.Idle
  not_settled_uncalled txns mid taken k = inr (record {
    mid = mid;
    behind = k.behind;
    taken = taken_uncalled z old mid names txns taken;
    refused = before_log z mid k.behind mid.knows.participant why none k.before_log;
    left = left_uncalled z k.behind new [] k.leaves;
  })
