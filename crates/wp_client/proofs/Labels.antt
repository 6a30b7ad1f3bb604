-- What a client is answered that tells, or hears.
use Rattle.std.proofs.Common.{◌≡◌, ◌⊎◌, ⊎_elim, inl, inr, ℕ, true, List, [], ◌∷◌, ◌++◌, refl, sym, subst, ap, ◌∙◌, arith}
use Rattle.std.specs.Prelude.{◌≢◌, nat_le, ◌&&◌, Some, None, Result, Ok, Err}
use Rattle.std.specs.Str.{bytes_eq}
use Rattle.std.proofs.lemmas.Bool.{cases_Bool}
use Rattle.std.proofs.lemmas.Bool.Decides.{nat_tests}
use Rattle.std.proofs.lemmas.Slice.Eq.{bytes_eq-Decides}
use mathlib.Core.List.{append-nil}
use Rattle.wp_text.specs.declared.script.Command.TheVariants as command
use Rattle.wp_text.specs.declared.reply.Reply.{Reply}
use Rattle.wp_text.specs.declared.reply.Reply.TheVariants as reply
use Rattle.wp_core.specs.Lists.{IsIn}
use Rattle.wp_core.specs.Views.{Event, told, heard}
use Rattle.wp_core.specs.World.{Participant}
use Rattle.wp_core.proofs.KeepsSeen.{shorter}
use Rattle.wp_core.proofs.PastsGrow.{in_last}
use Rattle.wp_shared.specs.Calls.{Continues, with_events}
use Rattle.wp_shared.specs.Seats.{SharedState, SeatState}
use Rattle.wp_open_txns.specs.declared.error.TxnError.{TxnError}
use Rattle.wp_open_txns.specs.declared.error.TxnError.TheVariants.{Memory, Silent}
use Rattle.wp_open_txns.specs.Calls.{Keeps, IsSilent, Tells, Hears}
use Rattle.wp_replies.specs.Client.{Client}
use Rattle.wp_replies.specs.Progress.{knows_label}
use Rattle.wp_client.proofs.Alone.Board.{told_alone, heard_alone, silent_alone}
use Rattle.wp_client.specs.Fresh.{NamesSeen}
use Rattle.wp_client.specs.Answers.{IsExplained, Answers, BreaksOff, IsAnswered}
use Rattle.wp_client.specs.Holdings.{HoldingsState, Holds}
use Rattle.wp_client.specs.Replies.{refusal}
use Rattle.wp_client.proofs.Staying.{in_place, past_more, holds_still, keeps_holds, broke_off}
use Rattle.wp_client.proofs.Growing.{of_one, progress_still, last_still}
use Rattle.wp_client.proofs.Noting.{noted_still}

none_some : (r : Reply) → None ≡ Some r → ⊥
none_some r is = absurd cc

pub itself : (label : List ℕ) → bytes_eq label label ≡ true
itself label = (bytes_eq-Decides label label).1 refl

tells_itself : (label : List ℕ) (n : ℕ) → (bytes_eq label label && nat_le n n) ≡ true
tells_itself label n = let low : nat_le n n ≡ true = grind (arith, nat_tests) in rw (itself label, low) refl

-- a label that is known once this one is: this one, or one known before
known_or_same : (labels : List (List ℕ)) (label other : List ℕ) → knows_label (label ∷ labels) other ≡ true → (label ≡ other) ⊎ (knows_label labels other ≡ true)
known_or_same labels label other known =
    elim (cases_Bool (bytes_eq label other)) [
      | inl same ↦ inl ((bytes_eq-Decides label other).0 same)
      | inr else ↦ inr (rw else at known)
    ]

module _ {D : Type 0} (z : SharedState D) (old new : SeatState) (label : List ℕ) (client : Client) where
  abbrev it : Participant
  it = old.knows.participant

  same_own : (events : List Event) → Continues z old new (with_events events it) → new.knows.participant.own ≡ it.own ++ []
  same_own events goes = ap (λ (p : Participant). p.own) goes.participant ∙ sym (append-nil it.own)

  told_beside : (n : ℕ) → Tells z old label (Ok n) new → Answers z old new client client (command.Tell label) (reply.Told n)
  told_beside n (is, goes, were, was) = record {
    stays = in_place _ z old new _ goes refl;
    own = same_own (told label n ∷ []) goes;
    within = λ k there. absurd there;
    events = told label n ∷ [];
    past = ap (λ (p : Participant). p.past) goes.participant;
    explained = of_one (IsExplained it.client client.txn (command.Tell label) (Some (reply.Told n))) (told label n) (tells_itself label n);
    log_failed = refl;
    log_stopped = refl;
    tables_failed = refl;
    once = omega arith;
    remembered = tt;
    number = 0;
    after = refl;
    progress = λ first is_first before k. progress_still first old new client.txn client.txn (told label n ∷ []) before _ (ap (λ (p : Participant). p.past) goes.participant) (λ due. refl) k (omega (arith, is)) refl refl
        (λ other known. ⊎_elim (λ (same : label ≡ other). inr (n, inl (inl (ap (λ (l : List ℕ). told l n) same)))) (λ (k : knows_label before.labels other ≡ true). inl k) (known_or_same before.labels label other known))
        (noted_still z old new _ goes client.txn (command.Tell label) (reply.Told n) (λ before. refl) (let more = shorter new.knows.participant.seen it.seen goes.seen in omega (arith, is, more)) before k.last k.keys);
    allowed = λ first is_first before k e agrees. let low = last_still first old client.txn new.knows.participant before goes.seen k in let high = shorter e.history new.knows.participant.seen agrees.seen in (omega (arith, is, low), omega (arith, is, high));
  }

  heard_beside : (n : ℕ) → Hears z old label (Ok n) new → Answers z old new client client (command.Hear label) (reply.Heard n)
  heard_beside n (is, (m, low_m, goes, were, was)) = record {
    stays = in_place _ z old new _ goes refl;
    own = same_own (heard label m ∷ []) goes;
    within = λ k there. absurd there;
    events = heard label m ∷ [];
    past = ap (λ (p : Participant). p.past) goes.participant;
    explained = of_one (IsExplained it.client client.txn (command.Hear label) (Some (reply.Heard n))) (heard label m) tt;
    log_failed = refl;
    log_stopped = refl;
    tables_failed = refl;
    once = omega arith;
    remembered = tt;
    number = 0;
    after = refl;
    progress = λ first is_first before k. progress_still first old new client.txn client.txn (heard label m ∷ []) before _ (ap (λ (p : Participant). p.past) goes.participant) (λ due. refl) k (omega (arith, is)) refl refl
        (λ other known. ⊎_elim (λ (same : label ≡ other). inr (m, inr (inl (ap (λ (l : List ℕ). heard l m) same)))) (λ (k : knows_label before.labels other ≡ true). inl k) (known_or_same before.labels label other known))
        (noted_still z old new _ goes client.txn (command.Hear label) (reply.Heard n) (λ before. refl) (let more = shorter new.knows.participant.seen it.seen goes.seen in omega (arith, is, more)) before k.last k.keys);
    allowed = λ first is_first before k e agrees. let low = last_still first old client.txn new.knows.participant before goes.seen k in let high = shorter e.history new.knows.participant.seen agrees.seen in
        ((omega (arith, is, low), omega (arith, is, high)), agrees.past (heard label m) (subst (IsIn (heard label m)) (sym (ap (λ (p : Participant). p.past) goes.participant)) (in_last (heard label m) it.past)) n low_m);
  }

  pub told_answers : (n : ℕ) → Tells z old label (Ok n) new → IsAnswered z old new client client (command.Tell label) (reply.Told n)
  told_answers n k = (told_beside n k, λ world stands only first is_first store so locks. told_alone z first old new only store so (world, stands) client label n k)

  pub heard_answers : (n : ℕ) → Hears z old label (Ok n) new → IsAnswered z old new client client (command.Hear label) (reply.Heard n)
  heard_answers n k = (heard_beside n k, λ world stands only first is_first store so locks. heard_alone z first old new only store so (world, stands) client label n k)

  -- nobody told the label, nor did this client hear it
  silent_answers : IsSilent z old label → Keeps z old new → Answers z old new client client (command.Hear label) (reply.Silent label)
  silent_answers silent goes = record {
    stays = in_place _ z old new _ goes refl;
    own = ap (λ (p : Participant). p.own) goes.participant ∙ sym (append-nil it.own);
    within = λ k there. absurd there;
    events = [];
    past = ap (λ (p : Participant). p.past) goes.participant ∙ sym (append-nil it.past);
    explained = λ event there. absurd there;
    log_failed = refl;
    log_stopped = refl;
    tables_failed = refl;
    once = omega arith;
    remembered = tt;
    number = 0;
    after = refl;
    progress = λ first is_first before k. progress_still first old new client.txn client.txn [] before _ (ap (λ (p : Participant). p.past) goes.participant ∙ sym (append-nil it.past)) (λ due. refl) k (last_still first old client.txn new.knows.participant before goes.seen k) refl refl (λ other known. inl known)
        (noted_still z old new _ goes client.txn (command.Hear label) (reply.Silent label) (λ before. refl) tt before k.last k.keys);
    allowed = λ first is_first before k e agrees. (
      refl,
      elim (cases_Bool (knows_label before.labels label)) [
        | inl known ↦ let l = k.labels label known in absurd (⊎_elim (λ (t : IsIn (told label l.0) it.past). silent.not_told l.0 t) (λ (t : IsIn (heard label l.0) it.past). silent.not_heard l.0 t) l.1)
        | inr none ↦ none
      ],
    );
  }

  pub not_heard_answers : (why : TxnError) → Hears z old label (Err why) new → IsAnswered z old new client client (command.Hear label) (reply.Silent label)
  not_heard_answers Silent k = (silent_answers k.0 k.1, λ world stands only first is_first store so locks. silent_alone z first old new only store so (world, stands) client label k)
  not_heard_answers _ c = absurd c

  -- nothing but want of memory refuses to tell
  told_else : (why : TxnError) → Tells z old label (Err why) new → why ≡ Memory
  told_else Memory goes = refl
  told_else _ c = absurd c

  module _ (why : TxnError) (k : Tells z old label (Err why) new) where
    pub not_told_named : why ≢ Silent
    not_told_named is = subst (λ (w : TxnError). Tells z old label (Err w) new) is k

    pub not_told_answers : (r : Reply) → refusal why ≡ Some r → IsAnswered z old new client client (command.Tell label) r
    not_told_answers r is = let none : refusal why ≡ None = ap refusal (told_else why k) in absurd (none_some r (sym none ∙ is))

    pub not_told_names : (r : Reply) → refusal why ≡ Some r → NamesSeen z old new (command.Tell label) r
    not_told_names r is = let none : refusal why ≡ None = ap refusal (told_else why k) in absurd (none_some r (sym none ∙ is))

    pub not_told_breaks : BreaksOff old new client (command.Tell label)
    not_told_breaks = broke_off z old new client (command.Tell label) (subst (λ (w : TxnError). Tells z old label (Err w) new) (told_else why k) k)

-- what the client has, after either call
module _ {D : Type 0} (z : SharedState D) (old new : SeatState) (label : List ℕ) (h : HoldingsState) (has : Holds z old h) where
  pub told_holds : (answer : Result ℕ TxnError) → Tells z old label answer new → Holds z new h
  told_holds (Ok n) (is, goes, were, was) = holds_still z old new _ refl refl refl goes (past_more _ _) h has
  told_holds (Err Memory) goes = keeps_holds z old new goes h has
  told_holds _ c = absurd c

  pub heard_holds : (answer : Result ℕ TxnError) → Hears z old label answer new → Holds z new h
  heard_holds (Ok n) (is, (m, low, goes, were, was)) = holds_still z old new _ refl refl refl goes (past_more _ _) h has
  heard_holds (Err Silent) (silent, goes) = keeps_holds z old new goes h has
  heard_holds _ c = absurd c
