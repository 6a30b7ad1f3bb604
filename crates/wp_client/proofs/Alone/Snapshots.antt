-- What a client is answered that is alone and takes a snapshot, or releases one.
use Rattle.std.proofs.Common.{◌≡◌, ◌⊎◌, ⊎_elim, inl, inr, ℕ, Bool, true, false, nat_le, List, [], ◌∷◌, ◌++◌, length, refl, sym, subst, ap, ◌∙◌, append-nil, Option, Some, None, is_some}
use Rattle.std.specs.Prelude.{unwrap_or, if◌then◌else◌}
use Rattle.wp_model.specs.declared.entry.Entry.{Entry}
use Rattle.wp_model.specs.Flushed.{InstalledEdit}
use Rattle.wp_text.specs.declared.script.Command.TheVariants as command
use Rattle.wp_text.specs.declared.reply.Reply.{Reply}
use Rattle.wp_text.specs.declared.reply.Reply.TheVariants as reply
use Rattle.wp_core.specs.Reading.{Registration}
use Rattle.wp_core.specs.World.{World}
use Rattle.wp_model.proofs.Tests.{same_some}
use Rattle.wp_shared.specs.Calls.{Continues}
use Rattle.wp_shared.specs.Seats.{SharedState, SeatState, Stands}
use Rattle.wp_replies.specs.declared.client.TheConstants.{MOST_SNAPSHOTS}
use Rattle.wp_replies.specs.declared.client.LabelledSnapshot.{LabelledSnapshot}
use Rattle.wp_replies.specs.Txn.{Txn}
use Rattle.wp_replies.specs.Client.{Client, number_of, without_label}
use Rattle.wp_replies.specs.Due.{Store}
use Rattle.wp_replies.specs.Plan.{free_reply}
use Rattle.wp_replies.specs.Replies.{refuses_label}
use Rattle.wp_client.specs.Alone.{IsOnly, IsStoreOf, AnswersAlone}
use Rattle.wp_client.proofs.Alone.Kept.{goes_still}
use Rattle.wp_client.proofs.Alone.Seated.{none_quiet, follows_on, seen_still}
use Rattle.wp_client.proofs.Alone.Quiet.{at_once, quiet_answers}

-- why no snapshot is taken: the label is taken, or there are too many
refused_is : (snapshots : List LabelledSnapshot) (label : List ℕ) (r : Reply) → refuses_label snapshots label ≡ Some r → (r ≡ reply.Taken label) ⊎ (r ≡ reply.TooMany)
refused_is snapshots label r = by (is_some (number_of snapshots label)) (nat_le MOST_SNAPSHOTS (length snapshots))
  where
    by : (b c : Bool) → (if b then Some (reply.Taken label) else (if c then Some reply.TooMany else None)) ≡ Some r → (r ≡ reply.Taken label) ⊎ (r ≡ reply.TooMany)
    by true c e = inl (sym (same_some (reply.Taken label) r e))
    by false true e = inr (sym (same_some reply.TooMany r e))
    by false false e = absurd cc

module _ {D : Type 0} (z : SharedState D) (first : InstalledEdit) (old new : SeatState) (only : IsOnly old) (store : Store) (is : IsStoreOf z first old.knows.participant store) (txn : Txn) (snapshots : List LabelledSnapshot) (label : List ℕ) where
  abbrev client : Client
  client = record { txn = txn; snapshots = snapshots }

  module _ (stood : (w : World) × Stands z new w) where
    pub snapped_alone : (r : Registration) → Continues z old new (record old.knows.participant { registered = old.knows.participant.registered ++ r ∷ [] }) → r.number ≡ length new.knows.participant.seen → refuses_label snapshots label ≡ None
        → AnswersAlone z first old new client (record { txn = txn; snapshots = snapshots ++ record { label = label; number = r.number } ∷ [] }) (command.Snap label) (reply.Snapped r.number) store
    snapped_alone r goes number none =
        let f = follows_on _ z old new _ goes [] refl (sym (append-nil old.knows.participant.past)) in
        let n_is : r.number ≡ length store.history = number ∙ ap (λ (h : List Entry). length h) (seen_still z first old new only store is stood [] f) in
        quiet_answers z first old new only store is stood [] f none_quiet client (record { txn = txn; snapshots = snapshots ++ record { label = label; number = r.number } ∷ [] }) (command.Snap label) (reply.Snapped r.number)
        (record { logged = refl; fault = refl; installed = refl; tables = refl; board = λ b. refl })
        (inl (ap reply.Snapped n_is ∙ sym (ap (λ (o : Option Reply). unwrap_or o (reply.Snapped (length store.history))) none))) refl (goes_still z old new _ goes refl txn store)

    pub freed_alone : (n : ℕ) → number_of snapshots label ≡ Some n → (left : List Registration) → Continues z old new (record old.knows.participant { registered = left })
        → AnswersAlone z first old new client (record { txn = txn; snapshots = without_label snapshots label }) (command.Free label) reply.Freed store
    freed_alone n labelled left goes =
        quiet_answers z first old new only store is stood [] (follows_on _ z old new _ goes [] refl (sym (append-nil old.knows.participant.past))) none_quiet client (record { txn = txn; snapshots = without_label snapshots label }) (command.Free label) reply.Freed
        (record { logged = refl; fault = refl; installed = refl; tables = refl; board = λ b. refl })
        (inl (sym (ap (λ (o : Option ℕ). free_reply o label) labelled))) refl (goes_still z old new _ goes refl txn store)

  -- ---- refused

  pub not_snapped_alone : new ≡ old → (r : Reply) → refuses_label snapshots label ≡ Some r → AnswersAlone z first old new client client (command.Snap label) r store
  not_snapped_alone same r refused = ⊎_elim
      (λ (e : r ≡ reply.Taken label).
      subst (λ (x : Reply). AnswersAlone z first old new client client (command.Snap label) x store) (sym e)
      (at_once z first old new only store is same client client (command.Snap label) (reply.Taken label) (record { logged = refl; fault = refl; installed = refl; tables = refl; board = λ b. refl }) (inl (sym (due_is (reply.Taken label) (refused ∙ ap Some e)))) refl refl))
      (λ (e : r ≡ reply.TooMany).
      subst (λ (x : Reply). AnswersAlone z first old new client client (command.Snap label) x store) (sym e)
      (at_once z first old new only store is same client client (command.Snap label) reply.TooMany (record { logged = refl; fault = refl; installed = refl; tables = refl; board = λ b. refl }) (inl (sym (due_is reply.TooMany (refused ∙ ap Some e)))) refl refl))
      (refused_is snapshots label r refused)
    where
      due_is : (x : Reply) → refuses_label snapshots label ≡ Some x → unwrap_or (refuses_label snapshots label) (reply.Snapped (length store.history)) ≡ x
      due_is x e = ap (λ (o : Option Reply). unwrap_or o (reply.Snapped (length store.history))) e

  pub not_freed_alone : new ≡ old → number_of snapshots label ≡ None → AnswersAlone z first old new client client (command.Free label) (reply.UnknownSnapshot label) store
  not_freed_alone same none =
      at_once z first old new only store is same client client (command.Free label) (reply.UnknownSnapshot label) (record { logged = refl; fault = refl; installed = refl; tables = refl; board = λ b. refl })
      (inl (sym (ap (λ (o : Option ℕ). free_reply o label) none))) refl refl
