-- How a reply is put together, by what it acknowledges and what the seat remembers of its command.
use Rattle.std.proofs.Common.{◌≡◌, ◌⊎◌, inl, inr, refl, ℕ, ◌+◌, ◌≤◌, true, List, [], ◌++◌, length, Some, sym, subst, ap, ◌∙◌, fold}
use mathlib.Core.List.{append-nil}
use Rattle.wp_model.specs.Flushed.{InstalledEdit}
use Rattle.wp_text.specs.declared.script.Command.{Command}
use Rattle.wp_text.specs.declared.reply.Reply.{Reply}
use Rattle.wp_text.specs.declared.reply.Reply.TheVariants as reply
use Rattle.wp_core.specs.Lists.{IsIn, one_if}
use Rattle.wp_core.specs.Sound.Pasts.{due_after}
use Rattle.wp_core.specs.Views.{Event, Fact}
use Rattle.wp_core.specs.World.{Participant}
use Rattle.wp_rule.specs.Shows.{WasLast}
use Rattle.wp_parts.specs.Parts.{content}
use Rattle.wp_shared.specs.Calls.{ContinuesWith}
use Rattle.wp_shared.specs.Seats.{SharedState, SeatState}
use Rattle.wp_replies.specs.Txn.{Txn}
use Rattle.wp_replies.specs.Client.{Client}
use Rattle.wp_replies.specs.After.{after_reply}
use Rattle.wp_replies.specs.Kind.{acknowledged, is_fault, is_tables_fault, is_renewal, stops_log, last_after, tables_after, base_after}
use Rattle.wp_replies.specs.Progress.{Progress, heard_after, knows_label}
use Rattle.wp_replies.specs.Replies.{Evidence, Allows}
use Rattle.wp_client.specs.Agrees.{Agrees}
use Rattle.wp_client.specs.Alone.{log_faults, device_faults, tables_faults}
use Rattle.wp_client.specs.Answers.{HasBase, IsProgress, IsExplained, findings, IsRemembered, Answers}
use Rattle.wp_client.proofs.Staying.{in_place}
use Rattle.wp_client.proofs.Growing.{progress_by, last_still}
use Rattle.wp_client.proofs.Noting.{KeepsNoted}

-- The reply acknowledges these numbers, and the client, in this state of its transaction, came to these events by it. It says of
-- tables what they do, and nothing of labels.
pub record Fits (c : Command) (r : Reply) (numbers : List ℕ) (events : List Event) (client : List ℕ) (txn : Txn) : Type 0 where
  pub acknowledges : acknowledged r ≡ numbers
  pub tables : (before : ℕ) → tables_after before r ≡ fold due_after before events
  pub labels : (before : List (List ℕ)) → heard_after before c r ≡ before
  pub log_failed : device_faults events ≡ one_if (is_fault r)
  pub log_stopped : log_faults events ≡ one_if (stops_log c r)
  pub tables_failed : tables_faults events ≡ one_if (is_tables_fault r)
  pub once : findings events ≤ 1 + one_if (is_renewal c)
  pub remembered : IsRemembered events r
  pub explained : (event : Event) → IsIn event events → IsExplained client txn c (Some r) event

-- the base that the client knows of then is the one before, or among these events
pub base_noted : (before : ℕ) (r : Reply) (events : List Event) → IsRemembered events r → (base_after before r ≡ before) ⊎ HasBase events (base_after before r)
base_noted before (reply.Renewed n carried) events (edit, based, same, there) = inr (edit, based, there)
base_noted before other events k = inl refl

-- ---- replies

module _ {D : Type 0} (z : SharedState D) (old new : SeatState) where
  abbrev it : Participant
  it = old.knows.participant

  -- The seat published nothing, and remembers these events.
  pub else_answers : (Kept : Fact → Type 0) (after : Participant) (events : List Event) (was now : Client) (c : Command) (r : Reply) (number : ℕ) → ContinuesWith Kept z old new after → after.client ≡ it.client → after.own ≡ it.own → after.past ≡ it.past ++ events
      → Fits c r [] events it.client was.txn → now ≡ after_reply number was c r → KeepsNoted old new was.txn now.txn c r
      → ((before : ℕ) → before ≤ length new.knows.participant.seen → last_after before c r ≤ length new.knows.participant.seen)
      → ((first : InstalledEdit) → WasLast content z.first first → (before : Progress) → IsProgress first old was.txn before → (e : Evidence) → Agrees e z new.knows.participant → Allows e before was number c r)
      → Answers z old new was now c r
  else_answers Kept after events was now c r number goes client own past k is noted low allowed = let grown : new.knows.participant.past ≡ it.past ++ events = ap (λ (p : Participant). p.past) goes.participant ∙ past in record {
    stays = in_place Kept z old new after goes client;
    own = ap (λ (p : Participant). p.own) goes.participant ∙ (own ∙ (sym (append-nil it.own) ∙ ap (λ (ns : List ℕ). it.own ++ ns) (sym k.acknowledges)));
    within = λ n there. absurd (subst (IsIn n) k.acknowledges there);
    events = events;
    past = grown;
    explained = k.explained;
    log_failed = k.log_failed;
    log_stopped = k.log_stopped;
    tables_failed = k.tables_failed;
    once = k.once;
    remembered = k.remembered;
    number = number;
    after = is;
    progress = λ first is_first before p. progress_by first old new was.txn now.txn events before _ grown p (low before.last (last_still first old was.txn new.knows.participant before goes.seen p)) (k.tables before.tables) (base_noted before.base r events k.remembered)
        (λ label known. inl (subst (λ (labels : List (List ℕ)). knows_label labels label ≡ true) (k.labels before.labels) known))
        (noted before p.last p.keys);
    allowed = allowed;
  }
