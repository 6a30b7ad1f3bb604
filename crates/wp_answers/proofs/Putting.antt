-- How the reply to an entry is put together, whose number it has.
use Rattle.std.proofs.Common.{◌≡◌, ℕ, suc, ◌+◌, ◌<◌, ◌≤◌, true, List, [], ◌∷◌, ◌++◌, length, take, Some, inl, sym, subst, ap, ◌∙◌, arith}
use Rattle.std.specs.Prelude.{◌-◌}
use Rattle.wp_model.specs.declared.entry.Entry.{Entry}
use Rattle.wp_model.specs.Flushed.{InstalledEdit}
use Rattle.wp_model.specs.History.{entry_at}
use Rattle.wp_model.proofs.Entries.{entry_at_old}
use Rattle.wp_history_laws.proofs.Growth.{entry_at_next, length_next}
use Rattle.wp_text.specs.declared.script.Command.{Command}
use Rattle.wp_text.specs.declared.reply.Reply.{Reply}
use Rattle.wp_core.specs.Lists.{IsIn}
use Rattle.wp_core.specs.Sound.Actors.{StartsWith}
use Rattle.wp_core.specs.Views.{Event, Fact}
use Rattle.wp_core.specs.World.{Participant}
use Rattle.wp_core.proofs.KeepsSeen.{shorter}
use Rattle.wp_shared.proofs.Limits.{limit_within}
use Rattle.wp_shared.proofs.Onward.{starts_on}
use Rattle.wp_shared.specs.Seats.{SharedState, SeatState}
use Rattle.wp_records.specs.Records.{numbers_behind}
use Rattle.wp_txn.specs.Writes.{HasPut}
use Rattle.wp_replies.specs.Client.{Client}
use Rattle.wp_replies.specs.After.{after_reply}
use Rattle.wp_replies.specs.Kind.{last_after}
use Rattle.wp_replies.specs.Progress.{Progress, knows_label}
use Rattle.wp_replies.specs.Replies.{Evidence, IsLoggedAt, Allows}
use Rattle.wp_client.specs.Answers.{IsProgress, Answers}
use Rattle.wp_client.proofs.Fitting.{Fits, base_noted}
use Rattle.wp_client.proofs.Growing.{of_one, seen_taken, progress_by}
use Rattle.wp_client.proofs.Noting.{KeepsNoted}
use Rattle.wp_client.proofs.Staying.{in_place}

-- ---- the last entry

-- the entry that ends what was seen has its length as number
pub last_entry : (h seen front : List Entry) (entry : Entry) (n : ℕ) → StartsWith h seen → seen ≡ front ++ entry ∷ [] → n ≡ length seen → entry_at h n ≡ Some entry
last_entry h seen front entry n starts ends is =
    let within : n ≤ length seen = omega (arith, is) in
    ap (λ (l : List Entry). entry_at l n) starts.1 ∙ (entry_at_old seen starts.0 n within ∙ (ap (λ (l : List Entry). entry_at l n) ends
    ∙ (ap (entry_at (front ++ entry ∷ [])) (is ∙ (ap (λ (l : List Entry). length l) ends ∙ length_next front entry)) ∙ entry_at_next front entry)))

-- it is later than all that was seen before
later_number : (front old seen : List Entry) (entry : Entry) (last n : ℕ) → StartsWith front old → last ≤ length old → seen ≡ front ++ entry ∷ [] → n ≡ length seen → last < n
later_number front old seen entry last n starts low ends is =
    let more = shorter front old starts in let size : length seen ≡ length front + 1 = ap (λ (l : List Entry). length l) ends ∙ length_next front entry in omega (arith, low, more, size, is)

-- the entries below it are the history that it was put behind
before_number : (h seen front : List Entry) (entry : Entry) (n : ℕ) → StartsWith h seen → seen ≡ front ++ entry ∷ [] → n ≡ length seen → take (n - 1) h ≡ front
before_number h seen front entry n starts ends is =
    let size : length seen ≡ length front + 1 = ap (λ (l : List Entry). length l) ends ∙ length_next front entry in let same : n - 1 ≡ length front = omega (arith, is, size) in
    ap (λ (m : ℕ). take m h) same ∙ seen_taken h front (starts_on front seen h (entry ∷ [], ends) starts)

-- its number is the one that is the seat's own now
own_number : (front seen : List Entry) (entry : Entry) (n : ℕ) → seen ≡ front ++ entry ∷ [] → n ≡ length seen → numbers_behind (length front) (entry ∷ []) ≡ n ∷ []
own_number front seen entry n ends is =
    let size : length seen ≡ length front + 1 = ap (λ (l : List Entry). length l) ends ∙ length_next front entry in
    let same : suc (length front) ≡ n = omega (arith, size, is) in ap (λ (m : ℕ). m ∷ []) same

-- what was put ends within the limit
pub last_within : {D : Type 0} (z : SharedState D) (old new : SeatState) {Kept : Fact → Type 0} {found after : Participant} {history entries : List Entry} → HasPut Kept z old new found after history entries → (n : ℕ) → n ≡ length new.knows.participant.seen → n ≤ z.limit
last_within z old new put n is =
    let size = ap (λ (l : List Entry). length l) put.seen in let within = put.within in let most = limit_within z put.found_log.world.installed.last.segment.base in omega (arith, is, size, within, most)

-- ---- the reply

module _ {D : Type 0} (z : SharedState D) (old new : SeatState) where
  abbrev it : Participant
  it = old.knows.participant

  -- The seat put one entry behind the history, and remembers these events. The reply has the entry's number.
  pub one_answers : (Kept : Fact → Type 0) (found after : Participant) (history : List Entry) (entry : Entry) (events : List Event) (was now : Client) (c : Command) (r : Reply) (n : ℕ)
      → HasPut Kept z old new found after history (entry ∷ []) → n ≡ length new.knows.participant.seen → after.client ≡ it.client → after.own ≡ it.own → after.past ≡ it.past ++ events
      → Fits c r (n ∷ []) events it.client was.txn → now ≡ after_reply 0 was c r → KeepsNoted old new was.txn now.txn c r → ((before : ℕ) → last_after before c r ≡ n)
      → ((first : InstalledEdit) (before : Progress) → IsProgress first old was.txn before → (e : Evidence) → take (n - 1) e.history ≡ history → IsLoggedAt e.history before.last n entry → Allows e before was 0 c r)
      → Answers z old new was now c r
  one_answers Kept found after history entry events was now c r n put is client own past k then noted last allowed =
      let goes = put.goes_on in let grown : new.knows.participant.past ≡ it.past ++ events = ap (λ (p : Participant). p.past) goes.participant ∙ past in record {
        stays = in_place _ z old new _ goes client;
        own = ap (λ (p : Participant). p.own) goes.participant ∙ (ap (λ (ns : List ℕ). ns ++ numbers_behind (length history) (entry ∷ [])) own
            ∙ ap (λ (ns : List ℕ). it.own ++ ns) (own_number history new.knows.participant.seen entry n put.seen is ∙ sym k.acknowledges));
        within = λ m there. of_one (λ (k : ℕ). k ≤ z.limit) n (last_within z old new put n is) m (subst (IsIn m) k.acknowledges there);
        events = events;
        past = grown;
        explained = k.explained;
        log_failed = k.log_failed;
        log_stopped = k.log_stopped;
        tables_failed = k.tables_failed;
        once = k.once;
        remembered = k.remembered;
        number = 0;
        after = then;
        progress = λ first is_first before p. progress_by first old new was.txn now.txn events before _ grown p (let m = last before.last in omega (arith, m, is)) (k.tables before.tables) (base_noted before.base r events k.remembered)
            (λ label known. inl (subst (λ (labels : List (List ℕ)). knows_label labels label ≡ true) (k.labels before.labels) known)) (noted before p.last p.keys);
        allowed = λ first is_first before p e agrees. allowed first before p e (before_number e.history new.knows.participant.seen history entry n agrees.seen put.seen is)
            (later_number history it.seen new.knows.participant.seen entry before.last n put.grown p.last put.seen is, last_entry e.history new.knows.participant.seen history entry n agrees.seen put.seen is);
      }
