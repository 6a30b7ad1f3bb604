-- What a client knows by its replies, as the past of its seat grows.
use Rattle.std.proofs.Common.{◌≡◌, ◌⊎◌, ⊎_elim, inl, inr, ℕ, ◌≤◌, true, List, [], ◌∷◌, ◌++◌, length, take, refl, sym, subst, ap, ◌∙◌, Some, arith, fold}
use Rattle.std.proofs.Math.Seq.{take-append_seam}
use Rattle.std.proofs.lemmas.List.{take-append-le}
use Rattle.std.proofs.lemmas.Slice.Eq.{bytes_eq-Decides}
use Rattle.wp_model.specs.declared.entry.Entry.{Entry}
use Rattle.wp_model.specs.Flushed.{InstalledEdit}
use Rattle.wp_model.specs.History.{is_undecided, name_at, named}
use Rattle.wp_model.proofs.Found.{found_named}
use Rattle.wp_core.specs.Lists.{IsIn}
use Rattle.wp_core.specs.Sound.Actors.{StartsWith}
use Rattle.wp_core.specs.Sound.Pasts.{due_after}
use Rattle.wp_core.specs.Views.{Event, told, heard, renewed}
use Rattle.wp_core.specs.World.{Participant}
use Rattle.wp_core.proofs.KeepsSeen.{shorter}
use Rattle.wp_core.proofs.PastsGrow.{in_front}
use Rattle.wp_shared.specs.Seats.{SharedState, SeatState}
use Rattle.wp_shared.proofs.Onward.{starts_on}
use Rattle.wp_replies.specs.Txn.{Txn}
use Rattle.wp_replies.specs.Progress.{Progress, knows_label}
use Rattle.wp_replies.specs.Replies.{Evidence, WasUndecided}
use Rattle.wp_client.specs.Agrees.{Agrees}
use Rattle.wp_client.specs.Answers.{HasLabel, HasBase, AreNoted, IsProgress}

pub in_back : {X : Type 0} (x : X) (xs ys : List X) → IsIn x ys → IsIn x (xs ++ ys)
in_back x [] ys k = k
in_back x (y ∷ xs) ys k = inr (in_back x xs ys k)

-- what is so of the only one
pub of_one : {X : Type 0} (P : X → Type 0) (x : X) → P x → (y : X) → IsIn y (x ∷ []) → P y
of_one P x holds y (inl same) = subst P same holds
of_one P x holds y (inr none) = absurd none

-- what is so of the only two
pub of_two : {X : Type 0} (P : X → Type 0) (x y : X) → P x → P y → (z : X) → IsIn z (x ∷ y ∷ []) → P z
of_two P x y first second z (inl same) = subst P same first
of_two P x y first second z (inr there) = of_one P y second z there

-- what is so of the only three
pub of_three : {X : Type 0} (P : X → Type 0) (x y w : X) → P x → P y → P w → (z : X) → IsIn z (x ∷ y ∷ w ∷ []) → P z
of_three P x y w first second third z (inl same) = subst P same first
of_three P x y w first second third z (inr there) = of_two P y w second third z there

-- so many entries of the history are the first ones of what was seen, where that has so many
pub taken_old : (history seen : List Entry) (n : ℕ) → StartsWith history seen → n ≤ length seen → take n history ≡ take n seen
taken_old history seen n starts low = ap (take n) starts.1 ∙ take-append-le n seen starts.0 low

-- all that was seen
pub seen_taken : (history seen : List Entry) → StartsWith history seen → take (length seen) history ≡ seen
seen_taken history seen starts = ap (take (length seen)) starts.1 ∙ take-append_seam seen starts.0

-- a prepare that is undecided in what was seen was so by then
pub was_undecided : (history seen : List Entry) (last : ℕ) (name : List ℕ) (p : ℕ) → StartsWith history seen → last ≤ length seen → named seen name ≡ Some p → WasUndecided history last name p
was_undecided history seen last name p starts low number_is =
    let there = seen_taken history seen starts in let is = found_named seen name p number_is in let high = shorter history seen starts in record {
      at = length seen;
      fresh = (low, high);
      undecided = ap (λ (h : List Entry). is_undecided h p) there ∙ is.0;
      named = ap (λ (h : List Entry). name_at h p) there ∙ (bytes_eq-Decides (name_at seen p) name).0 is.1;
    }

-- what agrees with a seat agrees with it as it was earlier
pub agrees_before : {D : Type 0} (z : SharedState D) (e : Evidence) (p q : Participant) (events : List Event) → StartsWith q.seen p.seen → q.past ≡ p.past ++ events → Agrees e z q → Agrees e z p
agrees_before z e p q events grown more a = record {
  seen = starts_on p.seen q.seen e.history grown a.seen;
  limits = a.limits;
  base = a.base;
  opened = a.opened;
  past = λ event there. a.past event (subst (IsIn event) (sym more) (in_front event p.past events there));
}

-- events that install nothing
abbrev pub InstallNothing : List Event → Type 0
InstallNothing events = (due : ℕ) → fold due_after due events ≡ due

pub due_more : (due : ℕ) (past events : List Event) → fold due_after due (past ++ events) ≡ fold due_after (fold due_after due past) events
due_more due [] events = refl
due_more due (e ∷ past) events = due_more (due_after due e) past events

pub due_still : (due : ℕ) (past events : List Event) → InstallNothing events → fold due_after due (past ++ events) ≡ fold due_after due past
due_still due past events quiet = due_more due past events ∙ quiet (fold due_after due past)

label_still : (past events : List Event) (label : List ℕ) → HasLabel past label → HasLabel (past ++ events) label
label_still past events label (n, there) =
    (n, ⊎_elim (λ (t : IsIn (told label n) past). inl (in_front (told label n) past events t)) (λ (t : IsIn (heard label n) past). inr (in_front (heard label n) past events t)) there)

base_still : (past events : List Event) (base : ℕ) → HasBase past base → HasBase (past ++ events) base
base_still past events base (edit, same, there) = (edit, same, in_front (renewed edit) past events there)

base_new : (past events : List Event) (base : ℕ) → HasBase events base → HasBase (past ++ events) base
base_new past events base (edit, same, there) = (edit, same, in_back (renewed edit) past events there)

label_new : (past events : List Event) (label : List ℕ) → HasLabel events label → HasLabel (past ++ events) label
label_new past events label (n, there) =
    (n, ⊎_elim (λ (t : IsIn (told label n) events). inl (in_back (told label n) past events t)) (λ (t : IsIn (heard label n) events). inr (in_back (heard label n) past events t)) there)

-- The client knows of the tables by what is new, of the base that it knew of, or of one that is new, and of no label that is not in the
-- past, or among what is new there.
pub progress_by : (first : InstalledEdit) (old new : SeatState) (was now : Txn) (events : List Event) (before after : Progress) → new.knows.participant.past ≡ old.knows.participant.past ++ events → IsProgress first old was before
    → after.last ≤ length new.knows.participant.seen → after.tables ≡ fold due_after before.tables events
    → (after.base ≡ before.base) ⊎ HasBase events after.base
    → ((label : List ℕ) → knows_label after.labels label ≡ true → (knows_label before.labels label ≡ true) ⊎ HasLabel events label)
    → AreNoted new now after.keys → IsProgress first new now after
progress_by first old new was now events before after more is low tables base labels keys = let p = old.knows.participant in let q = new.knows.participant in record {
  last = low;
  tables = tables ∙ (ap (λ (due : ℕ). fold due_after due events) is.tables ∙ (sym (due_more first.tables p.past events) ∙ ap (λ (past : List Event). fold due_after first.tables past) (sym more)));
  base = ⊎_elim
      (λ (same : after.base ≡ before.base). subst (λ (n : ℕ). (n ≡ first.segment.base) ⊎ HasBase q.past n) (sym same)
      (⊎_elim (λ (opened : before.base ≡ first.segment.base). inl opened) (λ (k : HasBase p.past before.base). inr (subst (λ (past : List Event). HasBase past before.base) (sym more) (base_still p.past events before.base k))) is.base))
      (λ (k : HasBase events after.base). inr (subst (λ (past : List Event). HasBase past after.base) (sym more) (base_new p.past events after.base k))) base;
  labels = λ label known. subst (λ (past : List Event). HasLabel past label) (sym more)
      (⊎_elim (λ (k : knows_label before.labels label ≡ true). label_still p.past events label (is.labels label k)) (λ (k : HasLabel events label). label_new p.past events label k) (labels label known));
  keys = keys;
}

-- ... which install nothing: it knows of as many tables as before, and of the same base
pub progress_still : (first : InstalledEdit) (old new : SeatState) (was now : Txn) (events : List Event) (before after : Progress) → new.knows.participant.past ≡ old.knows.participant.past ++ events → InstallNothing events → IsProgress first old was before
    → after.last ≤ length new.knows.participant.seen → after.tables ≡ before.tables → after.base ≡ before.base
    → ((label : List ℕ) → knows_label after.labels label ≡ true → (knows_label before.labels label ≡ true) ⊎ HasLabel events label) → AreNoted new now after.keys → IsProgress first new now after
progress_still first old new was now events before after more quiet is low tables base = progress_by first old new was now events before after more is low (tables ∙ sym (quiet before.tables)) (inl base)

-- the seat has seen as much as the client was answered
pub last_still : (first : InstalledEdit) (old : SeatState) (was : Txn) (q : Participant) (before : Progress) → StartsWith q.seen old.knows.participant.seen → IsProgress first old was before → before.last ≤ length q.seen
last_still first old was q before grown is = let more = shorter q.seen old.knows.participant.seen grown in let low = is.last in omega (arith, more, low)
