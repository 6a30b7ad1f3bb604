-- The replies of all clients, counted over the seats.
use Rattle.std.proofs.Common.{◌≡◌, ◌⊎◌, inl, inr, ℕ, zero, suc, ◌+◌, ◌≤◌, Bool, true, List, [], ◌∷◌, ◌++◌, map, refl, sym, subst, ap, ◌∙◌, arith}
use Rattle.std.specs.Prelude.{◌==◌, ◌||◌, count_by}
use Rattle.std.specs.List.{flat_map, list_any}
use Rattle.std.proofs.lemmas.Bool.{or_cases, eqb-true}
use Rattle.std.proofs.lemmas.List.Concat.{flat_map-cons, flat_map-append}
use Rattle.std.proofs.lemmas.List.Folds.{list_any-append}
use mathlib.Core.Option.{some}
use lib.ListN.{get_elem?}
use Rattle.wp_text.specs.declared.script.Part.{Part}
use Rattle.wp_text.specs.declared.reply.Reply.{Reply}
use Rattle.wp_core.specs.Lists.{one_if, total}
use Rattle.wp_core.specs.Sound.Actors.{times, own_of}
use Rattle.wp_core.specs.Sound.Pasts.{past_of}
use Rattle.wp_core.specs.Views.{Event}
use Rattle.wp_shared.specs.Seats.{SharedState, SeatState, participant_of}
use Rattle.wp_replies.specs.Explains.{dialogue, dialogues, all_replies}
use Rattle.wp_replies.specs.Kind.{acknowledged}
use Rattle.wp_replies.specs.Known.{StoredState, Dialogue, answers_in}
use Rattle.wp_client.specs.Answers.{IsRemembered}
use Rattle.wp_threads.specs.Over.{Answered, IsOver, AreOver, replies_of}
use Rattle.wp_threads.proofs.Lists.{count_append, count_times, any_in, counted_in}

pub none_or_some : (n : ℕ) → (n ≡ 0) ⊎ (1 ≤ n)
none_or_some zero = inl refl
none_or_some (suc n) = inr (omega arith)

one_more : (answers : List Reply) (others : List (List Reply)) → all_replies (answers ∷ others) ≡ answers ++ all_replies others
one_more answers others = flat_map-cons (λ (xs : List Reply). xs) answers others

module _ {D : Type 0} (z : SharedState D) (found : StoredState) where
  -- all replies are those of the dialogues
  pub same_replies : (parts : List Part) (answered : List Answered) (seats : List SeatState) → AreOver z found parts answered seats → answers_in (dialogues parts (replies_of answered)) ≡ all_replies (replies_of answered)
  same_replies [] [] [] over = refl
  same_replies (p ∷ parts) (a ∷ answered) (s ∷ seats) over =
      flat_map-cons (λ (d : Dialogue). d.answers) (dialogue p a.replies) (dialogues parts (replies_of answered)) ∙ ap (λ (xs : List Reply). a.replies ++ xs) (same_replies parts answered seats over.1) ∙ sym (one_more a.replies (replies_of answered))
  same_replies _ _ _ over = absurd over

  -- as many replies of a kind as there are such events in the pasts
  pub weighed : (is_such : Reply → Bool) (test : Event → Bool) → ((part : Part) (a : Answered) (s : SeatState) → IsOver z found part a s → count_by is_such a.replies ≡ total (λ e. one_if (test e)) s.knows.participant.past)
      → (parts : List Part) (answered : List Answered) (seats : List SeatState) → AreOver z found parts answered seats → count_by is_such (all_replies (replies_of answered)) ≡ total (total (λ e. one_if (test e))) (map past_of (map participant_of seats))
  weighed is_such test each [] [] [] over = refl
  weighed is_such test each (p ∷ parts) (a ∷ answered) (s ∷ seats) over =
      ap (count_by is_such) (one_more a.replies (replies_of answered)) ∙ (count_append is_such a.replies (all_replies (replies_of answered))
      ∙ (ap (λ (n : ℕ). n + count_by is_such (all_replies (replies_of answered))) (each p a s over.0)
      ∙ ap (λ (n : ℕ). total (λ e. one_if (test e)) s.knows.participant.past + n) (weighed is_such test each parts answered seats over.1)))
  weighed is_such test each _ _ _ over = absurd over

  -- each number as often as the seats published it
  pub acknowledged_as_owned : (n : ℕ) (parts : List Part) (answered : List Answered) (seats : List SeatState) → AreOver z found parts answered seats
      → count_by (λ m. m == n) (flat_map acknowledged (all_replies (replies_of answered))) ≡ total (times n) (map own_of (map participant_of seats))
  acknowledged_as_owned n [] [] [] over = refl
  acknowledged_as_owned n (p ∷ parts) (a ∷ answered) (s ∷ seats) over =
      let mine : count_by (λ m. m == n) (flat_map acknowledged a.replies) ≡ times n s.knows.participant.own = count_times n (flat_map acknowledged a.replies) ∙ ap (times n) (sym over.0.own) in
      ap (λ (xs : List Reply). count_by (λ m. m == n) (flat_map acknowledged xs)) (one_more a.replies (replies_of answered))
      ∙ (ap (count_by (λ m. m == n)) (flat_map-append acknowledged a.replies (all_replies (replies_of answered)))
      ∙ (count_append (λ m. m == n) (flat_map acknowledged a.replies) (flat_map acknowledged (all_replies (replies_of answered)))
      ∙ (ap (λ (k : ℕ). k + count_by (λ m. m == n) (flat_map acknowledged (all_replies (replies_of answered)))) mine
      ∙ ap (λ (k : ℕ). times n s.knows.participant.own + k) (acknowledged_as_owned n parts answered seats over.1))))
  acknowledged_as_owned n _ _ _ over = absurd over

  -- what a seat published is within the limit
  pub published_within : (n : ℕ) (parts : List Part) (answered : List Answered) (seats : List SeatState) → AreOver z found parts answered seats → 1 ≤ total (times n) (map own_of (map participant_of seats)) → n ≤ z.limit
  published_within n [] [] [] over some_there = absurd (omega (arith, some_there))
  published_within n (p ∷ parts) (a ∷ answered) (s ∷ seats) over some_there =
      let whole : total (times n) (map own_of (map participant_of (s ∷ seats))) ≡ times n s.knows.participant.own + total (times n) (map own_of (map participant_of seats)) = refl in
      elim (none_or_some (times n s.knows.participant.own)) [
        | inl none ↦ published_within n parts answered seats over.1 (omega (arith, some_there, whole, none))
        | inr mine ↦ let k = counted_in (λ m. m == n) s.knows.participant.own mine in subst (λ (m : ℕ). m ≤ z.limit) (eqb-true k.0 n k.2) (over.0.within k.0 k.1)
      ]
  published_within n _ _ _ over some_there = absurd over

  -- a reply of a kind, with the past that remembers what it speaks of
  pub record Remembers (seats : List SeatState) (p : Reply → Bool) : Type 0 where
    pub place : ℕ
    pub past : List Event
    pub answer : Reply
    pub there : get_elem? (map past_of (map participant_of seats)) place ≡ some past
    pub is : p answer ≡ true
    pub remembered : IsRemembered past answer

  pub remembers : (p : Reply → Bool) (parts : List Part) (answered : List Answered) (seats : List SeatState) → AreOver z found parts answered seats → list_any p (all_replies (replies_of answered)) ≡ true → Remembers seats p
  remembers p [] [] [] over is = absurd cc
  remembers p (part ∷ parts) (a ∷ answered) (s ∷ seats) over is =
      let whole : list_any p (all_replies (replies_of (a ∷ answered))) ≡ (list_any p a.replies || list_any p (all_replies (replies_of answered))) = ap (list_any p) (one_more a.replies (replies_of answered)) ∙ list_any-append p a.replies (all_replies (replies_of answered)) in
      elim (or_cases (list_any p a.replies) (list_any p (all_replies (replies_of answered))) (sym whole ∙ is)) [
        | inl here ↦ let k = any_in p a.replies here in record { place = 0; past = s.knows.participant.past; answer = k.0; there = refl; is = k.2; remembered = over.0.remembered k.0 k.1 }
        | inr later ↦ let k = remembers p parts answered seats over.1 later in record { place = suc k.place; past = k.past; answer = k.answer; there = k.there; is = k.is; remembered = k.remembered }
      ]
  remembers p _ _ _ over is = absurd over
