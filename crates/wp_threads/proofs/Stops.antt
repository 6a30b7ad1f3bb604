-- The commands that ran, and those among them that stopped the log.
use Rattle.std.proofs.Common.{◌≡◌, inl, inr, ℕ, ◌+◌, Bool, true, true≢false, List, [], ◌∷◌, ◌++◌, map, refl, sym, ap, ◌∙◌}
use Rattle.std.specs.Prelude.{count_by}
use Rattle.std.specs.List.{list_any}
use Rattle.std.proofs.lemmas.Bool.{or_cases, or_left, or_right}
use Rattle.std.proofs.lemmas.List.Folds.{list_any-append}
use Rattle.wp_text.specs.declared.script.Command.{Command}
use Rattle.wp_text.specs.declared.script.Part.{Part}
use Rattle.wp_text.specs.declared.reply.Reply.{Reply}
use Rattle.wp_core.specs.Lists.{one_if, total}
use Rattle.wp_core.specs.Sound.Pasts.{closes_log, past_of}
use Rattle.wp_core.specs.Views.{Event}
use Rattle.wp_shared.specs.Seats.{participant_of, SharedState, SeatState}
use Rattle.wp_replies.specs.Explains.{dialogue, dialogues, all_exchanges}
use Rattle.wp_replies.specs.Known.{StoredState, exchanges, is_stop, has_stop}
use Rattle.wp_threads.specs.Over.{Answered, AreOver, replies_of}
use Rattle.wp_threads.proofs.Lists.{count_append}

abbrev pub firsts : {D : Type 0} (z : SharedState D) (found : StoredState) (parts : List Part) (answered : List Answered) (seats : List SeatState) → AreOver z found parts answered seats → List Part
firsts z found (p ∷ parts) (a ∷ answered) (s ∷ seats) over = record { client = p.client; commands = over.0.done } ∷ firsts z found parts answered seats over.1
firsts z found _ _ _ over = []

-- what is among the first commands with their replies is among all
exchanged_wider : (p : Command × Reply → Bool) (done rest : List Command) (answers : List Reply) → list_any p (exchanges done answers) ≡ true → list_any p (exchanges (done ++ rest) answers) ≡ true
exchanged_wider p [] rest answers is = absurd (true≢false (sym is))
exchanged_wider p (d ∷ done) rest [] is = absurd (true≢false (sym is))
exchanged_wider p (d ∷ done) rest (a ∷ answers) is = elim (or_cases (p (d, a)) (list_any p (exchanges done answers)) is) [
  | inl here ↦ or_left (p (d, a)) (list_any p (exchanges (done ++ rest) answers)) here
  | inr later ↦ or_right (p (d, a)) (list_any p (exchanges (done ++ rest) answers)) (exchanged_wider p done rest answers later)
]

module _ {D : Type 0} (z : SharedState D) (found : StoredState) where
  -- as many of them as the pasts have events that close it
  pub stops_weighed : (parts : List Part) (answered : List Answered) (seats : List SeatState) (over : AreOver z found parts answered seats)
      → count_by is_stop (all_exchanges (firsts z found parts answered seats over) (replies_of answered)) ≡ total (total (λ e. one_if (closes_log e))) (map past_of (map participant_of seats))
  stops_weighed [] [] [] over = refl
  stops_weighed (p ∷ parts) (a ∷ answered) (s ∷ seats) over =
      let others = all_exchanges (firsts z found parts answered seats over.1) (replies_of answered) in
      count_append is_stop (exchanges over.0.done a.replies) others
      ∙ (ap (λ (n : ℕ). n + count_by is_stop others) over.0.log_stopped
      ∙ ap (λ (n : ℕ). total (λ (e : Event). one_if (closes_log e)) s.knows.participant.past + n) (stops_weighed parts answered seats over.1))
  stops_weighed _ _ _ over = absurd over

  -- where there is one, a dialogue has it
  pub stop_said : (parts : List Part) (answered : List Answered) (seats : List SeatState) (over : AreOver z found parts answered seats)
      → list_any is_stop (all_exchanges (firsts z found parts answered seats over) (replies_of answered)) ≡ true → list_any has_stop (dialogues parts (replies_of answered)) ≡ true
  stop_said [] [] [] over is = absurd (true≢false (sym is))
  stop_said (p ∷ parts) (a ∷ answered) (s ∷ seats) over is =
      let others = all_exchanges (firsts z found parts answered seats over.1) (replies_of answered) in
      let mine = has_stop (dialogue p a.replies) in let theirs = list_any has_stop (dialogues parts (replies_of answered)) in
      elim (or_cases (list_any is_stop (exchanges over.0.done a.replies)) (list_any is_stop others) (sym (list_any-append is_stop (exchanges over.0.done a.replies) others) ∙ is)) [
        | inl here ↦ or_left mine theirs (ap (λ (cs : List Command). list_any is_stop (exchanges cs a.replies)) over.0.commands ∙ exchanged_wider is_stop over.0.done over.0.rest a.replies here)
        | inr later ↦ or_right mine theirs (stop_said parts answered seats over.1 later)
      ]
  stop_said _ _ _ over is = absurd over
