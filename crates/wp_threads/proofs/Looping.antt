-- A session goes on from one command to the next.
use Rattle.std.proofs.Common.{◌≡◌, ℕ, suc, ◌+◌, ◌<◌, ◌≤◌, Bool, true, false, true≢false, List, [], ◌∷◌, ◌++◌, length, length-append, take, drop, drop-cons, get_or, refl, sym, subst, ap, ◌∙◌, arith}
use Rattle.std.proofs.lemmas.List.{take_more, take-append-drop, take_all}
use mathlib.Core.List.{append-nil}
use Rattle.wp_text.specs.declared.script.Command.{Command}
use Rattle.wp_text.specs.declared.reply.Reply.{Reply}
use Rattle.wp_text.specs.Answered.{Answered}
use Rattle.wp_shared.specs.Seats.{SharedState, SeatState}
use Rattle.wp_replies.specs.Known.{StoredState}
use Rattle.wp_client.specs.Answers.{Stays}
use Rattle.wp_client.specs.Holdings.{HoldingsState, client_of, Holds}
use Rattle.wp_threads.specs.Came.{TakesNext, HasComeTo}
use Rattle.wp_threads.specs.SoFar.{IsFound, IsSessionSoFar}
use Rattle.wp_threads.proofs.Leaving.{ends_here}
use Rattle.wp_threads.proofs.Onward.{goes_more}

-- as far as its commands are answered, for whatever the store was opened to
abbrev pub GoesOn : {D : Type 0} → SharedState D → List Command → List Reply → SeatState → HoldingsState → SeatState → HoldingsState → Type 0
GoesOn z done answers first had s h = (found : StoredState) (name : List ℕ) → IsFound z found → IsSessionSoFar z found name [] [] first had → IsSessionSoFar z found name done answers s h

module _ {D : Type 0} (z : SharedState D) (commands : List Command) (i : ℕ) (c : Command) (before after : List Reply) (first : SeatState) (had : HoldingsState) (s t : SeatState) (h k : HoldingsState) (lt : i < length commands) (at : c ≡ get_or commands i c) (goes : GoesOn z (take i commands) before first had s h) where
  pub stays_next : (went : Bool) → TakesNext z s t h k c before after went → Stays s t
  stays_next true next = next.2.stays
  stays_next false next = (next.1 []).stays

  pub goes_next : TakesNext z s t h k c before after true → Holds z t k → GoesOn z (take (i + 1) commands) after first had t k
  goes_next next holds found name is_found begun =
      let cut : take (i + 1) commands ≡ take i commands ++ c ∷ [] = take_more commands i c lt ∙ ap (λ (x : Command). take i commands ++ x ∷ []) (sym at) in
      subst (λ (x : List Command × List Reply). IsSessionSoFar z found name x.0 x.1 t k) (λ j. (sym cut j, sym next.1 j))
      (goes_more z found is_found name (take i commands) before c next.0 s t h k (goes found name is_found begun) next.2 holds (λ only store is locks. next.3 only found.edit is_found.edit store is locks))

  pub count_next : length before ≡ i → TakesNext z s t h k c before after true → length after ≡ i + 1
  count_next same next = let all : length after ≡ length (before ++ next.0 ∷ []) = ap (λ (rs : List Reply). length rs) next.1 in let more = length-append before (next.0 ∷ []) in omega (arith, same, all, more)

  -- memory was wanting for the command
  pub came_broken : (answered : Answered) → answered ≡ record { replies = after; whole = false } → TakesNext z s t h k c before after false → Holds z t k → (found : StoredState) (name : List ℕ) → IsFound z found → IsSessionSoFar z found name [] [] first had → HasComeTo z found name commands answered t k
  came_broken answered is next holds found name is_found begun =
      let cut : drop i commands ≡ c ∷ drop (suc i) commands = drop-cons commands i c lt ∙ ap (λ (x : Command). x ∷ drop (suc i) commands) (sym at) in
      subst (λ (a : Answered). HasComeTo z found name commands a t k) (sym is) (record {
        done = take i commands;
        rest = c ∷ drop (suc i) commands;
        commands = sym (take-append-drop i commands) ∙ ap (λ (cs : List Command). take i commands ++ cs) cut;
        all = λ all. absurd (true≢false (sym all));
        last = s;
        had = h;
        goes = subst (λ (rs : List Reply). IsSessionSoFar z found name (take i commands) rs s h) (sym next.0) (goes found name is_found begun);
        ends = next.1 (drop (suc i) commands);
        holds = holds;
      })

pub came_whole : {D : Type 0} (z : SharedState D) (commands : List Command) (i : ℕ) (answers : List Reply) (first : SeatState) (had : HoldingsState) (s : SeatState) (h : HoldingsState) (answered : Answered) → answered ≡ record { replies = answers; whole = true } → length commands ≤ i → GoesOn z (take i commands) answers first had s h → Holds z s h
    → (found : StoredState) (name : List ℕ) → IsFound z found → IsSessionSoFar z found name [] [] first had → HasComeTo z found name commands answered s h
came_whole z commands i answers first had s h answered is le goes holds found name is_found begun = subst (λ (a : Answered). HasComeTo z found name commands a s h) (sym is) (record {
  done = commands;
  rest = [];
  commands = sym (append-nil commands);
  all = λ all. refl;
  last = s;
  had = h;
  goes = subst (λ (cs : List Command). IsSessionSoFar z found name cs answers s h) (take_all i commands le) (goes found name is_found begun);
  ends = ends_here s (client_of h).txn [];
  holds = holds;
})
