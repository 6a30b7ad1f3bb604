-- A seat that holds the write turn alone with its log, as its record goes from stage to stage.
use Rattle.std.proofs.Common.{◌≡◌, ℕ, Bool, false, List, [], ◌∷◌, length, refl, sym, subst, ap, ◌∙◌, Some}
use Rattle.wp_model.specs.declared.entry.Entry.{Entry}
use Rattle.wp_core.specs.Lists.{IsIn}
use Rattle.wp_core.specs.States.{Content, writes}
use Rattle.wp_core.specs.Views.{Fact, words_stay}
use Rattle.wp_core.specs.World.{Participant, Actor}
use Rattle.wp_rule.specs.Knows.{Noted}
use Rattle.wp_parts.specs.Log.{LogState}
use Rattle.wp_shared.specs.Seats.{SharedState, SeatState}
use Rattle.wp_shared.specs.Notes.{GoesOn, KnowsWords}
use Rattle.wp_records.specs.Writing.{HoldsWrite}
use Rattle.wp_records.specs.Stages.{holding, HoldsPending}

-- ---- the words

pub words_still : (a b : Actor) (n : ℕ) → ((bound : ℕ) (words : List ℕ) → Noted a (words_stay bound words) → (later : ℕ) × Noted b (words_stay later words)) → KnowsWords a n → KnowsWords b n
words_still a b n keeps k = let l = keeps k.bound k.words k.noted in record { bound = l.0; words = k.words; noted = l.1; are_published = k.are_published }

-- where the notes of words are kept
pub words_kept : (test : Fact → Bool) (s t : SeatState) (h : List Content) (m : List ℕ) (n : ℕ) → ((bound : ℕ) (words : List ℕ) → test (words_stay bound words) ≡ false) → GoesOn test h m s t → KnowsWords s.knows n → KnowsWords t.knows n
words_kept test s t h m n other k words = words_still s.knows t.knows n (λ bound list there. (bound, k.noted (words_stay bound list) (other bound list) there)) words

pub words_of_seat : (s t : SeatState) (n : ℕ) → t.knows.notes ≡ s.knows.notes → KnowsWords s.knows n → KnowsWords t.knows n
words_of_seat s t n same words = words_still s.knows t.knows n (λ bound list there. (bound, subst (IsIn (words_stay bound list)) (sym same) there)) words

-- ---- the turn and the log

module _ {D : Type 0} (z : SharedState D) (s t : SeatState) (log left : LogState) (h : HoldsPending z s log) where
  pub holds_with : (test : Fact → Bool) → GoesOn test (writes left.state ∷ []) s.turns s t → left.first ≡ log.first → left.state.history ≡ log.state.history → KnowsWords t.knows (length log.state.history) → HoldsPending z t left
  holds_with test k first history words = record {
    turn = record {
      same_table = ap (λ (x : SeatState). x.table) k.same ∙ h.turn.same_table;
      live = ap (λ (x : SeatState). x.knows.live) k.same ∙ h.turn.live;
      held = ap (λ (x : SeatState). x.knows.held) k.same;
      turns = ap (λ (x : SeatState). x.turns) k.same ∙ h.turn.turns;
    };
    seen = ap (λ (x : SeatState). x.knows.participant.seen) k.same ∙ h.seen ∙ sym history;
    of_store = h.of_store ∙ ap Some (sym first);
    words = subst (λ (e : List Entry). KnowsWords t.knows (length e)) (sym history) words;
  }

  -- the log changed, and what is remembered of that
  pub holds_as : (after : Participant) → after.seen ≡ s.knows.participant.seen → t ≡ holding left.state (record s { knows = record s.knows { participant = after } }) → left.first ≡ log.first → left.state.history ≡ log.state.history → HoldsPending z t left
  holds_as after seen is first history = record {
    turn = record {
      same_table = ap (λ (x : SeatState). x.table) is ∙ h.turn.same_table;
      live = ap (λ (x : SeatState). x.knows.live) is ∙ h.turn.live;
      held = ap (λ (x : SeatState). x.knows.held) is;
      turns = ap (λ (x : SeatState). x.turns) is ∙ h.turn.turns;
    };
    seen = ap (λ (x : SeatState). x.knows.participant.seen) is ∙ seen ∙ h.seen ∙ sym history;
    of_store = h.of_store ∙ ap Some (sym first);
    words = subst (λ (e : List Entry). KnowsWords t.knows (length e)) (sym history) (words_of_seat s t (length log.state.history) (ap (λ (x : SeatState). x.knows.notes) is) h.words);
  }

-- the stage left the states and the turns as they were
pub still_holds : {D : Type 0} (z : SharedState D) (s t : SeatState) (log : LogState) (test : Fact → Bool) → HoldsPending z s log → GoesOn test s.knows.held s.turns s t → KnowsWords t.knows (length log.state.history) → HoldsPending z t log
still_holds z s t log test h k words = holds_with z s t log log h test (subst (λ (c : List Content). GoesOn test c s.turns s t) h.turn.held k) refl refl words

pub as_pending : {D : Type 0} (z : SharedState D) (s : SeatState) (log : LogState) → HoldsWrite z s log → HoldsPending z s log
as_pending z s log h = record { turn = h.turn; seen = h.seen; of_store = h.of_store; words = h.words }

pub as_write : {D : Type 0} (z : SharedState D) (s : SeatState) (log : LogState) → HoldsPending z s log → log.state.pending ≡ [] → HoldsWrite z s log
as_write z s log h none = record { turn = h.turn; pending = none; seen = h.seen; of_store = h.of_store; words = h.words }
