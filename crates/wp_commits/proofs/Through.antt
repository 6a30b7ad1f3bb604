-- What is done under a turn that is taken while the write turn is held, and given again.
use Rattle.std.proofs.Common.{◌≡◌, Bool, false, List, ◌∷◌, refl, sym, ap, ◌∙◌}
use Rattle.wp_core.specs.Changes.{turn_index}
use Rattle.wp_core.specs.States.{Content, turn_of}
use Rattle.wp_core.specs.Turns.{Turn}
use Rattle.wp_core.specs.Views.{Fact}
use Rattle.wp_shared.specs.Notes.{is_under, GoesOn}
use Rattle.wp_shared.specs.Seats.{SharedState, SeatState}
use Rattle.wp_shared.specs.Turns.{HoldsTurn, Taken}

-- The turn is taken with the first state, and under it the state becomes the second. What it was before is held beneath.
module _ {D : Type 0} (z : SharedState D) (s t u : SeatState) (before now : Content) (beneath : List Content) (held : s.knows.held ≡ beneath) (first : Taken z s t before) where
  pub held_taken : t.knows.held ≡ before ∷ beneath
  held_taken = first.holds.held ∙ ap (λ (h : List Content). before ∷ h) held

  -- what is beneath may be other than it was, too
  module _ (test : Fact → Bool) (under : List Content) (second : GoesOn test (now ∷ under) t.turns t u) (same : turn_of now ≡ turn_of before) where
    pub holds_still : HoldsTurn z u now under s.turns
    holds_still = record {
      same_table = ap (λ (x : SeatState). x.table) second.same ∙ first.holds.same_table;
      live = ap (λ (x : SeatState). x.knows.live) second.same ∙ first.holds.live;
      held = ap (λ (x : SeatState). x.knows.held) second.same;
      turns = ap (λ (x : SeatState). x.turns) second.same ∙ (first.holds.turns ∙ ap (λ (x : Turn). turn_index x ∷ s.turns) (sym same));
    }

    -- the turn is given, and what is no note of that turn is kept
    pub goes_through : (turn : Turn) (v : SeatState) → ((fact : Fact) → test fact ≡ false → is_under turn fact ≡ false) → GoesOn (is_under turn) under s.turns u v → GoesOn test under s.turns s v
    goes_through turn v less third = record {
      same = third.same ∙ (ap (λ (x : SeatState). record x { knows = record x.knows { held = under; notes = v.knows.notes }; turns = s.turns }) second.same
          ∙ ap (λ (x : SeatState). record x { knows = record x.knows { held = under; notes = v.knows.notes }; turns = s.turns }) first.goes.same);
      noted = λ fact other there. third.noted fact (less fact other) (second.noted fact other (first.goes.noted fact refl there));
    }
