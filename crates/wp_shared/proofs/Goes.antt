-- A seat that goes on, step after step.
use Rattle.std.proofs.Common.{◌≡◌, inr, ℕ, Bool, true, false, List, [], refl, sym, subst, ap, ◌∙◌}
use Rattle.wp_core.specs.States.{Content}
use Rattle.wp_core.specs.Turns.{store_turn, locks_turn}
use Rattle.wp_core.specs.Views.{Fact, passed}
use Rattle.wp_rule.specs.Knows.{Noted}
use Rattle.wp_shared.specs.Notes.{no_fact, is_under, noting, GoesOn}
use Rattle.wp_shared.specs.Seats.{SharedState, SeatState, IsFree}

-- a seat with these states, turns and notes goes on with them
pub goes_with : (s t : SeatState) (held : List Content) (turns : List ℕ) (notes : List Fact) → t.table ≡ s.table → t.by ≡ s.by → t.turns ≡ turns → t.knows ≡ record s.knows { held = held; notes = notes }
    → t ≡ record s { knows = record s.knows { held = held; notes = t.knows.notes }; turns = turns }
goes_with s t held turns notes table by at is =
    let left : notes ≡ t.knows.notes = sym (ap (λ (x : SeatState). x.knows.notes) (λ i. record s { knows = is i })) in
    let knows : t.knows ≡ record s.knows { held = held; notes = t.knows.notes } = is ∙ ap (λ (n : List Fact). record s.knows { held = held; notes = n }) left in
    λ i. record { table = table i; by = by i; knows = knows i; turns = at i }

module _ (test : Fact → Bool) (s t u : SeatState) where
  pub stays : GoesOn test s.knows.held s.turns s s
  stays = record { same = refl; noted = λ fact other there. there }

  -- only its states changed
  pub holds : (held : List Content) → t ≡ record s { knows = record s.knows { held = held } } → GoesOn test held s.turns s t
  holds held is = record {
    same = is ∙ ap (λ (n : List Fact). record s { knows = record s.knows { held = held; notes = n } }) (sym (ap (λ (x : SeatState). x.knows.notes) is));
    noted = λ fact other there. subst (λ (x : SeatState). Noted x.knows fact) (sym is) there;
  }

  -- it noted a fact
  pub notes : (fact : Fact) → t ≡ noting fact s → GoesOn test s.knows.held s.turns s t
  notes fact is = record {
    same = is ∙ ap (λ (n : List Fact). record s { knows = record s.knows { notes = n } }) (sym (ap (λ (x : SeatState). x.knows.notes) is));
    noted = λ other not there. subst (λ (x : SeatState). Noted x.knows other) (sym is) (inr there);
  }

  pub then : (h k : List Content) (m n : List ℕ) → GoesOn test h m s t → GoesOn test k n t u → GoesOn test k n s u
  then h k m n first second = record {
    same = second.same ∙ ap (λ (x : SeatState). record x { knows = record x.knows { held = k; notes = u.knows.notes }; turns = n }) first.same;
    noted = λ fact other there. second.noted fact other (first.noted fact other there);
  }

  pub wider : (wide : Fact → Bool) (h : List Content) (m : List ℕ) → ((fact : Fact) → wide fact ≡ false → test fact ≡ false) → GoesOn test h m s t → GoesOn wide h m s t
  wider wide h m less first = record { same = first.same; noted = λ fact other there. first.noted fact (less fact other) there }

  -- with the turns that it held still
  pub then_still : (h k : List Content) (m : List ℕ) → GoesOn test h m s t → GoesOn test k t.turns t u → GoesOn test k m s u
  then_still h k m first second = then h k m m first (subst (λ (n : List ℕ). GoesOn test k n t u) (ap (λ (x : SeatState). x.turns) first.same) second)

-- where nothing passes the test, nothing passes a wider one
pub none_too : (wide : Fact → Bool) (fact : Fact) → wide fact ≡ false → no_fact fact ≡ false
none_too wide fact other = refl

pub holds_now : (test : Fact → Bool) (s t : SeatState) (h : List Content) (m : List ℕ) → GoesOn test h m s t → t.knows.held ≡ h
holds_now test s t h m k = ap (λ (x : SeatState). x.knows.held) k.same

-- a live seat that holds no turn any more is free
pub is_free : {D : Type 0} (z : SharedState D) (test : Fact → Bool) (s t : SeatState) → s.table ≡ z.table → s.knows.live ≡ true → GoesOn test [] [] s t → IsFree z.table t
is_free z test s t table live k = record {
  same_table = ap (λ (x : SeatState). x.table) k.same ∙ table;
  live = ap (λ (x : SeatState). x.knows.live) k.same ∙ live;
  turns = ap (λ (x : SeatState). x.turns) k.same;
  held = ap (λ (x : SeatState). x.knows.held) k.same;
}

-- no fact is guarded by the store turn or by the locks turn
pub none_under_store : (fact : Fact) → is_under store_turn fact ≡ false
none_under_store (passed place pair) = refl
none_under_store other = refl

pub none_under_locks : (fact : Fact) → is_under locks_turn fact ≡ false
none_under_locks (passed place pair) = refl
none_under_locks other = refl
