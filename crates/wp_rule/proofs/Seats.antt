-- Notes and seats are made, and taken in again.
use Rattle.std.proofs.Common.{◌≡◌, ℕ, true, false, List, [], ◌∷◌, ◌++◌, length, set, refl, sym, subst, ap, ◌∙◌, Option}
use mathlib.Core.Option.{some}
use lib.ListN.{get_elem?}
use Rattle.atomic_table.specs.Table.{State, Splits, Joins}
use Rattle.atomic_table.proofs.Lists.{set_again, set_else}
use Rattle.wp_model.specs.declared.entry.Entry.{Entry}
use Rattle.wp_core.specs.Turns.{turn_holder}
use Rattle.wp_core.specs.States.{Content}
use Rattle.wp_core.specs.World.{Actor, World, new_actor, content_of}
use Rattle.wp_core.specs.Changes.{turn_index, made_one, informed, joins, joined_actor}
use Rattle.wp_core.specs.Steps.{Step, make_note, make_seat, learn, join_seat}
use Rattle.wp_core.specs.Effects.{done}
use Rattle.wp_core.specs.Needs.{Needs}
use Rattle.wp_core.specs.Notes.{forgets}
use Rattle.wp_core.specs.Runs.{goes_on}
use Rattle.wp_rule.specs.Shows.{Shows}
use Rattle.wp_rule.proofs.Forgets.{forgets_nothing, make_ends, learn_ends, join_ends}
use Rattle.wp_rule.proofs.Quiet.{same_contents}
use Rattle.wp_rule.proofs.KeepsRule.{rests_still}

module _ {S : Type 0} (content : S → Option Content) (tells : S → Type 0) (first : List S) (opened : List Entry) (cells : ℕ) where
  abbrev Rule : State S Actor → Type 0
  Rule = Shows content tells first opened cells

  there : (s : State S Actor) (r : Rule s) (id : ℕ) (a : Actor) → get_elem? s.views id ≡ some a → get_elem? r.world.actors id ≡ some a
  there s r id a at = subst (λ (views : List Actor). get_elem? views id ≡ some a) r.views at

  -- a step that changes the actors alone
  actors_change : (s : State S Actor) (r : Rule s) (id : ℕ) (a : Actor) (step : Step) (actors views : List Actor) → get_elem? s.views id ≡ some a → Needs r.world id a step
      → done r.world id (forgets r.world.writes.history (length r.world.cache) step a) step ≡ record r.world { actors = actors } → views ≡ actors → Rule record { words = s.words; homes = s.homes; views = views }
  actors_change s r id a step actors views at needs is same =
      let w = r.world in let next : World = record w { actors = actors } in record {
        world = next;
        reached = (r.reached.0, r.reached.1, goes_on id step r.reached.2 (a, there s r id a at, needs, sym is));
        opened_is = r.opened_is;
        cells_are = r.cells_are;
        first_edit = r.first_edit;
        words = r.words;
        deep = r.deep;
        rests = λ turn. rests_still content tells first opened cells (turn_holder w.holders turn) (turn_holder next.holders turn) (content_of w turn) (content_of next turn) (get_elem? s.homes (turn_index turn)) refl
            (λ free. same_contents w next refl refl refl refl refl refl turn) (r.rests turn);
        views = same;
      }

  pub notes : (id : ℕ) (a : Actor) → Splits Rule id a a (new_actor false a.participant.client a.participant.seen)
  notes id a s r at =
      let new : Actor = new_actor false a.participant.client a.participant.seen in
      actors_change s r id a make_note (r.world.actors ++ new ∷ []) (set s.views id a ++ new ∷ []) at tt refl (ap (λ (views : List Actor). views ++ new ∷ []) (set_again s.views id a at ∙ r.views))

  pub seats : (id : ℕ) (a : Actor) → id ≡ 0 → Splits Rule id a (made_one a) (new_actor true a.participant.client a.participant.seen)
  seats id a is_first s r at =
      let w = r.world in let new : Actor = new_actor true a.participant.client a.participant.seen in
      let same : forgets w.writes.history (length w.cache) make_seat a ≡ a = forgets_nothing w.writes.history (length w.cache) make_seat a make_ends in
      actors_change s r id a make_seat (set w.actors id (made_one a) ++ new ∷ []) (set s.views id (made_one a) ++ new ∷ []) at is_first
      (ap (λ (x : Actor). record w { actors = set w.actors id (made_one x) ++ new ∷ [] }) same) (ap (λ (views : List Actor). set views id (made_one a) ++ new ∷ []) r.views)

  other_there : (s : State S Actor) (r : Rule s) (id other : ℕ) (c b : Actor) → ¬ (other ≡ id) → get_elem? (set s.views id c) other ≡ some b → get_elem? r.world.actors other ≡ some b
  other_there s r id other c b ne at = there s r other b (sym (set_else s.views id other c ne) ∙ at)

  pub learns : (id : ℕ) (a : Actor) (other : ℕ) (b : Actor) → b.live ≡ false → Joins Rule id a other b (informed a b) joined_actor
  learns id a other b quiet s r at ne at' =
      let w = r.world in let same : forgets w.writes.history (length w.cache) (learn other b) a ≡ a = forgets_nothing w.writes.history (length w.cache) (learn other b) a (learn_ends other b) in
      actors_change s r id a (learn other b) (set (set w.actors id (informed a b)) other joined_actor) (set (set s.views id (informed a b)) other joined_actor) at (ne, other_there s r id other (informed a b) b ne at', quiet)
      (ap (λ (x : Actor). record w { actors = set (set w.actors id (informed x b)) other joined_actor }) same) (ap (λ (views : List Actor). set (set views id (informed a b)) other joined_actor) r.views)

  pub joins_it : (id : ℕ) (a : Actor) (other : ℕ) (b : Actor) → id ≡ 0 → b.live ≡ true → b.held ≡ [] → Joins Rule id a other b (joins a b) joined_actor
  joins_it id a other b is_first live idle s r at ne at' =
      let w = r.world in let same : forgets w.writes.history (length w.cache) (join_seat other b) a ≡ a = forgets_nothing w.writes.history (length w.cache) (join_seat other b) a (join_ends other b) in
      actors_change s r id a (join_seat other b) (set (set w.actors id (joins a b)) other joined_actor) (set (set s.views id (joins a b)) other joined_actor) at (is_first, ne, other_there s r id other (joins a b) b ne at', live, idle)
      (ap (λ (x : Actor). record w { actors = set (set w.actors id (joins x b)) other joined_actor }) same) (ap (λ (views : List Actor). set (set views id (joins a b)) other joined_actor) r.views)
