use Rattle.std.proofs.Common.{List, ◌∷◌, subst}
use Rattle.wp_core.specs.States.{Content}
use Rattle.wp_core.specs.States as state
use Rattle.wp_shared.specs.Notes.{GoesOn}
use Rattle.wp_parts.specs.Stock.{store_state}
use Rattle.wp_maint.specs.Holding.{is_of_tables}
use Rattle.wp_maint.proofs.Made.{may_move, noted_moved, same_others, was_moved}
use Rattle.wp_maint.proofs.steps.move_versions.Goals as goal

pub make_about-requires-clause-may : goal.make_about-requires-clause-may
make_about-requires-clause-may g c = let h = c.requires.held in may_move _ _ h.0 (store_state c.args.stock.now) c.args.edits.now.state h.1 h.3 h.2 h.4 h.5 c.requires.gone

pub returns : goal.returns
returns g c =
    let h = c.requires.held in let s = c.args.seat.now in let u = c.make_about.new.seat in let now = store_state c.args.stock.now in
    let noted = noted_moved _ _ s u c.make_about.ensures.same h.0 now h.1 h.2 h.4 c.make_about.ensures.moved in record {
      goes = λ t others held. subst (λ (l : List Content). GoesOn is_of_tables (state.store now ∷ l) s.turns s u) (same_others s.knows h.0 t h.1 others h.2 held)
          (was_moved _ _ s u c.make_about.ensures.same h.0 now h.1 h.2 h.4 c.make_about.ensures.moved);
      flushed = noted.0;
      named = noted.1;
    }
