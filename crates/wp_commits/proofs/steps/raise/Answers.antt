use Rattle.std.proofs.Common.{◌≡◌, inl, refl, sym, subst, [], ◌∷◌, ◌∙◌}
use Rattle.wp_core.specs.Lists.{IsIn}
use Rattle.wp_core.specs.States.{prepared, writes, with_moved}
use Rattle.wp_model.specs.PreparedSets.{NoneDelayed}
use Rattle.wp_core.specs.Views.{words_stay}
use Rattle.wp_shared.specs.Notes.{is_flag}
use Rattle.wp_shared.specs.Seats.{place_at}
use Rattle.wp_commits.specs.Notes.{is_of_words}
use Rattle.wp_commits.proofs.Delayed.{advanced, none_before_moved, rise_still, may_raise, raised, flag_raised, bound_raised}
use Rattle.wp_shared.proofs.Goes.{wider, then_still, holds_now}
use Rattle.wp_commits.proofs.Clears.{flags_too}
use Rattle.wp_commits.proofs.steps.raise.Goals as goal

pub fit_delayed_flag-requires-clause-held : goal.fit_delayed_flag-requires-clause-held
fit_delayed_flag-requires-clause-held g c =
    let is : c.advance.new.self ≡ with_moved c.args.tables.now c.args.m = advanced c.args.tables.now c.advance.new.self c.args.m c.advance.ensures.heap c.advance.ensures.delayed c.advance.ensures.delayed_commits in
    record { state = c.args.tables.now; held = subst (IsIn (prepared c.args.tables.now)) (sym c.requires.held) (inl refl); so_is = λ none. none_before_moved c.args.tables.now c.args.m (subst NoneDelayed is none) }

pub fit_delayed_flag-requires-clause-flag : goal.fit_delayed_flag-requires-clause-flag
fit_delayed_flag-requires-clause-flag g c = let f = c.requires.flag in let k = c.none_delayed-none.ensures in record { value = f.value; noted = f.noted; empty = λ e. k.1 (f.empty e); down = λ e. f.down (k.0 e) }

pub store_max-requires-clause-rises : goal.store_max-requires-clause-rises
store_max-requires-clause-rises g c = let z = c.args.store.now in let s = c.args.seat.now in let d = c.args.log.now.state in let old = c.args.tables.now in let new = c.advance.new.self in let u = c.fit_delayed_flag.new.seat in
    may_raise (place_at z u.by) u u d old new c.args.m
    (holds_now is_flag s u s.knows.held s.turns c.fit_delayed_flag.ensures.seat ∙ c.requires.held)
    (advanced old new c.args.m c.advance.ensures.heap c.advance.ensures.delayed c.advance.ensures.delayed_commits)
    (rise_still s.knows u.knows z.cells d c.args.m (λ bound words there. c.fit_delayed_flag.ensures.seat.noted (words_stay bound words) refl there) c.requires.rises)
    c.fit_delayed_flag.ensures.flag

pub returns : goal.returns
returns g c = let s = c.args.seat.now in let d = c.args.log.now.state in let old = c.args.tables.now in let new = c.advance.new.self in let m = c.args.m in let fit = c.fit_delayed_flag.ensures in let u = c.fit_delayed_flag.new.seat in let v = c.store_max.new.seat in
    let p = place_at c.args.store.now u.by in
    let held : u.knows.held ≡ prepared old ∷ writes d ∷ [] = holds_now is_flag s u s.knows.held s.turns fit.seat ∙ c.requires.held in
    let is : new ≡ with_moved old m = advanced old new m c.advance.ensures.heap c.advance.ensures.delayed c.advance.ensures.delayed_commits in
    record {
      seat = then_still is_of_words s u v s.knows.held (prepared new ∷ writes d ∷ []) s.turns (wider is_flag s u v is_of_words s.knows.held s.turns flags_too fit.seat) (raised p u v d old new m held is _ c.store_max.ensures.same c.store_max.ensures.moved);
      flag = flag_raised p u v d old new m held is _ c.store_max.ensures.same c.store_max.ensures.moved fit.flag;
      bound = λ bound words there. bound_raised p u v d old new m held is _ c.store_max.ensures.same c.store_max.ensures.moved bound words (fit.seat.noted (words_stay bound words) refl there);
    }
