use Rattle.std.proofs.Common.{◌≡◌, inl, inr, refl, sym, subst, [], ◌∷◌, ◌∙◌}
use Rattle.wp_core.specs.Lists.{IsIn}
use Rattle.wp_core.specs.States.{prepared, without_prepared}
use Rattle.wp_core.specs.Views.{has_left, delayed_flag_stays}
use Rattle.wp_rule.specs.Knows.{Noted}
use Rattle.wp_shared.specs.Seats.{SeatState, place_at}
use Rattle.wp_commits.proofs.TakenOut.{may_take_out, took_out, left_goes}
use Rattle.wp_commits.proofs.steps.forget_prepared.Goals as goal

pub make_about-requires-clause-may : goal.make_about-requires-clause-may
make_about-requires-clause-may g c = may_take_out (place_at c.args.store.now c.args.seat.now.by) c.args.seat.now.knows c.args.tables.now c.args.p c.requires.seat.1 c.requires.held c.requires.decided

pub make_about-requires-clause-client : goal.make_about-requires-clause-client
make_about-requires-clause-client g c w = (tt, (tt, tt))

pub fit_delayed_flag-requires : goal.fit_delayed_flag-requires
fit_delayed_flag-requires g c = let s = c.args.seat.now in let t = c.remove.new.self in let u = c.make_about.new.seat in let f = c.requires.flag in let k = c.none_delayed-none.ensures in
    let left : t ≡ without_prepared c.args.tables.now c.args.p = λ i. record { heap = c.remove.ensures.heap i; delayed = c.remove.ensures.delayed i; delayed_commits = c.remove.ensures.delayed_commits i } in
    let out = took_out (place_at c.args.store.now s.by) _ s u c.args.tables.now t c.args.p c.requires.held left c.make_about.ensures.same c.make_about.ensures.moved in
    record {
      seat = c.make_about.ensures.same.0 ∙ c.requires.seat.0;
      held = record { state = t; held = subst (λ (x : SeatState). IsIn (prepared t) x.knows.held) (sym out) (inl refl); so_is = λ none. none };
      flag = record { value = f.value; noted = subst (λ (x : SeatState). Noted x.knows (delayed_flag_stays f.value)) (sym out) (inr f.noted); empty = λ e. k.1 (f.empty e); down = λ e. f.down (k.0 e) };
    }

pub returns : goal.returns
returns g c = let s = c.args.seat.now in let t = c.remove.new.self in let u = c.make_about.new.seat in let v = c.fit_delayed_flag.new.seat in let fit = c.fit_delayed_flag.ensures in
    let left : t ≡ without_prepared c.args.tables.now c.args.p = λ i. record { heap = c.remove.ensures.heap i; delayed = c.remove.ensures.delayed i; delayed_commits = c.remove.ensures.delayed_commits i } in
    let out = took_out (place_at c.args.store.now s.by) _ s u c.args.tables.now t c.args.p c.requires.held left c.make_about.ensures.same c.make_about.ensures.moved in
    record {
      seat = left_goes s u v (prepared t ∷ []) c.args.p out fit.seat;
      flag = fit.flag;
      left = left;
      gone = fit.seat.noted (has_left c.args.p) refl (subst (λ (x : SeatState). IsIn (has_left c.args.p) x.knows.notes) (sym out) (inl refl));
    }
