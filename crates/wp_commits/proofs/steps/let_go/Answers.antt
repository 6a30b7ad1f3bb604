use Rattle.std.proofs.Common.{◌≡◌, inl, inr, refl, sym, subst, [], ◌∷◌, ◌∙◌}
use Rattle.wp_core.specs.Lists.{IsIn}
use Rattle.wp_core.specs.States.{snapshots, prepared, writes, without_prepared}
use Rattle.wp_core.specs.Views.{delayed_flag_stays, old_flag_stays}
use Rattle.wp_rule.specs.Knows.{Noted}
use Rattle.wp_shared.specs.Seats.{SeatState, place_at}
use Rattle.wp_commits.proofs.Passed.{may_let_go, let_go_now}
use Rattle.wp_commits.proofs.TakenOut.{went_goes}
use Rattle.wp_commits.proofs.steps.let_go.Goals as goal

pub make_about-requires-clause-may : goal.make_about-requires-clause-may
make_about-requires-clause-may g c = let s = c.args.seat.now in let t = c.remove.new.self in
    let left : t ≡ without_prepared c.args.tables.now c.args.p = λ i. record { heap = c.remove.ensures.heap i; delayed = c.remove.ensures.delayed i; delayed_commits = c.remove.ensures.delayed_commits i } in
    may_let_go (place_at c.args.store.now s.by) s s c.args.log.now.state c.args.tables.now t c.args.snaps.now c.args.p c.args.c c.requires.held left c.requires.decided c.requires.reached c.requires.kept

pub make_about-requires-clause-client : goal.make_about-requires-clause-client
make_about-requires-clause-client g c w = (tt, tt)

pub fit_delayed_flag-requires : goal.fit_delayed_flag-requires
fit_delayed_flag-requires g c = let s = c.args.seat.now in let t = c.remove.new.self in let u = c.make_about.new.seat in let f = c.requires.flag in let k = c.none_delayed-none.ensures in
    let left : t ≡ without_prepared c.args.tables.now c.args.p = λ i. record { heap = c.remove.ensures.heap i; delayed = c.remove.ensures.delayed i; delayed_commits = c.remove.ensures.delayed_commits i } in
    let out = let_go_now (place_at c.args.store.now s.by) s u c.args.log.now.state c.args.tables.now t c.args.snaps.now c.args.p c.args.c c.requires.held left _ c.make_about.ensures.same c.make_about.ensures.moved in
    record {
      seat = c.make_about.ensures.same.0 ∙ c.requires.seat;
      held = record { state = t; held = subst (λ (x : SeatState). IsIn (prepared t) x.knows.held) (sym out) (inr (inl refl)); so_is = λ none. none };
      flag = record { value = f.value; noted = subst (λ (x : SeatState). Noted x.knows (delayed_flag_stays f.value)) (sym out) f.noted; empty = λ e. k.1 (f.empty e); down = λ e. f.down (k.0 e) };
    }

pub returns : goal.returns
returns g c = let s = c.args.seat.now in let d = c.args.log.now.state in let m = c.args.snaps.now in let t = c.remove.new.self in let u = c.make_about.new.seat in let v = c.fit_delayed_flag.new.seat in let fit = c.fit_delayed_flag.ensures in
    let left : t ≡ without_prepared c.args.tables.now c.args.p = λ i. record { heap = c.remove.ensures.heap i; delayed = c.remove.ensures.delayed i; delayed_commits = c.remove.ensures.delayed_commits i } in
    let out = let_go_now (place_at c.args.store.now s.by) s u d c.args.tables.now t m c.args.p c.args.c c.requires.held left _ c.make_about.ensures.same c.make_about.ensures.moved in
    record {
      seat = went_goes s u v (snapshots m ∷ prepared t ∷ writes d ∷ []) out fit.seat;
      flag = fit.flag;
      other = λ value there. fit.other value (subst (λ (x : SeatState). Noted x.knows (old_flag_stays value)) (sym out) there);
      left = left;
    }
