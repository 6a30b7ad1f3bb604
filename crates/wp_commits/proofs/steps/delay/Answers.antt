use Rattle.std.proofs.Common.{◌≡◌, List, [], ◌∷◌, inl, refl, sym, subst, ap, ◌∙◌}
use Rattle.wp_model.specs.PreparedSets.{PreparedSets, NoneDelayed}
use Rattle.wp_judge.specs.Words.{commit_pair}
use Rattle.wp_core.specs.Lists.{IsIn}
use Rattle.wp_core.specs.States.{Content, writes, prepared}
use Rattle.wp_core.specs.Views.{delayed_flag_stays}
use Rattle.wp_rule.specs.Knows.{Noted}
use Rattle.wp_core.specs.Sound.Views.{IsApart}
use Rattle.wp_shared.specs.Notes.{is_flag, GoesOn}
use Rattle.wp_shared.specs.Seats.{SeatState, place_at}
use Rattle.wp_commits.proofs.Delayed.{none_before_commit, apart_now, delaying_keeps, may_delay, delayed_now}
use Rattle.wp_commits.proofs.Flags.{tells_still}
use Rattle.wp_commits.proofs.Passed.{left_heap}
use Rattle.wp_shared.proofs.Goes.{holds, holds_now, then_still}
use Rattle.wp_commits.proofs.steps.delay.Goals as goal

pub note_evicted-requires : goal.note_evicted-requires
note_evicted-requires g c = let t = c.args.tables.now in
    left_heap c.args.store.now c.args.seat.now c.shows_world.new.seat t c.shows_world.ensures.same c.shows_world.ensures.stands (subst (IsIn (prepared t)) (sym c.requires.held) (inl refl)) c.args.p c.requires.reached

pub fit_delayed_flag-requires-clause-held : goal.fit_delayed_flag-requires-clause-held
fit_delayed_flag-requires-clause-held g c = record {
  state = c.args.tables.now;
  held = subst (λ (x : SeatState). IsIn (prepared c.args.tables.now) x.knows.held) (sym c.shows_world.ensures.same) (subst (IsIn (prepared c.args.tables.now)) (sym c.requires.held) (inl refl));
  so_is = λ none. none_before_commit c.args.tables.now c.args.p c.args.c (subst NoneDelayed c.note_evicted.ensures none);
}

pub fit_delayed_flag-requires-clause-flag : goal.fit_delayed_flag-requires-clause-flag
fit_delayed_flag-requires-clause-flag g c = let f = c.requires.flag in let k = c.none_delayed-none.ensures in record {
  value = f.value;
  noted = subst (λ (x : SeatState). Noted x.knows (delayed_flag_stays f.value)) (sym c.shows_world.ensures.same) f.noted;
  empty = λ e. k.1 (f.empty e);
  down = λ e. f.down (k.0 e);
}

pub make_about-requires-clause-may : goal.make_about-requires-clause-may
make_about-requires-clause-may g c = let r = c.shows_world.new.seat in let u = c.fit_delayed_flag.new.seat in
    may_delay (place_at c.args.store.now u.by) u u c.args.log.now.state c.args.tables.now c.note_evicted.new.self c.args.p c.args.c
    (holds_now is_flag r u r.knows.held r.turns c.fit_delayed_flag.ensures.seat ∙ (ap (λ (x : SeatState). x.knows.held) c.shows_world.ensures.same ∙ c.requires.held))
    c.note_evicted.ensures c.requires.decided c.fit_delayed_flag.ensures.flag

pub make_about-requires-clause-client : goal.make_about-requires-clause-client
make_about-requires-clause-client g c = delaying_keeps (commit_pair c.args.p c.args.c)

pub returns : goal.returns
returns g c = let s = c.args.seat.now in let d = c.args.log.now.state in let r = c.shows_world.new.seat in let same = c.shows_world.ensures.same in let t = c.note_evicted.new.self in let fit = c.fit_delayed_flag.ensures in let u = c.fit_delayed_flag.new.seat in let v = c.make_about.new.seat in
    let held : List Content = prepared t ∷ writes d ∷ [] in
    let before : u.knows.held ≡ prepared c.args.tables.now ∷ writes d ∷ [] = holds_now is_flag r u r.knows.held r.turns fit.seat ∙ (ap (λ (x : SeatState). x.knows.held) same ∙ c.requires.held) in
    let made : v ≡ record u { knows = record u.knows { held = held } } =
    delayed_now (place_at c.args.store.now u.by) u v d c.args.tables.now t c.args.p c.args.c before c.note_evicted.ensures _ c.make_about.ensures.same c.make_about.ensures.moved in
    record {
      seat = subst (λ (x : SeatState). GoesOn is_flag held x.turns x v) same (then_still is_flag r u v r.knows.held held r.turns fit.seat (holds is_flag u v v held made));
      flag = tells_still u.knows v.knows delayed_flag_stays (NoneDelayed t) (λ value there. subst (λ (x : SeatState). Noted x.knows (delayed_flag_stays value)) (sym made) there) fit.flag;
      apart = subst (λ (x : PreparedSets). IsApart x (commit_pair c.args.p c.args.c)) (sym c.note_evicted.ensures) (apart_now c.args.tables.now c.args.p c.args.c);
    }
