use Rattle.std.proofs.Common.{◌≡◌, inl, inr, refl, sym, subst, ap, ◌∙◌, List, [], ◌∷◌}
use Rattle.wp_model.specs.PreparedSets.{NoneDelayed}
use Rattle.wp_core.specs.Lists.{IsIn}
use Rattle.wp_core.specs.States.{Content, prepared, writes}
use Rattle.wp_core.specs.Views.{pair_delayed, delayed_flag_stays}
use Rattle.wp_rule.specs.Knows.{Noted}
use Rattle.wp_shared.specs.Notes.{is_flag, GoesOn}
use Rattle.wp_shared.specs.Seats.{SeatState, place_at}
use Rattle.wp_shared.proofs.Goes.{holds_now, wider, then_still}
use Rattle.wp_commits.specs.Notes.{is_of_delayed}
use Rattle.wp_commits.proofs.Clears.{then_noted, just_noted}
use Rattle.wp_commits.proofs.Flags.{tells_still}
use Rattle.wp_commits.proofs.Passed.{none_before_pending, flags_in_delayed, knows_pair_delayed, commit_there, is_delayed, bound_reached, may_delay_pending, pending_delayed, flag_still}
use Rattle.wp_commits.proofs.steps.delay_pending.Goals as goal

pub add_commit-requires : goal.add_commit-requires
add_commit-requires g c = let t = c.args.tables.now in let d = c.args.log.now.state in
    is_delayed c.args.store.now c.args.seat.now c.shows_world.new.seat t c.shows_world.ensures.same c.shows_world.ensures.stands (subst (IsIn (prepared t)) (sym c.requires.held) (inl refl))
    d (subst (IsIn (writes d)) (sym c.requires.held) (inr (inl refl))) c.args.p c.args.c c.requires.pending c.requires.wide c.requires.reached

pub fit_delayed_flag-requires-clause-held : goal.fit_delayed_flag-requires-clause-held
fit_delayed_flag-requires-clause-held g c = record {
  state = c.args.tables.now;
  held = subst (λ (x : SeatState). IsIn (prepared c.args.tables.now) x.knows.held) (sym c.shows_world.ensures.same) (subst (IsIn (prepared c.args.tables.now)) (sym c.requires.held) (inl refl));
  so_is = λ none. none_before_pending c.args.tables.now c.args.p c.args.c (subst NoneDelayed c.add_commit.ensures none);
}

pub fit_delayed_flag-requires-clause-flag : goal.fit_delayed_flag-requires-clause-flag
fit_delayed_flag-requires-clause-flag g c = let f = c.requires.flag in let k = c.none_delayed-none.ensures in record {
  value = f.value;
  noted = subst (λ (x : SeatState). Noted x.knows (delayed_flag_stays f.value)) (sym c.shows_world.ensures.same) f.noted;
  empty = λ e. k.1 (f.empty e);
  down = λ e. f.down (k.0 e);
}

pub make_about-requires-clause-may : goal.make_about-requires-clause-may
make_about-requires-clause-may g c = let r = c.shows_world.new.seat in let u = c.fit_delayed_flag.new.seat in
    may_delay_pending (place_at c.args.store.now u.by) u u c.args.log.now.state c.args.tables.now c.add_commit.new.self c.args.p c.args.c
    (holds_now is_flag r u r.knows.held r.turns c.fit_delayed_flag.ensures.seat ∙ (ap (λ (x : SeatState). x.knows.held) c.shows_world.ensures.same ∙ c.requires.held))
    c.add_commit.ensures c.requires.pending c.fit_delayed_flag.ensures.flag

pub make_about-requires-clause-client : goal.make_about-requires-clause-client
make_about-requires-clause-client g c w = (tt, tt)

pub note-requires : goal.note-requires
note-requires g c = let d = c.args.log.now.state in let r = c.shows_world.new.seat in let same = c.shows_world.ensures.same in let t = c.add_commit.new.self in let fit = c.fit_delayed_flag.ensures.seat in let u = c.fit_delayed_flag.new.seat in let v = c.make_about.new.seat in
    let before : u.knows.held ≡ prepared c.args.tables.now ∷ writes d ∷ [] = holds_now is_flag r u r.knows.held r.turns fit ∙ (ap (λ (x : SeatState). x.knows.held) same ∙ c.requires.held) in
    let went : GoesOn is_of_delayed (prepared t ∷ writes d ∷ []) u.turns u v =
    pending_delayed (place_at c.args.store.now u.by) u v d c.args.tables.now t c.args.p c.args.c before c.add_commit.ensures _ c.make_about.ensures.same c.make_about.ensures.moved in
    let held : v.knows.held ≡ prepared t ∷ writes d ∷ [] = ap (λ (x : SeatState). x.knows.held) went.same in
    record {
      seat = (
        ap (λ (x : SeatState). x.table) went.same ∙ (ap (λ (x : SeatState). x.table) fit.same ∙ (ap (λ (x : SeatState). x.table) same ∙ c.requires.seat.0)),
        ap (λ (x : SeatState). x.knows.live) went.same ∙ (ap (λ (x : SeatState). x.knows.live) fit.same ∙ (ap (λ (x : SeatState). x.knows.live) same ∙ c.requires.seat.1)),
      );
      known = knows_pair_delayed v.knows d t c.args.p c.args.c (subst (IsIn (writes d)) (sym held) (inr (inl refl))) (subst (IsIn (prepared t)) (sym held) (inl refl)) c.requires.pending (commit_there c.args.tables.now t c.args.p c.args.c c.add_commit.ensures);
    }

pub returns : goal.returns
returns g c = let d = c.args.log.now.state in let r = c.shows_world.new.seat in let same = c.shows_world.ensures.same in let old = c.args.tables.now in let t = c.add_commit.new.self in let fit = c.fit_delayed_flag.ensures in let u = c.fit_delayed_flag.new.seat in let v = c.make_about.new.seat in let w = c.note.new.seat in
    let p = place_at c.args.store.now u.by in
    let held : List Content = prepared t ∷ writes d ∷ [] in
    let before : u.knows.held ≡ prepared old ∷ writes d ∷ [] = holds_now is_flag r u r.knows.held r.turns fit.seat ∙ (ap (λ (x : SeatState). x.knows.held) same ∙ c.requires.held) in
    let went : GoesOn is_of_delayed held u.turns u v = pending_delayed p u v d old t c.args.p c.args.c before c.add_commit.ensures _ c.make_about.ensures.same c.make_about.ensures.moved in
    let first : GoesOn is_of_delayed r.knows.held r.turns r u = wider is_flag r u u is_of_delayed r.knows.held r.turns flags_in_delayed fit.seat in
    record {
      seat = subst (λ (x : SeatState). GoesOn is_of_delayed held x.turns x w) same (then_noted r v w w is_of_delayed pair_delayed held r.turns (then_still is_of_delayed r u v r.knows.held held r.turns first went) c.note.ensures);
      flag = tells_still v.knows w.knows delayed_flag_stays (NoneDelayed t) (λ value there. subst (λ (x : SeatState). Noted x.knows (delayed_flag_stays value)) (sym c.note.ensures) (inr there))
          (flag_still p u v d old t c.args.p c.args.c before c.add_commit.ensures _ c.make_about.ensures.same c.make_about.ensures.moved fit.flag);
      there = just_noted v w pair_delayed c.note.ensures;
      low = bound_reached c.args.store.now c.args.seat.now r old same c.shows_world.ensures.stands (subst (IsIn (prepared old)) (sym c.requires.held) (inl refl)) c.args.p c.requires.reached;
    }
