use Rattle.std.proofs.Common.{◌≡◌, ◌-◌, List, ◌∷◌, inl, refl, ap, sym, subst, ◌∙◌}
use Rattle.wp_model.specs.Snapshots.{Snapshots, NoOldCommits}
use Rattle.wp_core.specs.Lists.{IsIn}
use Rattle.wp_core.specs.States.{Content, snapshots}
use Rattle.wp_core.specs.Views.{delayed_flag_stays, old_flag_stays}
use Rattle.wp_rule.specs.Knows.{Noted}
use Rattle.wp_shared.specs.Seats.{SeatState, place_at}
use Rattle.wp_shared.specs.Notes.{is_flag, GoesOn}
use Rattle.wp_commits.proofs.Kept.{none_before_kept, in_old_commits_now, keeping_keeps, may_keep, kept_now}
use Rattle.wp_commits.proofs.Flags.{tells_still}
use Rattle.wp_shared.proofs.Goes.{holds, holds_now, stays, then_still}
use Rattle.wp_commits.proofs.steps.keep.Goals as goal

pub returns-in_err-keep_evicted-clause-seat : goal.returns-in_err-keep_evicted-clause-seat
returns-in_err-keep_evicted-clause-seat g c others held = let s = c.args.seat.now in
    subst (λ (h : List Content). GoesOn is_flag h s.turns s s) (held ∙ ap (λ (x : Snapshots). snapshots x ∷ others) (sym c.in_err-keep_evicted.ensures.err)) (stays is_flag s s s)

pub fit_old_flag-requires-clause-held : goal.fit_old_flag-requires-clause-held
fit_old_flag-requires-clause-held g c =
    record { state = c.args.snaps.now; held = subst (IsIn (snapshots c.args.snaps.now)) (sym c.requires.held.1) (inl refl); so_is = none_before_kept c.args.snaps.now c.keep_evicted.new.self c.args.p c.args.c c.in_ok-keep_evicted.ensures.ok }

pub fit_old_flag-requires-clause-flag : goal.fit_old_flag-requires-clause-flag
fit_old_flag-requires-clause-flag g c = let f = c.requires.flag in let k = c.none_kept-none.ensures in record { value = f.value; noted = f.noted; empty = λ e. k.1 (f.empty e); down = λ e. f.down (k.0 e) }

pub make_about-requires-clause-may : goal.make_about-requires-clause-may
make_about-requires-clause-may g c = let s = c.args.seat.now in let h = c.requires.held in let u = c.fit_old_flag.new.seat in
    may_keep (place_at c.args.store.now u.by) u u c.args.snaps.now c.keep_evicted.new.self c.args.p c.args.c h.0 (holds_now is_flag s u s.knows.held s.turns c.fit_old_flag.ensures.seat ∙ h.1) c.in_ok-keep_evicted.ensures.ok
    c.args.log.now.state h.2 c.requires.ordered c.requires.decided c.fit_old_flag.ensures.flag

pub make_about-requires-clause-client : goal.make_about-requires-clause-client
make_about-requires-clause-client g c w = keeping_keeps w.snapshots c.args.p (c.args.c - c.args.p) c.args.p

pub returns : goal.returns
returns g c = let s = c.args.seat.now in let old = c.args.snaps.now in let new = c.keep_evicted.new.self in let fit = c.fit_old_flag.ensures in let u = c.fit_old_flag.new.seat in let v = c.make_about.new.seat in
    let kept : (others : List Content) → s.knows.held ≡ snapshots old ∷ others → v ≡ record u { knows = record u.knows { held = snapshots new ∷ others } } =
    λ others held. kept_now (place_at c.args.store.now u.by) u v old new c.args.p c.args.c others (holds_now is_flag s u s.knows.held s.turns fit.seat ∙ held) c.in_ok-keep_evicted.ensures.ok _ c.make_about.ensures.same c.make_about.ensures.moved in
    let now = kept c.requires.held.0 c.requires.held.1 in
    record {
      seat = λ others held. then_still is_flag s u v s.knows.held (snapshots new ∷ others) s.turns fit.seat (holds is_flag u v v (snapshots new ∷ others) (kept others held));
      flag = tells_still u.knows v.knows old_flag_stays (NoOldCommits new) (λ value there. subst (λ (x : SeatState). Noted x.knows (old_flag_stays value)) (sym now) there) fit.flag;
      other = λ value there. subst (λ (x : SeatState). Noted x.knows (delayed_flag_stays value)) (sym now) (fit.other value there);
      kept = in_old_commits_now old new c.args.p c.args.c c.in_ok-keep_evicted.ensures.ok;
    }
