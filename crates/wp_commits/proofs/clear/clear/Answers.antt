use Rattle.std.proofs.Common.{◌⊎◌, ⊎_elim, ℕ, [], ◌∷◌, length, refl, sym, subst, ap, ◌∙◌}
use Rattle.wp_judge.specs.Words.{CommitPair, commit_pair}
use Rattle.wp_core.specs.Cache.{pair_at}
use Rattle.wp_core.specs.States.{writes}
use Rattle.wp_core.specs.Views.{words_stay, none_waits}
use Rattle.wp_rule.specs.Knows.{Noted}
use Rattle.wp_shared.specs.Notes.{is_flag}
use Rattle.wp_shared.specs.Seats.{SeatState}
use Rattle.wp_commits.specs.declared.way.Way.{Way}
use Rattle.wp_commits.specs.declared.way.Way.TheVariants.{Delayed}
use Rattle.wp_commits.specs.Bound.{bound_after, bound_with}
use Rattle.wp_commits.specs.Cleared.{IsCleared}
use Rattle.wp_commits.specs.Notes.{is_of_words}
use Rattle.wp_commits.specs.Ways.{Clears, IsClearedFor}
use Rattle.wp_commits.proofs.Clears.{on_ok, ok_any, err_any, stays_at, flags_too, still_cleared, then_flags}
use Rattle.wp_commits.proofs.Ways.{pair_of_way, pair_of_delayed, delayed_reached}
use Rattle.wp_commits.proofs.clear.clear.Goals as goal

-- ---- nothing to keep

pub returns-in-Undecided-clause-bound : goal.returns-in-Undecided-clause-bound
returns-in-Undecided-clause-bound g c bound words there =
    subst (λ (w : Way). Noted c.args.seat.now.knows (words_stay (bound_with c.args.store.now.cells (length c.args.log.now.state.history) bound words w) words)) (sym c.in-Undecided.is) there

pub returns-in-Undecided-clause-seat : goal.returns-in-Undecided-clause-seat
returns-in-Undecided-clause-seat g c = let s = c.args.seat.now in stays_at s s s s is_of_words (writes c.args.log.now.state ∷ []) refl c.requires.held

pub returns-in-Undecided-clause-cleared : goal.returns-in-Undecided-clause-cleared
returns-in-Undecided-clause-cleared g c = subst (IsClearedFor c.args.seat.now.knows c.args.store.now.cells) (sym c.in-Undecided.is) tt

pub returns-in-Undecided-clause-waits : goal.returns-in-Undecided-clause-waits
returns-in-Undecided-clause-waits g c = ⊎_elim (λ (one : Clears c.args.way). absurd (subst Clears c.in-Undecided.is one)) (λ (noted : Noted c.args.seat.now.knows none_waits). noted)

-- ---- in its word

pub clear_place-requires : goal.clear_place-requires
clear_place-requires g c =
    let n = c.requires.wanted in let p = c.in-InWord.p in let d = c.in-InWord.field-1 in let pair : CommitPair = commit_pair p d in
    let k = pair_of_way c.args.store.now.cells n.0 p d (sym n.1 ∙ c.in-InWord.is) in
    record { seat = c.requires.seat; held = c.requires.held; wanted = (pair, n.2 pair k.0, c.place_of-place.ensures.place, k.1); words = c.requires.words; unentered = c.requires.unentered; within = c.place_of-place.ensures.within }

pub returns-in_err-clear_place-in-InWord-clause-seat : goal.returns-in_err-clear_place-in-InWord-clause-seat
returns-in_err-clear_place-in-InWord-clause-seat g c = c.clear_place.ensures.seat

pub returns-in_err-clear_place-in-InWord-clause-bound : goal.returns-in_err-clear_place-in-InWord-clause-bound
returns-in_err-clear_place-in-InWord-clause-bound g c bound words there = let z = c.args.store.now in let d = c.args.log.now.state in let t = c.clear_place.new.seat in
    subst (λ (w : Way). Noted t.knows (words_stay (bound_with z.cells (length d.history) bound words w) words)) (sym c.in-InWord.is)
    (subst (λ (i : ℕ). Noted t.knows (words_stay (bound_after z.cells (length d.history) bound (pair_at words i)) words)) c.place_of-place.ensures.place (c.clear_place.ensures.bound bound words there))

pub returns-in_err-clear_place-in-InWord-clause-wanting : goal.returns-in_err-clear_place-in-InWord-clause-wanting
returns-in_err-clear_place-in-InWord-clause-wanting g c = err_any c.from_residual.result (Clears c.args.way) (subst Clears (sym c.in-InWord.is) tt)

pub pass-requires : goal.pass-requires
pass-requires g c = let k = c.clear_place.ensures.seat in let w = c.requires.words in record {
  seat = (ap (λ (x : SeatState). x.table) k.same ∙ c.requires.seat.0, ap (λ (x : SeatState). x.knows.live) k.same ∙ c.requires.seat.1);
  held = ap (λ (x : SeatState). x.knows.held) k.same;
  words = (_, w.1, c.clear_place.ensures.bound w.0 w.1 w.2);
}

pub returns-in_ok-clear_place-in-InWord : goal.returns-in_ok-clear_place-in-InWord
returns-in_ok-clear_place-in-InWord g c = let z = c.args.store.now in let s = c.args.seat.now in let d = c.args.log.now.state in let t = c.clear_place.new.seat in let u = c.pass.new.seat in let place = c.place_of-place in let kept = c.pass.ensures.seat.noted in record {
  seat = then_flags s t u u (writes d ∷ []) (writes d ∷ []) s.turns c.clear_place.ensures.seat c.pass.ensures.seat;
  bound = λ bound words there.
      subst (λ (w : Way). Noted u.knows (words_stay (bound_with z.cells (length d.history) bound words w) words)) (sym c.in-InWord.is)
      (subst (λ (i : ℕ). Noted u.knows (words_stay (bound_after z.cells (length d.history) bound (pair_at words i)) words)) place.ensures.place
      (kept (words_stay (bound_after z.cells (length d.history) bound (pair_at words place.result)) words) refl (c.clear_place.ensures.bound bound words there)));
  cleared = ok_any c.pass.result (IsClearedFor u.knows z.cells c.args.way)
      (subst (IsClearedFor u.knows z.cells) (sym c.in-InWord.is)
      (subst (IsCleared u.knows) place.ensures.place
      (still_cleared is_flag t u (writes d ∷ []) t.turns place.result flags_too c.pass.ensures.seat (λ bound words there. (bound, kept (words_stay bound words) refl there)) c.in_ok-clear_place-in-InWord.ensures.cleared)));
  waits = on_ok c.pass.result (Noted u.knows none_waits) (Clears c.args.way ⊎ Noted s.knows none_waits → Noted u.knows none_waits) (λ k any. k) c.pass.ensures.waits;
  wanting = err_any c.pass.result (Clears c.args.way) (subst Clears (sym c.in-InWord.is) tt);
}

-- ---- too wide for one

pub reach-requires : goal.reach-requires
reach-requires g c =
    let n = c.requires.wanted in let p = c.in-Delayed.p in let d = c.in-Delayed.c in let k = pair_of_delayed c.args.store.now.cells n.0 p d (sym n.1 ∙ c.in-Delayed.is) in
    record { seat = c.requires.seat; held = c.requires.held; wanted = n.2 (commit_pair p d) k.0; wide = k.1; words = c.requires.words }

pub pass-requires-in-Delayed : goal.pass-requires-in-Delayed
pass-requires-in-Delayed g c = let k = c.reach.ensures.seat in let w = c.requires.words in record {
  seat = (ap (λ (x : SeatState). x.table) k.same ∙ c.requires.seat.0, ap (λ (x : SeatState). x.knows.live) k.same ∙ c.requires.seat.1);
  held = ap (λ (x : SeatState). x.knows.held) k.same;
  words = (_, w.1, c.reach.ensures.bound w.0 w.1 w.2);
}

pub returns-in-Delayed : goal.returns-in-Delayed
returns-in-Delayed g c = let z = c.args.store.now in let s = c.args.seat.now in let d = c.args.log.now.state in let t = c.reach.new.seat in let pass = c.pass-in-Delayed in let u = pass.new.seat in let w = c.requires.words in let way : Way = Delayed c.in-Delayed.p c.in-Delayed.c in
    let b = bound_with z.cells (length d.history) w.0 w.1 way in
    record {
      seat = then_flags s t u u (writes d ∷ []) (writes d ∷ []) s.turns c.reach.ensures.seat pass.ensures.seat;
      bound = λ bound words there.
          subst (λ (w : Way). Noted u.knows (words_stay (bound_with z.cells (length d.history) bound words w) words)) (sym c.in-Delayed.is)
          (pass.ensures.seat.noted (words_stay (bound_with z.cells (length d.history) bound words way) words) refl (c.reach.ensures.bound bound words there));
      cleared = ok_any pass.result (IsClearedFor u.knows z.cells c.args.way)
          (subst (IsClearedFor u.knows z.cells) (sym c.in-Delayed.is) (b, w.1, pass.ensures.seat.noted (words_stay b w.1) refl (c.reach.ensures.bound w.0 w.1 w.2), delayed_reached c.in-Delayed.p w.0));
      waits = on_ok pass.result (Noted u.knows none_waits) (Clears c.args.way ⊎ Noted s.knows none_waits → Noted u.knows none_waits) (λ k any. k) pass.ensures.waits;
      wanting = err_any pass.result (Clears c.args.way) (subst Clears (sym c.in-Delayed.is) tt);
    }
