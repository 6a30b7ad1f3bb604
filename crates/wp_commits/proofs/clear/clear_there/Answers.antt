use Rattle.std.proofs.Common.{[], ◌∷◌, inr, length, refl, ap, ◌∙◌}
use Rattle.wp_core.specs.States.{writes}
use Rattle.wp_judge.specs.Words.{CommitPair, commit_pair}
use Rattle.wp_core.specs.Views.{passed, in_old_commits, apart, words_stay}
use Rattle.wp_rule.specs.Knows.{Noted}
use Rattle.wp_shared.specs.Seats.{SeatState}
use Rattle.wp_commits.specs.Bound.{raised}
use Rattle.wp_commits.specs.Cleared.{IsCleared}
use Rattle.wp_commits.proofs.Clears.{still_there, on_ok, then_flags}
use Rattle.wp_commits.proofs.clear.clear_there.Goals as goal

pub clear_own-requires : goal.clear_own-requires
clear_own-requires g c = record { seat = c.requires.seat; held = c.requires.held; wanted = c.requires.wanted; there = c.requires.there; ready = inr c.if-p-c.true }

pub returns-then-p-c : goal.returns-then-p-c
returns-then-p-c g c = record { seat = c.clear_own.ensures.seat; bound = c.clear_own.ensures.bound; cleared = c.clear_own.ensures.cleared }

pub clear_prepared-requires : goal.clear_prepared-requires
clear_prepared-requires g c = record { seat = c.requires.seat; held = c.requires.held; wanted = c.requires.wanted; there = c.requires.there }

pub clear_snaps-requires : goal.clear_snaps-requires
clear_snaps-requires g c = let k = c.requires.there in let d = c.args.log.now.state in let same = c.clear_prepared.ensures.seat.same in record {
  seat = (ap (λ (x : SeatState). x.table) same ∙ c.requires.seat.0, ap (λ (x : SeatState). x.knows.live) same ∙ c.requires.seat.1);
  held = ap (λ (x : SeatState). x.knows.held) same;
  there = still_there c.args.seat.now.knows c.clear_prepared.new.seat.knows d.history c.args.place c.args.p c.args.c k (raised c.args.store.now.cells (length d.history) k.bound c.args.c) (c.clear_prepared.ensures.bound k.bound k.words k.noted);
}

pub returns : goal.returns
returns g c = let s = c.args.seat.now in let d = c.args.log.now.state in let t = c.clear_prepared.new.seat in let u = c.clear_snaps.new.seat in let kept = c.clear_snaps.ensures.seat.noted in let ready = c.clear_prepared.ensures.ready in
    let pair : CommitPair = commit_pair c.args.p c.args.c in
    record {
      seat = then_flags s t u u (writes d ∷ []) (writes d ∷ []) s.turns c.clear_prepared.ensures.seat c.clear_snaps.ensures.seat;
      bound = λ bound words there. kept (words_stay (raised c.args.store.now.cells (length d.history) bound c.args.c) words) refl (c.clear_prepared.ensures.bound bound words there);
      cleared = on_ok c.clear_snaps.result (Noted u.knows (in_old_commits c.args.place pair)) (IsCleared u.knows c.args.place)
          (λ old. inr (pair, (kept (passed c.args.place pair) refl ready.0, old, kept (apart c.args.place pair) refl ready.1)))
          c.clear_snaps.ensures.ready;
    }
