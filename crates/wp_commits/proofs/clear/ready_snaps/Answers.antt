use Rattle.std.proofs.Common.{[], ◌∷◌, inl, refl, ap, ◌∙◌}
use Rattle.wp_judge.specs.Words.{commit_pair}
use Rattle.wp_core.specs.States.{writes}
use Rattle.wp_core.specs.Views.{in_old_commits, words_stay}
use Rattle.wp_shared.specs.Notes.{is_flag}
use Rattle.wp_shared.specs.Seats.{SeatState}
use Rattle.wp_commits.proofs.Clears.{still_there, then_noted}
use Rattle.wp_commits.proofs.Going.{knows_in_old_commits}
use Rattle.wp_commits.proofs.clear.ready_snaps.Goals as goal

pub keep-requires-clause-held : goal.keep-requires-clause-held
keep-requires-clause-held g c = (writes c.args.log.now.state ∷ [], c.requires.held, inl refl)

pub keep-requires-clause-ordered : goal.keep-requires-clause-ordered
keep-requires-clause-ordered g c = c.requires.there.ordered

pub keep-requires-clause-decided : goal.keep-requires-clause-decided
keep-requires-clause-decided g c = c.requires.there.decided

pub returns-in_err-keep-clause-seat : goal.returns-in_err-keep-clause-seat
returns-in_err-keep-clause-seat g c = c.keep.ensures.seat (writes c.args.log.now.state ∷ []) c.requires.held

pub note-requires-clause-seat : goal.note-requires-clause-seat
note-requires-clause-seat g c = let k = c.keep.ensures.seat (writes c.args.log.now.state ∷ []) c.requires.held in
    (ap (λ (x : SeatState). x.table) k.same ∙ c.requires.seat.0, ap (λ (x : SeatState). x.knows.live) k.same ∙ c.requires.seat.1)

pub note-requires-clause-known : goal.note-requires-clause-known
note-requires-clause-known g c = let k = c.requires.there in let kept = c.keep.ensures.seat (writes c.args.log.now.state ∷ []) c.requires.held in
    knows_in_old_commits c.keep.new.seat.knows c.args.log.now.state c.args.place c.args.p c.args.c c.keep.new.snaps (ap (λ (x : SeatState). x.knows.held) kept.same)
    (still_there c.args.seat.now.knows c.keep.new.seat.knows c.args.log.now.state.history c.args.place c.args.p c.args.c k k.bound (kept.noted (words_stay k.bound k.words) refl k.noted)) c.in_ok-keep.ensures.kept

pub returns-clause-seat : goal.returns-clause-seat
returns-clause-seat g c = let k = c.keep.ensures.seat (writes c.args.log.now.state ∷ []) c.requires.held in
    then_noted c.args.seat.now c.keep.new.seat c.note.new.seat c.note.new.seat is_flag (in_old_commits c.args.place (commit_pair c.args.p c.args.c)) _ _ k c.note.ensures
