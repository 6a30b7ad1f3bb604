use Rattle.std.proofs.Common.{◌≡◌, ℕ, length, Some, refl, sym, subst, ◌∙◌, arith}
use Rattle.wp_judge.specs.Words.{commit_pair}
use Rattle.wp_core.specs.Cache.{cache_place, pair_at, with_pair}
use Rattle.wp_core.specs.Views.{words_stay}
use Rattle.wp_rule.specs.Knows.{Noted}
use Rattle.wp_commits.specs.Bound.{bound_after}
use Rattle.wp_commits.specs.Cleared.{IsReadyAt}
use Rattle.wp_commits.specs.Notes.{is_of_words}
use Rattle.wp_commits.proofs.Clears.{then_put}
use Rattle.wp_commits.proofs.Ways.{next_in, keeps_ready, ready_still, after_keeps}
use Rattle.wp_commits.proofs.entering.enter_pair.Goals as goal

pub clear_again-requires-clause-ready : goal.clear_again-requires-clause-ready
clear_again-requires-clause-ready g c =
    subst (IsReadyAt c.args.seat.now.knows (length c.args.log.now.state.history)) (sym c.place_of-place.ensures.place) c.requires.ready

pub clear_again-requires-clause-wanted : goal.clear_again-requires-clause-wanted
clear_again-requires-clause-wanted g c = (
  commit_pair c.args.p c.args.c,
  next_in c.args.log.now.state.history c.args.log.now.state.pending (commit_pair c.args.p c.args.c) c.requires.pending,
  c.place_of-place.ensures.place,
  c.requires.narrow,
)

pub returns-clause-seat : goal.returns-clause-seat
returns-clause-seat g c =
    then_put c.args.seat.now c.clear_again.new.seat c.put_word.new.seat _ (cache_place c.args.store.now.cells c.args.p) c.place_of-place.result c.place_of-place.ensures.place c.requires.held c.clear_again.ensures.seat c.put_word.ensures.seat

pub returns-clause-words : goal.returns-clause-words
returns-clause-words g c bound words there =
    let cells = c.args.store.now.cells in let published = length c.args.log.now.state.history in
    subst (λ (i : ℕ). Noted c.put_word.new.seat.knows (words_stay (bound_after cells published bound (pair_at words i)) (with_pair words (commit_pair c.args.p c.args.c)))) c.place_of-place.ensures.place
    (c.put_word.ensures.words (bound_after cells published bound (pair_at words c.place_of-place.result)) words (c.clear_again.ensures.bound bound words there))

pub returns-clause-there : goal.returns-clause-there
returns-clause-there g c bound words there =
    subst (λ (i : ℕ). pair_at words i ≡ Some (commit_pair c.args.p c.args.c)) c.place_of-place.ensures.place (c.put_word.ensures.there bound words there)

pub returns-clause-elsewhere : goal.returns-clause-elsewhere
returns-clause-elsewhere g c place ne ready =
    let cells = c.args.store.now.cells in let published = length c.args.log.now.state.history in
    let keeps = keeps_ready is_of_words c.args.seat.now c.clear_again.new.seat _ _ (λ i pair. (refl, refl, refl)) c.clear_again.ensures.seat (λ bound words there. (bound_after cells published bound (pair_at words c.place_of-place.result), c.clear_again.ensures.bound bound words there, after_keeps cells published bound (pair_at words c.place_of-place.result))) in
    c.put_word.ensures.elsewhere published place (λ e. ne (e ∙ c.place_of-place.ensures.place)) (ready_still c.args.seat.now.knows c.clear_again.new.seat.knows cells published published keeps (omega arith) place ready)
