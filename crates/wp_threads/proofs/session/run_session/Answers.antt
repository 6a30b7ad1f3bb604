use Rattle.std.proofs.Common.{List, [], sym, subst}
use Rattle.wp_text.specs.declared.script.Command.{Command}
use Rattle.wp_client.specs.Holdings.{HoldingsState, Holds}
use Rattle.wp_threads.specs.Came.{HasComeTo}
use Rattle.wp_threads.specs.SoFar.{IsSessionSoFar}
use Rattle.wp_threads.proofs.Begun.{holds_new, goes_new}
use Rattle.wp_threads.proofs.Leaving.{came_over}
use Rattle.wp_threads.proofs.session.run_session.Goals as goal

pub answer_all-answers-requires : goal.answer_all-answers-requires
answer_all-answers-requires g c = subst (λ (h : HoldingsState). Holds c.args.store.now c.args.seat.now h) (sym c.new-held.ensures) (holds_new c.args.store.now c.args.part.now.client c.args.seat.now c.requires)

pub returns-clause-over : goal.returns-clause-over
returns-clause-over g c = λ found is_found.
    let begun = subst (λ (h : HoldingsState). IsSessionSoFar c.args.store.now found c.args.part.now.client [] [] c.args.seat.now h) (sym c.new-held.ensures) (goes_new c.args.store.now found is_found c.args.part.now.client c.args.seat.now c.requires) in
    let came = c.answer_all-answers.ensures.came found c.args.part.now.client is_found begun in
    came_over c.args.store.now found c.args.part.now c.answer_all-answers.result c.answer_all-answers.new.seat c.end.new.seat c.answer_all-answers.new.held
    (subst (λ (commands : List Command). HasComeTo c.args.store.now found c.args.part.now.client commands c.answer_all-answers.result c.answer_all-answers.new.seat c.answer_all-answers.new.held) c.as_slice-commands.ensures came) c.end.ensures
