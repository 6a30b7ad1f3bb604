use Rattle.std.proofs.Common.{ap, ◌∙◌}
use Rattle.std.proofs.lemmas.List.{take_all}
use Rattle.std.specs.List.{flat_map}
use Rattle.wp_model.specs.History.{entry_at, undecided}
use Rattle.wp_history_laws.specs.Prepares.{prepare_of}
use Rattle.wp_history_laws.proofs.Opened.{keys_left}
use Rattle.wp_machine.proofs.Opened.{pieces_more}
use Rattle.wp_machine.proofs.left.keys_left.Goals as goal

pub loop-p-preserved : goal.loop-p-preserved
loop-p-preserved c =
    let es = c.args.history.now.entries in
    pieces_more (λ p. keys_left (prepare_of (entry_at es p))) c.undecided-p-items.result.now (undecided es) c.loop-p.p-index _ _ _ c.undecided-p-items.ensures c.loop-p-test.true c.loop-p.invariant (ap keys_left c.prepare_at.ensures) c.in_ok-push_keys.ensures

pub returns : goal.returns
returns c =
    let es = c.args.history.now.entries in
    c.loop-p.invariant ∙ ap (flat_map (λ p. keys_left (prepare_of (entry_at es p)))) (take_all c.loop-p.p-index (undecided es) (rw c.undecided-p-items.ensures at c.loop-p-test.false))
