use Rattle.std.proofs.Common.{drop, ap, ◌∙◌}
use Rattle.std.specs.Option.{option_copied}
use Rattle.std.proofs.lemmas.List.{drop_all}
use Rattle.wp_model.specs.Flushed.{versions_under}
use Rattle.wp_cover.proofs.Shows.{change_noted, none_noted}
use Rattle.wp_cover.proofs.shown.note_changes.Goals as goal

pub loop-change-preserved : goal.loop-change-preserved
loop-change-preserved c = λ new after.
    c.loop-change.invariant new
    (change_noted c.args.decisions.now c.args.n c.args.number c.args.changes.now c.loop-change.change-index c.change-item.result c.bytes.result.now (option_copied c.bytes_of.result) c.loop-change.newest c.note.new.newest new c.loop-change-test.true c.change-item.is (c.bytes.ensures.value ∙ c.key.ensures) (c.bytes_of.ensures ∙ c.value.ensures) c.in_ok-note.ensures after)

pub returns : goal.returns
returns c =
    c.loop-change.invariant c.loop-change.newest
    (none_noted c.args.decisions.now c.args.n (versions_under c.args.number (drop c.loop-change.change-index c.args.changes.now)) c.loop-change.newest (ap (versions_under c.args.number) (drop_all c.loop-change.change-index c.args.changes.now c.loop-change-test.false)))
