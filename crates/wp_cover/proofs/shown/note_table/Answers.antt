use Rattle.std.proofs.Common.{List, subst, ◌∙◌}
use Rattle.wp_model.specs.declared.version.Version.{Version}
use Rattle.wp_table.specs.Borrowed.{seen}
use Rattle.wp_cover.specs.Shown.{Notes}
use Rattle.wp_cover.proofs.Shows.{none_noted, one_more}
use Rattle.wp_cover.proofs.shown.note_table.Goals as goal

pub loop-version-init : goal.loop-version-init
loop-version-init c = λ new after. subst (λ (vs : List Version). Notes c.args.decisions.now c.args.n vs c.args.newest.now new) (c.into_iter-version-iterator.ensures.into_iter_gives ∙ c.all-version-items.ensures.all) after

pub loop-version-preserved : goal.loop-version-preserved
loop-version-preserved c = λ new after.
    c.loop-version.invariant new
    (one_more c.args.decisions.now c.args.n c.loop-version.version-iterator c.next.new.self (seen c.in-Some.version) c.loop-version.newest c.note.new.newest new c.in-Some.ensures.steps c.in_ok-note.ensures after)

pub returns : goal.returns
returns c = c.loop-version.invariant c.loop-version.newest (none_noted c.args.decisions.now c.args.n c.loop-version.version-iterator c.loop-version.newest c.in-None.ensures.steps.0)
