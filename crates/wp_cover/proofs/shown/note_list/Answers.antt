use Rattle.std.proofs.Common.{◌∷◌, ◌+◌, List, drop, sym, ap, subst, ◌∙◌}
use Rattle.std.proofs.lemmas.List.{drop_all}
use Rattle.wp_model.specs.declared.version.Version.{Version}
use Rattle.wp_table.specs.Borrowed.{seen}
use Rattle.wp_cover.specs.Shown.{Notes}
use Rattle.wp_cover.proofs.Places.{next_item}
use Rattle.wp_cover.proofs.Shows.{none_noted, one_more}
use Rattle.wp_cover.proofs.shown.note_list.Goals as goal

pub loop-version-init : goal.loop-version-init
loop-version-init c = λ new after. subst (λ (vs : List Version). Notes c.args.decisions.now c.args.n vs c.args.newest.now new) c.as_slice-version-items.ensures.value after

pub loop-version-preserved : goal.loop-version-preserved
loop-version-preserved c = λ new after.
    let items = c.as_slice-version-items.result.now in
    let rest = drop (c.loop-version.version-index + 1) items in
    let cut = next_item items c.loop-version.version-index c.version-item.result c.loop-version-test.true c.version-item.is ∙ ap (λ (v : Version). v ∷ rest) (sym c.of.ensures) in
    c.loop-version.invariant new
    (one_more c.args.decisions.now c.args.n (drop c.loop-version.version-index items) rest (seen c.of.result) c.loop-version.newest c.note.new.newest new cut c.in_ok-note.ensures after)

pub returns : goal.returns
returns c =
    let items = c.as_slice-version-items.result.now in
    c.loop-version.invariant c.loop-version.newest
    (none_noted c.args.decisions.now c.args.n (drop c.loop-version.version-index items) c.loop-version.newest (drop_all c.loop-version.version-index items c.loop-version-test.false))
