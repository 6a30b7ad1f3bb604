use Rattle.std.proofs.Common.{◌<◌, sym, ap, ◌∙◌, arith}
use Rattle.wp_model.specs.Decision.{entry_version}
use Rattle.wp_cover.proofs.Places.{none_later, own_later}
use Rattle.wp_cover.proofs.sources.later_version.Goals as goal

pub returns-then-number-flushed : goal.returns-then-number-flushed
returns-then-number-flushed c = sym (none_later c.args.history.now.entries c.args.flushed c.args.key.now c.args.number c.if-number-flushed.true)

pub returns : goal.returns
returns c =
    let above : c.args.flushed < c.args.number = omega (arith, c.if-number-flushed.false) in
    c.entry_version.ensures
    ∙ ap (entry_version c.args.history.now.entries c.args.number) c.bytes.ensures.value
    ∙ sym (own_later c.args.history.now.entries c.args.flushed c.args.key.now c.args.number above)
