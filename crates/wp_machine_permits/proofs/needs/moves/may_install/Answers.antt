use Rattle.std.proofs.Common.{sym, ap, ◌∙◌}
use Rattle.wp_core.specs.World.{World}
use Rattle.wp_machine_permits.proofs.needs.moves.may_install.Goals as goal

pub returns : goal.returns
returns c =
    let halted = sym (c.is_halted.ensures ∙ ap (λ (w : World). w.installed.halted) c.world.view_is) ∙ c.if-is_halted.false in
    let failed = c.failed.ensures ∙ ap (λ (w : World). w.installed.failed) c.world.view_is in
    let last = c.last.ensures ∙ ap (λ (w : World). w.installed.last) c.world.view_is in
    let stored = rw failed at c.in_ok-yes.ensures in
    let flush = rw last at (c.follows.ensures.flush c.if-not-follows.false) in
    let compaction = rw last at (c.follows.ensures.compaction c.if-not-follows.false) in
    let rises = rw last at (c.follows.ensures.rises c.if-not-follows.false) in
    let segment = rw last at (c.follows.ensures.segment c.if-not-follows.false) in
    λ a e. (c.holds_tables.ensures.0 c.if-not-holds_tables.false, halted, stored c.args.world.now.installed.halted e, flush, compaction, rises, segment)
