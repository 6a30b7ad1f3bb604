use Rattle.std.proofs.Common.{◌≡◌, false, true, sym, subst, ap, ◌∙◌}
use Rattle.wp_tableset.specs.declared.gone.Gone.{Gone}
use Rattle.wp_core.specs.Views.{nothing_flushed}
use Rattle.wp_core.specs.Views as event
use Rattle.wp_rule.specs.Knows.{KnowsInstalled, Noted}
use Rattle.wp_shared.specs.Seats.{SeatState}
use Rattle.wp_maint.specs.Finding.{Changes}
use Rattle.wp_maint.specs.Holding.{is_of_flushed}
use Rattle.wp_maint.specs.Installs.{is_compaction}
use Rattle.wp_maint.proofs.Found.{held_first, held_still, then_changes, knows_still}
use Rattle.wp_maint.proofs.steps.remember_install.Goals as goal

pub find_edits-requires-clause-held : goal.find_edits-requires-clause-held
find_edits-requires-clause-held g c = let h = c.requires.held in (h.0, held_first c.args.seat.now h.0 h.1)

pub remember_flush-requires-clause-seat : goal.remember_flush-requires-clause-seat
remember_flush-requires-clause-seat g c =
    let h = c.requires.held in (held_still c.args.store.now c.args.seat.now c.find_edits.new.seat h.0 h.1 (c.find_edits.ensures h.0 (held_first c.args.seat.now h.0 h.1))).0 ∙ c.requires.seat.0

pub remember_flush-requires-clause-held : goal.remember_flush-requires-clause-held
remember_flush-requires-clause-held g c =
    let h = c.requires.held in let k = c.find_edits.ensures h.0 (held_first c.args.seat.now h.0 h.1) in let u = c.find_edits.new.seat in let last = c.args.edits.now.state.last in
    (h.0, (held_still c.args.store.now c.args.seat.now u h.0 h.1 k).1, h.2, subst (λ (x : Gone). KnowsInstalled u.knows h.0 last (is_compaction x)) c.in-Frozen.is (knows_still c.args.store.now c.args.seat.now u h.0 k h.0 last (is_compaction c.args.gone) h.3))

pub remember_compaction-requires-clause-seat : goal.remember_compaction-requires-clause-seat
remember_compaction-requires-clause-seat g c =
    let h = c.requires.held in let k = c.find_edits.ensures h.0 (held_first c.args.seat.now h.0 h.1) in
    ((held_still c.args.store.now c.args.seat.now c.find_edits.new.seat h.0 h.1 k).0 ∙ c.requires.seat.0, ap (λ (s : SeatState). s.knows.live) k.is ∙ c.requires.seat.1)

pub remember_compaction-requires-clause-held : goal.remember_compaction-requires-clause-held
remember_compaction-requires-clause-held g c =
    let h = c.requires.held in let k = c.find_edits.ensures h.0 (held_first c.args.seat.now h.0 h.1) in let u = c.find_edits.new.seat in let last = c.args.edits.now.state.last in
    (h.0, (held_still c.args.store.now c.args.seat.now u h.0 h.1 k).1, h.2, subst (λ (x : Gone). KnowsInstalled u.knows h.0 last (is_compaction x)) c.in-Tables.is (knows_still c.args.store.now c.args.seat.now u h.0 k h.0 last (is_compaction c.args.gone) h.3))

pub remember_compaction-requires-clause-gone : goal.remember_compaction-requires-clause-gone
remember_compaction-requires-clause-gone g c =
    let h = c.requires.held in let k = c.find_edits.ensures h.0 (held_first c.args.seat.now h.0 h.1) in
    subst (λ (s : SeatState). Noted s.knows nothing_flushed) (sym k.is) (c.requires.gone c.in-Tables.is)

pub returns-in-Frozen-clause-changes : goal.returns-in-Frozen-clause-changes
returns-in-Frozen-clause-changes g c t held =
    let left = c.args.edits.now.state in
    subst (λ (x : Gone). Changes c.args.store.now c.args.seat.now t left (event.installed left.last (is_compaction x)) is_of_flushed c.remember_flush.new.seat) (sym c.in-Frozen.is)
    (then_changes c.args.store.now c.args.seat.now c.find_edits.new.seat c.remember_flush.new.seat t (c.find_edits.ensures t (held_first c.args.seat.now t held)) left (event.installed left.last false) _ c.remember_flush.ensures.goes)

pub returns-in-Frozen-clause-gone : goal.returns-in-Frozen-clause-gone
returns-in-Frozen-clause-gone g c is = let none : false ≡ true = ap is_compaction (sym c.in-Frozen.is ∙ is) in absurd cc

pub returns-in-Tables-clause-changes : goal.returns-in-Tables-clause-changes
returns-in-Tables-clause-changes g c t held =
    let left = c.args.edits.now.state in
    subst (λ (x : Gone). Changes c.args.store.now c.args.seat.now t left (event.installed left.last (is_compaction x)) is_of_flushed c.remember_compaction.new.seat) (sym c.in-Tables.is)
    (then_changes c.args.store.now c.args.seat.now c.find_edits.new.seat c.remember_compaction.new.seat t (c.find_edits.ensures t (held_first c.args.seat.now t held)) left (event.installed left.last true) _ c.remember_compaction.ensures.goes)
