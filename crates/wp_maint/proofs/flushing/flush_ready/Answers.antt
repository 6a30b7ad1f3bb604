use Rattle.std.proofs.Common.{List, subst, ap, ◌∙◌}
use Rattle.std.specs.Arc.{arc_value}
use Rattle.std.specs.Option.{option_map}
use Rattle.wp_tableset.specs.Changes.{Asked, one_part}
use Rattle.wp_core.specs.States.{Content}
use Rattle.wp_shared.specs.Notes.{GoesOn}
use Rattle.wp_shared.proofs.Onward.{holds_on}
use Rattle.wp_maint.specs.Holding.{is_of_tables}
use Rattle.wp_maint.proofs.Found.{in_step_broken}
use Rattle.wp_maint.proofs.Installed.{may_flush}
use Rattle.wp_maint.proofs.Flushed.{as_flushed, broke_flush, may_put, has_flushed, newest, not_flushed}
use Rattle.wp_maint.proofs.Puts.{tables_alone}
use Rattle.wp_maint.proofs.flushing.flush_ready.Goals as goal

pub install-requires-clause-ready : goal.install-requires-clause-ready
install-requires-clause-ready g c = c.requires.ready.0.ready

pub install-requires-clause-may : goal.install-requires-clause-may
install-requires-clause-may g c = let r = c.args.ready in let k = c.requires.ready in
    may_flush c.args.seat.now.knows c.args.edits.now.state r.frozen r.edit.edit.asked k.0.frozen k.1 k.0.asked c.requires.running

pub put_table-requires-clause-holds : goal.put_table-requires-clause-holds
put_table-requires-clause-holds g c = tables_alone c.in-Ok.ensures.installed.holds

pub put_table-requires-clause-may : goal.put_table-requires-clause-may
put_table-requires-clause-may g c =
    let r = c.args.ready in let k = c.requires.ready in let e = c.args.edits.now in
    may_put c.args.store.now c.args.seat.now c.install.new.seat e c.install.new.edits r.frozen k.0.frozen (option_map arc_value c.in-Ok.table) (c.in-Ok.ensures.table ∙ ap (λ (x : Asked). one_part x.versions) k.0.asked)
    (as_flushed c.args.store.now c.args.seat.now c.install.new.seat e c.install.new.edits r.frozen r.edit.edit.asked k.0.frozen k.1 k.0.asked c.in-Ok.ensures.installed) c.requires.in_step

pub returns-in-Ok-clause-holds : goal.returns-in-Ok-clause-holds
returns-in-Ok-clause-holds g c = let h = c.in-Ok.ensures.installed.holds in record { turn = holds_on h.turn c.put_table.ensures.goes; of_store = h.of_store }

pub returns-in-Ok-clause-says : goal.returns-in-Ok-clause-says
returns-in-Ok-clause-says g c =
    let r = c.args.ready in let k = c.requires.ready in let e = c.args.edits.now in let left = c.install.new.edits in
    let done = as_flushed c.args.store.now c.args.seat.now c.install.new.seat e left r.frozen r.edit.edit.asked k.0.frozen k.1 k.0.asked c.in-Ok.ensures.installed in
    has_flushed c.args.store.now c.args.seat.now c.install.new.seat e left r.frozen k.0.frozen k.1 done c.requires.holds c.requires.whole (newest e left r.frozen r.edit.edit.asked k.1 k.0.asked c.in-Ok.ensures.parts) c.put_table.new.seat _
    (subst (λ (l : List Content). GoesOn is_of_tables l c.install.new.seat.turns c.install.new.seat c.put_table.new.seat) done.holds.turn.held c.put_table.ensures.goes) c.requires.running r.versions k.0.count

pub returns-in-Err-clause-in_step : goal.returns-in-Err-clause-in_step
returns-in-Err-clause-in_step g c = in_step_broken c.args.store.now c.args.seat.now c.install.new.seat c.args.edits.now c.install.new.edits _ c.in-Err.ensures.refused c.requires.in_step

pub returns-in-Err-clause-says : goal.returns-in-Err-clause-says
returns-in-Err-clause-says g c =
    let r = c.args.ready in let k = c.requires.ready in let e = c.args.edits.now in let left = c.install.new.edits in
    not_flushed c.args.store.now c.args.seat.now c.install.new.seat e left r.frozen k.0.frozen k.1 (broke_flush c.args.store.now c.args.seat.now c.install.new.seat e left r.frozen r.edit.edit.asked k.0.frozen k.1 k.0.asked c.in-Err.ensures.refused) c.requires.holds c.requires.whole c.requires.running
