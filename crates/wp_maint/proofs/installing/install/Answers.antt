use Rattle.std.proofs.Common.{◌≡◌, sym, subst, ap, ◌∙◌}
use Rattle.wp_tableset.specs.declared.gone.Gone.{Gone}
use Rattle.wp_model.specs.Flushed.{InstalledEdit, IsEditCovered}
use Rattle.wp_core.specs.States.{Installed}
use Rattle.wp_core.specs.Views.{nothing_flushed, tables_failed}
use Rattle.wp_core.specs.Views as event
use Rattle.wp_rule.specs.Knows.{KnowsInstalled}
use Rattle.wp_shared.specs.Notes.{no_fact}
use Rattle.wp_maint.specs.Finding.{Changes}
use Rattle.wp_maint.specs.Holding.{is_of_flushed}
use Rattle.wp_maint.specs.Installs.{is_compaction, next_of}
use Rattle.wp_maint.proofs.Found.{failed_last}
use Rattle.wp_maint.proofs.Installed.{asked_of, still_holds}
use Rattle.wp_maint.proofs.installing.install.Goals as goal

pub write_edit-requires-clause-running : goal.write_edit-requires-clause-running
write_edit-requires-clause-running g c = c.requires.may.knows.running

pub remember_install-requires-clause-held : goal.remember_install-requires-clause-held
remember_install-requires-clause-held g c =
    let t = c.args.edits.now.state in let asked = c.args.edit.edit.asked in let is = c.in-Ok.ensures.installed in let last = ap (λ (x : Installed). x.last) is in (
      t,
      c.requires.holds.turn.held,
      is ∙ ap (λ (l : InstalledEdit). record t { last = l }) (sym last),
      subst (λ (x : InstalledEdit × Gone). KnowsInstalled c.args.seat.now.knows t x.0 (is_compaction x.1)) (λ i. (sym last i, sym c.gone-gone.ensures i)) c.requires.may.knows,
    )

pub remember_install-requires-clause-gone : goal.remember_install-requires-clause-gone
remember_install-requires-clause-gone g c is = c.requires.may.gone (sym c.gone-gone.ensures ∙ is)

pub halt-requires-clause-held : goal.halt-requires-clause-held
halt-requires-clause-held g c = (c.args.edits.now.state, c.requires.holds.turn.held, c.in-Err.ensures.refused.0, c.requires.may.knows.running)

pub halt-requires-clause-covered : goal.halt-requires-clause-covered
halt-requires-clause-covered g c =
    asked_of (IsEditCovered c.args.seat.now.knows.participant.seen) (next_of c.args.edit.edit.asked c.args.edits.now.state.last) c.write_edit.new.edits.state.failed c.requires.may.knows.covered c.in-Err.ensures.refused.1

pub halt-requires-clause-segment : goal.halt-requires-clause-segment
halt-requires-clause-segment g c =
    let t = c.args.edits.now.state in let left = c.write_edit.new.edits.state in
    asked_of (λ edit. edit.segment ≡ left.last.segment) (next_of c.args.edit.edit.asked t.last) left.failed (ap (λ (l : InstalledEdit). l.segment) (sym (ap (λ (x : Installed). x.last) c.in-Err.ensures.refused.0 ∙ failed_last t left.failed))) c.in-Err.ensures.refused.1

pub returns-in-Ok-clause-installed : goal.returns-in-Ok-clause-installed
returns-in-Ok-clause-installed g c =
    let z = c.args.store.now in let s = c.args.seat.now in let u = c.remember_install.new.seat in let e = c.args.edits.now in let left = c.write_edit.new.edits in
    let is = c.in-Ok.ensures.installed in let last = ap (λ (x : Installed). x.last) is in let changes = c.remember_install.ensures.changes e.state c.requires.holds.turn.held in record {
      state = is;
      holds = still_holds z s u e left _ is_of_flushed c.requires.holds changes.goes c.in-Ok.ensures.first;
      changes = subst (λ (x : InstalledEdit × Gone). Changes z s e.state left.state (event.installed x.0 (is_compaction x.1)) is_of_flushed u) (λ i. (last i, c.gone-gone.ensures i)) changes;
      survives = c.in-Ok.ensures.survives;
      edits = c.devices_agree.ensures.edits;
      still_edits = c.devices_agree-in-Ok.ensures.edits;
      stands = c.remember_install.ensures.stands;
    }

pub returns-in-Ok-clause-gone : goal.returns-in-Ok-clause-gone
returns-in-Ok-clause-gone g c is = c.remember_install.ensures.gone (c.gone-gone.ensures ∙ is)

pub returns-in-Err-clause-refused : goal.returns-in-Err-clause-refused
returns-in-Err-clause-refused g c =
    let z = c.args.store.now in let s = c.args.seat.now in let u = c.halt.new.seat in let e = c.args.edits.now in let left = c.write_edit.new.edits in let k = c.in-Err.ensures.refused in
    let changes = c.halt.ensures.changes e.state c.requires.holds.turn.held in record {
      state = k.0;
      asked = k.1;
      holds = still_holds z s u e left _ no_fact c.requires.holds changes.goes c.in-Err.ensures.first;
      changes = subst (λ (l : InstalledEdit). Changes z s e.state left.state (tables_failed l left.state.failed) no_fact u) (ap (λ (x : Installed). x.last) k.0 ∙ failed_last e.state left.state.failed) changes;
      fault = c.in-Err.ensures.cause;
      survives = c.in-Err.ensures.survives;
      edits = c.devices_agree.ensures.edits;
      still_edits = c.devices_agree-in-Err.ensures.edits;
      stands = c.halt.ensures.stands;
    }
