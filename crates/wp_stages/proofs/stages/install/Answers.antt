use Rattle.std.proofs.Common.{◌≡◌, ◌≤◌, Option, Some, refl, sym, subst, ap, ◌∙◌}
use Rattle.std.specs.Prelude.{IfSome}
use Rattle.wp_model.specs.declared.segment.Segment.{Segment}
use Rattle.wp_model.specs.Flushed.{InstalledEdit, IsEditCovered}
use Rattle.wp_core.specs.Effects.{with_failed}
use Rattle.wp_core.specs.States.{Installed, writes, installed}
use Rattle.wp_model.proofs.Tests.{same_some}
use Rattle.wp_rule.specs.Knows.{NextNamed}
use Rattle.wp_parts.specs.VersionSet.{VersionSetState, asked_for}
use Rattle.wp_parts.specs.Installs.{IsBehind, SurvivesInstall}
use Rattle.wp_parts.specs.Log.{LogState, with_next, with_segment}
use Rattle.wp_shared.specs.Seats.{SeatState}
use Rattle.wp_maint.specs.Renewing.{SurvivesEdit}
use Rattle.wp_maint.proofs.Made.{second_held}
use Rattle.wp_stages.proofs.StageLemmas.{has_moved, has_stopped, next_named, more_tables}
use Rattle.wp_stages.proofs.stages.install.Goals as goal

pub find_edits-requires-clause-seat : goal.find_edits-requires-clause-seat
find_edits-requires-clause-seat g c = c.requires.holds.turn.same_table

pub find_edits-requires-clause-held : goal.find_edits-requires-clause-held
find_edits-requires-clause-held g c = let k = c.requires in let e = c.args.edits.now.state in (e, second_held c.args.seat.now.knows (writes (with_next c.args.log.now.state c.args.written.segment)) (installed e) k.holds.turn.held)

pub install-requires-clause-running : goal.install-requires-clause-running
install-requires-clause-running g c = c.requires.running

pub install-requires-clause-written : goal.install-requires-clause-written
install-requires-clause-written g c = (c.requires.before, c.requires.behind)

pub remember_renewal-requires-clause-held : goal.remember_renewal-requires-clause-held
remember_renewal-requires-clause-held g c =
    let k = c.requires in let e = c.args.edits.now.state in let d = c.args.log.now.state in let segment : Segment = c.args.written.segment in let next = asked_for c.args.edit.edit.asked segment e.last in
    let left = c.install.new.self.state in let is = subst (λ (x : Segment). c.install.new.self.state ≡ record c.args.edits.now.state { last = asked_for c.args.edit.edit.asked x c.args.edits.now.state.last }) c.segment.ensures c.in-Ok.ensures.installed in let last = ap (λ (x : Installed). x.last) is in
    let found = c.find_edits.ensures e (second_held c.args.seat.now.knows (writes (with_next d segment)) (installed e) k.holds.turn.held) in (
      e,
      with_next d segment,
      ap (λ (x : SeatState). x.knows.held) found.is ∙ k.holds.turn.held,
      is ∙ ap (λ (l : InstalledEdit). record e { last = l }) (sym last),
      refl,
      record {
        running = k.running;
        covered = subst (λ (x : SeatState × InstalledEdit). IsEditCovered x.0.knows.participant.seen x.1) (λ i. (sym found.is i, sym last i)) k.covered;
        next = subst (NextNamed (with_next d segment)) (sym last) (next_named d segment c.args.edit.edit.asked e.last k.unclosed k.waits.based k.flushed_is);
        tables = subst (λ (l : InstalledEdit). e.last.tables ≤ l.tables) (sym last) (more_tables c.args.edit.edit.asked segment e.last k.gone_is);
      },
    )

pub use_segment-requires-clause-running : goal.use_segment-requires-clause-running
use_segment-requires-clause-running g c = c.requires.unclosed

pub use_segment-requires-clause-nothing : goal.use_segment-requires-clause-nothing
use_segment-requires-clause-nothing g c = c.requires.nothing

pub use_segment-requires-clause-waits : goal.use_segment-requires-clause-waits
use_segment-requires-clause-waits g c = c.requires.waits

pub use_segment-requires-in-Ok-clause-held : goal.use_segment-requires-in-Ok-clause-held
use_segment-requires-in-Ok-clause-held g c =
    let k = c.requires in let e = c.args.edits.now.state in let log = c.args.log.now.state in let segment : Segment = c.args.written.segment in let d = with_next log segment in
    let found = c.find_edits.ensures e (second_held c.args.seat.now.knows (writes d) (installed e) k.holds.turn.held) in
    let goes = c.remember_renewal.ensures.goes d e (ap (λ (x : SeatState). x.knows.held) found.is ∙ k.holds.turn.held) in
    let at : c.install.new.self.state.last.segment ≡ segment = ap (λ (x : Installed). x.last.segment) (subst (λ (x : Segment). c.install.new.self.state ≡ record c.args.edits.now.state { last = asked_for c.args.edit.edit.asked x c.args.edits.now.state.last }) c.segment.ensures c.in-Ok.ensures.installed) in (
      d,
      ap (λ (x : SeatState). x.knows.held) goes.same,
      k.unclosed,
      ap Some (sym at),
      c.use_segment.ensures.table ∙ ap (λ (x : Segment). with_segment log x) (sym at),
    )

pub returns-in-Ok-clause-leaves : goal.returns-in-Ok-clause-leaves
returns-in-Ok-clause-leaves g c =
    let told = c.requires in let s = c.args.seat.now in let e = c.args.edits.now in let left = c.install.new.self in let log = c.args.log.now in
    let d = with_next log.state c.args.written.segment in
    let k = c.find_edits.ensures e.state (second_held s.knows (writes d) (installed e.state) told.holds.turn.held) in
    has_moved c.args.store.now s c.find_edits.new.seat c.remember_renewal.new.seat c.use_segment-in-Ok.new.seat e left log c.use_segment.new.self d told.holds k
    (c.remember_renewal.ensures.goes d e.state (ap (λ (x : SeatState). x.knows.held) k.is ∙ told.holds.turn.held)) c.use_segment-in-Ok.ensures.goes c.args.written c.args.edit
    (subst (λ (x : Segment). left.state ≡ record e.state { last = asked_for c.args.edit.edit.asked x e.state.last }) c.segment.ensures c.in-Ok.ensures.installed)
    c.use_segment.ensures.table c.use_segment.ensures.device c.in-Ok.ensures.first c.use_segment.ensures.first c.in-Ok.ensures.parts
    (subst (λ (x : Segment). (before : VersionSetState) → IsBehind before e c.args.edit → SurvivesInstall before left (asked_for c.args.edit.edit.asked x e.state.last)) c.segment.ensures c.in-Ok.ensures.survives)
    c.devices_agree-in-Ok.ensures.edits c.devices_agree-in-Ok-2.ensures.log c.use_segment-in-Ok.ensures.stands

pub remember_tables_fault-requires-clause-held : goal.remember_tables_fault-requires-clause-held
remember_tables_fault-requires-clause-held g c =
    let k = c.requires in let e = c.args.edits.now.state in let left = c.install.new.self.state in let segment : Segment = c.args.written.segment in let d = with_next c.args.log.now.state segment in
    let next = asked_for c.args.edit.edit.asked segment e.last in
    let found = c.find_edits.ensures e (second_held c.args.seat.now.knows (writes d) (installed e) k.holds.turn.held) in
    let halted = subst (λ (x : Segment). c.install.new.self.state ≡ with_failed c.args.edits.now.state (Some (asked_for c.args.edit.edit.asked x c.args.edits.now.state.last))) c.segment.ensures c.in-Err.ensures.refused in let asked : left.failed ≡ Some next = ap (λ (x : Installed). x.failed) halted in
    let t = c.find_edits.new.seat in (
      e,
      d,
      ap (λ (x : SeatState). x.knows.held) found.is ∙ k.holds.turn.held,
      halted ∙ ap (with_failed e) (sym asked),
      k.running,
      subst (λ (o : Option InstalledEdit). IfSome o (λ edit. IsEditCovered t.knows.participant.seen edit × NextNamed d edit)) (sym asked)
          (subst (λ (x : SeatState). IsEditCovered x.knows.participant.seen next) (sym found.is) k.covered, next_named c.args.log.now.state segment c.args.edit.edit.asked e.last k.unclosed k.waits.based k.flushed_is),
    )

pub remember_stop-requires-clause-held : goal.remember_stop-requires-clause-held
remember_stop-requires-clause-held g c =
    let k = c.requires in let e = c.args.edits.now.state in let left = c.install.new.self.state in let segment : Segment = c.args.written.segment in let d = with_next c.args.log.now.state segment in
    let found = c.find_edits.ensures e (second_held c.args.seat.now.knows (writes d) (installed e) k.holds.turn.held) in
    let goes = c.remember_tables_fault.ensures.goes d e (ap (λ (x : SeatState). x.knows.held) found.is ∙ k.holds.turn.held) in
    let halted = subst (λ (x : Segment). c.install.new.self.state ≡ with_failed c.args.edits.now.state (Some (asked_for c.args.edit.edit.asked x c.args.edits.now.state.last))) c.segment.ensures c.in-Err.ensures.refused in (
      d,
      ap (λ (x : SeatState). x.knows.held) goes.same,
      ap (λ (l : LogState). l.state) c.stop_with.ensures,
      k.unclosed,
      k.nothing,
      (λ is. k.apart (ap (λ (x : Segment). x.place) (same_some segment left.last.segment is ∙ ap (λ (x : Installed). x.last.segment) halted ∙ k.coupled))),
      ap (λ (x : Installed). x.halted) halted,
    )

pub returns-in-Err-clause-leaves : goal.returns-in-Err-clause-leaves
returns-in-Err-clause-leaves g c =
    let told = c.requires in let s = c.args.seat.now in let e = c.args.edits.now in let left = c.install.new.self in let log = c.args.log.now in
    let segment : Segment = c.args.written.segment in let d = with_next log.state segment in
    let asked : Option InstalledEdit = Some (asked_for c.args.edit.edit.asked segment e.state.last) in
    let k = c.find_edits.ensures e.state (second_held s.knows (writes d) (installed e.state) told.holds.turn.held) in
    let halted : left.state ≡ with_failed e.state asked = subst (λ (x : Segment). left.state ≡ with_failed e.state (Some (asked_for c.args.edit.edit.asked x e.state.last))) c.segment.ensures c.in-Err.ensures.refused in
    has_stopped c.args.store.now s c.find_edits.new.seat c.remember_tables_fault.new.seat c.remember_stop.new.seat e left log c.stop_with.new.self d told.holds k asked
    (ap (λ (x : Installed). x.last) halted) (ap (λ (x : Installed). x.failed) halted)
    (c.remember_tables_fault.ensures.goes d e.state (ap (λ (x : SeatState). x.knows.held) k.is ∙ told.holds.turn.held)) c.remember_stop.ensures.goes
    (SurvivesEdit c.args.written c.args.edit) halted c.stop_with.ensures c.in-Err.ensures.first c.in-Err.ensures.cause
    (subst (λ (x : Segment). (before : VersionSetState) → IsBehind before e c.args.edit → SurvivesInstall before left (asked_for c.args.edit.edit.asked x e.state.last)) c.segment.ensures c.in-Err.ensures.survives)
    c.devices_agree.ensures.edits c.devices_agree-in-Err.ensures.edits c.devices_agree-2.ensures.log c.devices_agree-in-Err-2.ensures.log c.remember_stop.ensures.stands

pub remember_renewal-requires-clause-seat : goal.remember_renewal-requires-clause-seat
remember_renewal-requires-clause-seat g c = let k = c.requires in let e = c.args.edits.now.state in
    ap (λ (x : SeatState). x.table) (c.find_edits.ensures e (second_held c.args.seat.now.knows (writes (with_next c.args.log.now.state c.args.written.segment)) (installed e) k.holds.turn.held)).is ∙ k.holds.turn.same_table

pub remember_tables_fault-requires-clause-seat : goal.remember_tables_fault-requires-clause-seat
remember_tables_fault-requires-clause-seat g c = let k = c.requires in let e = c.args.edits.now.state in
    ap (λ (x : SeatState). x.table) (c.find_edits.ensures e (second_held c.args.seat.now.knows (writes (with_next c.args.log.now.state c.args.written.segment)) (installed e) k.holds.turn.held)).is ∙ k.holds.turn.same_table

pub use_segment-requires-in-Ok-clause-seat : goal.use_segment-requires-in-Ok-clause-seat
use_segment-requires-in-Ok-clause-seat g c = let k = c.requires in let e = c.args.edits.now.state in let d = with_next c.args.log.now.state c.args.written.segment in
    let found = c.find_edits.ensures e (second_held c.args.seat.now.knows (writes d) (installed e) k.holds.turn.held) in
    let goes = c.remember_renewal.ensures.goes d e (ap (λ (x : SeatState). x.knows.held) found.is ∙ k.holds.turn.held) in
    ap (λ (x : SeatState). x.table) goes.same ∙ ap (λ (x : SeatState). x.table) found.is ∙ k.holds.turn.same_table

pub remember_stop-requires-clause-seat : goal.remember_stop-requires-clause-seat
remember_stop-requires-clause-seat g c = let k = c.requires in let e = c.args.edits.now.state in let d = with_next c.args.log.now.state c.args.written.segment in
    let found = c.find_edits.ensures e (second_held c.args.seat.now.knows (writes d) (installed e) k.holds.turn.held) in
    let goes = c.remember_tables_fault.ensures.goes d e (ap (λ (x : SeatState). x.knows.held) found.is ∙ k.holds.turn.held) in
    ap (λ (x : SeatState). x.table) goes.same ∙ ap (λ (x : SeatState). x.table) found.is ∙ k.holds.turn.same_table
