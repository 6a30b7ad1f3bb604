use Rattle.std.proofs.Common.{◌≡◌, true, [], ◌∷◌, Option, Some, None, refl, sym, subst, ap, ◌∙◌}
use Rattle.std.specs.Prelude.{IfSome}
use Rattle.wp_model.specs.declared.segment.Segment.{Segment}
use Rattle.wp_model.specs.Flushed.{InstalledEdit, IsEditCovered}
use Rattle.wp_rule.specs.Knows.{NextNamed}
use Rattle.wp_core.specs.Effects.{with_failed}
use Rattle.wp_core.specs.States.{Installed, writes, installed}
use Rattle.wp_parts.specs.Installs.{SurvivesWrite}
use Rattle.wp_parts.specs.Log.{LogState}
use Rattle.wp_shared.specs.Seats.{SeatState}
use Rattle.wp_shared.specs.Turns.{HoldsTurn}
use Rattle.wp_maint.specs.Calls.{IsUncalled}
use Rattle.wp_maint.proofs.Made.{second_held}
use Rattle.wp_stages.proofs.StageLemmas.{has_stopped, none_waits, waits_not}
use Rattle.wp_stages.proofs.stages.write_table.Goals as goal

pub returns-in-Ok-clause-writes : goal.returns-in-Ok-clause-writes
returns-in-Ok-clause-writes g c =
    let z = c.args.store.now in let s = c.args.seat.now in let log = c.args.log.now in let h = c.requires.holds in let same = c.in-Ok.ensures.written.0 in (
      refl,
      refl,
      same,
      record {
        turn = subst (λ (t : Installed). HoldsTurn z s (writes log.state) (installed t ∷ []) (5 ∷ [])) (sym same) h.turn;
        edits_of_store = h.edits_of_store ∙ ap Some (sym c.in-Ok.ensures.first);
        log_of_store = h.log_of_store;
      },
      c.in-Ok.ensures.written.1,
      c.in-Ok.ensures.asked,
      c.in-Ok.ensures.survives,
    )

pub find_edits-requires-clause-held : goal.find_edits-requires-clause-held
find_edits-requires-clause-held g c = let e = c.args.edits.now.state in (e, second_held c.args.seat.now.knows (writes c.args.log.now.state) (installed e) c.requires.holds.turn.held)

pub remember_tables_fault-requires-clause-held : goal.remember_tables_fault-requires-clause-held
remember_tables_fault-requires-clause-held g c =
    let e = c.args.edits.now.state in let d = c.args.log.now.state in let left = c.write_table.new.self.state in
    let k = c.find_edits.ensures e (second_held c.args.seat.now.knows (writes d) (installed e) c.requires.holds.turn.held) in
    let halted = c.in-Err.ensures.refused in
    let none : left.failed ≡ None = ap (λ (t : Installed). t.failed) halted ∙ c.devices_agree.ensures.edits.none_failed (c.devices_agree.ensures.edits.running c.requires.running.0) in (
      e,
      d,
      ap (λ (x : SeatState). x.knows.held) k.is ∙ c.requires.holds.turn.held,
      halted ∙ ap (with_failed e) (sym none),
      c.requires.running.0,
      subst (λ (o : Option InstalledEdit). IfSome o (λ edit. IsEditCovered c.find_edits.new.seat.knows.participant.seen edit × NextNamed d edit)) (sym none) tt,
    )

pub remember_stop-requires-clause-held : goal.remember_stop-requires-clause-held
remember_stop-requires-clause-held g c =
    let e = c.args.edits.now.state in let d = c.args.log.now.state in let left = c.write_table.new.self.state in
    let k = c.find_edits.ensures e (second_held c.args.seat.now.knows (writes d) (installed e) c.requires.holds.turn.held) in
    let halted = c.in-Err.ensures.refused in
    let goes = c.remember_tables_fault.ensures.goes d e (ap (λ (x : SeatState). x.knows.held) k.is ∙ c.requires.holds.turn.held) in (
      d,
      ap (λ (x : SeatState). x.knows.held) goes.same,
      ap (λ (l : LogState). l.state) c.stop.ensures,
      c.requires.running.1,
      c.requires.running.2,
      waits_not d left.last.segment (none_waits d c.devices_agree-2.ensures.next c.requires.running.1),
      ap (λ (t : Installed). t.halted) halted,
    )

pub returns-in-Err-clause-writes : goal.returns-in-Err-clause-writes
returns-in-Err-clause-writes g c =
    let z = c.args.store.now in let s = c.args.seat.now in let e = c.args.edits.now in let log = c.args.log.now in let holds = c.requires.holds in
    let k = c.find_edits.ensures e.state (second_held s.knows (writes log.state) (installed e.state) holds.turn.held) in
    let halted = c.in-Err.ensures.refused in
    has_stopped z s c.find_edits.new.seat c.remember_tables_fault.new.seat c.remember_stop.new.seat e c.write_table.new.self log c.stop.new.self log.state holds k None
    (ap (λ (x : Installed). x.last) halted) (ap (λ (x : Installed). x.failed) halted ∙ c.devices_agree.ensures.edits.none_failed (c.devices_agree.ensures.edits.running c.requires.running.0))
    (c.remember_tables_fault.ensures.goes log.state e.state (ap (λ (x : SeatState). x.knows.held) k.is ∙ holds.turn.held)) c.remember_stop.ensures.goes
    (λ before after. SurvivesWrite before after c.args.edit.edit.asked × IsUncalled before after) halted
    (c.stop.ensures ∙ ap (λ (o : Option Segment). record log { state = record log.state { next = o; closed = true; stopped = true } }) (none_waits log.state c.devices_agree-2.ensures.next c.requires.running.1))
    c.in-Err.ensures.first c.in-Err.ensures.cause (c.in-Err.ensures.survives, c.in-Err.ensures.manifest)
    c.devices_agree.ensures.edits c.devices_agree-in-Err.ensures.edits c.devices_agree-2.ensures.log c.devices_agree-in-Err-2.ensures.log c.remember_stop.ensures.stands

pub remember_tables_fault-requires-clause-seat : goal.remember_tables_fault-requires-clause-seat
remember_tables_fault-requires-clause-seat g c = let e = c.args.edits.now.state in
    ap (λ (x : SeatState). x.table) (c.find_edits.ensures e (second_held c.args.seat.now.knows (writes c.args.log.now.state) (installed e) c.requires.holds.turn.held)).is ∙ c.requires.holds.turn.same_table

pub remember_stop-requires-clause-seat : goal.remember_stop-requires-clause-seat
remember_stop-requires-clause-seat g c = let e = c.args.edits.now.state in let d = c.args.log.now.state in
    let found = c.find_edits.ensures e (second_held c.args.seat.now.knows (writes d) (installed e) c.requires.holds.turn.held) in
    let goes = c.remember_tables_fault.ensures.goes d e (ap (λ (x : SeatState). x.knows.held) found.is ∙ c.requires.holds.turn.held) in
    ap (λ (x : SeatState). x.table) goes.same ∙ ap (λ (x : SeatState). x.table) found.is ∙ c.requires.holds.turn.same_table
