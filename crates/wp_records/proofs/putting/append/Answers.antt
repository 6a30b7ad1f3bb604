use Rattle.std.proofs.Common.{true, List, [], refl, sym, subst, ap, ◌∙◌}
use Rattle.wp_model.specs.declared.entry.Entry.{Entry}
use Rattle.wp_core.specs.States.{WriteState}
use Rattle.wp_core.specs.Views.{pair_not_delayed}
use Rattle.wp_rule.specs.Knows.{Noted}
use Rattle.wp_shared.specs.Seats.{SeatState}
use Rattle.wp_parts.specs.Log.{LogState}
use Rattle.wp_records.specs.Records.{IsNotPut, failing}
use Rattle.wp_records.proofs.Holding.{holds_as}
use Rattle.wp_records.proofs.Puts.{failed_put, fails}
use Rattle.wp_records.proofs.putting.append.Goals as goal

pub log_pending-requires-clause-held : goal.log_pending-requires-clause-held
log_pending-requires-clause-held g c = (c.args.log.now.state, c.requires.holds.turn.held, c.requires.unlogged, c.in-Ok.ensures.ok)

pub returns : goal.returns
returns g c = record {
  holds = holds_as c.args.store.now c.args.seat.now c.log_pending.new.seat c.args.log.now c.append.new.self c.requires.holds c.args.seat.now.knows.participant refl c.log_pending.ensures c.append.ensures.first (ap (λ (t : WriteState). t.history) c.in-Ok.ensures.ok);
  seat = c.log_pending.ensures;
  state = c.in-Ok.ensures.ok;
  appended = record { spelled = ap (λ (t : WriteState). t.log) c.in-Ok.ensures.ok; counted = c.in-Ok.ensures.counted; passed = c.append.ensures.passed; durable = c.append.ensures.durable };
}

pub close_log-requires-clause-held : goal.close_log-requires-clause-held
close_log-requires-clause-held g c = (c.args.log.now.state, c.requires.holds.turn.held, c.requires.unlogged, c.in_default.ensures.err)

pub take_back-requires-clause-holds : goal.take_back-requires-clause-holds
take_back-requires-clause-holds g c =
    holds_as c.args.store.now c.args.seat.now c.close_log.new.seat c.args.log.now c.append.new.self c.requires.holds (failing c.append.new.self.state.failed c.args.seat.now.knows.participant) refl c.close_log.ensures c.append.ensures.first (ap (λ (t : WriteState). t.history) c.in_default.ensures.err)

pub take_back-requires-clause-undelayed : goal.take_back-requires-clause-undelayed
take_back-requires-clause-undelayed g c = subst (λ (x : SeatState). Noted x.knows pair_not_delayed) (sym c.close_log.ensures) c.requires.undelayed

pub returns-in_default : goal.returns-in_default
returns-in_default g c =
    let failed = ap (λ (t : WriteState). t.failed) c.in_default.ensures.err in (
      subst (λ (entries : List Entry). IsNotPut c.args.store.now c.args.seat.now c.args.log.now [] true (failing entries c.args.seat.now.knows.participant) c.take_back.new.seat c.take_back.new.log) failed
          (failed_put c.args.store.now c.args.seat.now c.take_back.new.seat c.args.log.now c.take_back.new.log c.take_back.ensures.holds c.close_log.new.seat c.append.new.self.state c.append.new.self.state.failed c.close_log.ensures c.take_back.ensures.seat
          (ap (λ (x : LogState). x.state.history) c.take_back.ensures.log ∙ ap (λ (t : WriteState). t.history) c.in_default.ensures.err)
          (ap (λ (x : LogState). x.state.closed) c.take_back.ensures.log ∙ ap (λ (t : WriteState). t.closed) c.in_default.ensures.err)),
      fails c.args.log.now c.append.new.self c.take_back.new.log c.requires.unlogged.unlogged c.in_default.ensures.err c.take_back.ensures.log c.in_default.ensures.cause c.append.ensures.passed c.append.ensures.durable,
    )
