use Rattle.std.proofs.Common.{List, refl, sym, subst, ◌∙◌, rules}
use Rattle.std.proofs.lemmas.Result.{err_from_is_err_and}
use Rattle.wp_model.specs.declared.version.Version.{Version}
use Rattle.wp_core.specs.Lists.{IsIn}
use Rattle.wp_core.specs.World.{Participant}
use Rattle.wp_shared.proofs.Onward.{continues_none, continues_still}
use Rattle.wp_read.specs.Rows.{IsRowOf}
use Rattle.wp_read.specs.Values.{NoneCommitted, Says}
use Rattle.wp_read.proofs.values.row_behind.Goals as goal

pub returns-in-Done-clause-continues : goal.returns-in-Done-clause-continues
returns-in-Done-clause-continues g c = continues_none c.args.store.now c.args.seat.now c.requires.free

pub returns-in-Done-clause-row : goal.returns-in-Done-clause-row
returns-in-Done-clause-row g c = subst (Says c.args.seat.now.knows.participant.seen c.args.key.now c.args.snapshot.now.number) c.in-Done.is c.requires.first

pub rounds-init : goal.rounds-init
rounds-init g c = record {
  continues = continues_none c.args.store.now c.args.seat.now c.requires.free;
  same = refl;
  none = subst (Says c.args.seat.now.knows.participant.seen c.args.key.now c.args.snapshot.now.number) c.in-More.is c.requires.first;
  some = search rules;
}

pub look_through-requires-clause-earlier : goal.look_through-requires-clause-earlier
look_through-requires-clause-earlier g c =
    subst (λ (y : Participant × List Version). NoneCommitted y.0.seen c.args.snapshot.now.number y.1) (λ i. ((sym c.rounds.invariant.same) i, (sym c.as_slice.ensures.value) i)) c.rounds.invariant.none

pub look_through-requires-clause-free : goal.look_through-requires-clause-free
look_through-requires-clause-free g c = c.rounds.invariant.continues.free

pub look_through-requires-clause-registered : goal.look_through-requires-clause-registered
look_through-requires-clause-registered g c = subst (λ (p : Participant). IsIn c.args.snapshot.now p.registered) (sym c.rounds.invariant.same) c.requires.registered

pub rounds-preserved : goal.rounds-preserved
rounds-preserved g c =
    let k = c.rounds.invariant in let next = c.look_through in record {
      continues = continues_still c.args.store.now c.args.seat.now c.rounds.seat next.new.seat c.args.seat.now.knows.participant k.continues next.ensures.continues;
      same = next.ensures.same ∙ k.same;
      none = subst (λ (p : Participant). NoneCommitted p.seen c.args.snapshot.now.number c.in-More-2.found) k.same (subst (Says c.rounds.seat.knows.participant.seen c.args.key.now c.args.snapshot.now.number) c.in-More-2.is c.in_ok-row.ensures.says);
      some = search rules;
    }

pub returns-in_err-most-clause-continues : goal.returns-in_err-most-clause-continues
returns-in_err-most-clause-continues g c = c.rounds.invariant.continues

pub returns-in_err-most-clause-same : goal.returns-in_err-most-clause-same
returns-in_err-most-clause-same g c = c.rounds.invariant.same

pub returns-in_err-most-clause-row : goal.returns-in_err-most-clause-row
returns-in_err-most-clause-row g c = let p = err_from_is_err_and c.from_residual.result c.from_residual.ensures.1 in rw p.1 tt

pub returns-in_err-row-clause-continues : goal.returns-in_err-row-clause-continues
returns-in_err-row-clause-continues g c =
    continues_still c.args.store.now c.args.seat.now c.rounds.seat c.look_through.new.seat c.args.seat.now.knows.participant c.rounds.invariant.continues c.look_through.ensures.continues

pub returns-in_err-row-clause-same : goal.returns-in_err-row-clause-same
returns-in_err-row-clause-same g c = c.look_through.ensures.same ∙ c.rounds.invariant.same

pub returns-in_err-row-clause-row : goal.returns-in_err-row-clause-row
returns-in_err-row-clause-row g c = let p = err_from_is_err_and c.from_residual-in_err-row.result c.from_residual-in_err-row.ensures.1 in rw p.1 tt

pub returns-in-Done-2-clause-continues : goal.returns-in-Done-2-clause-continues
returns-in-Done-2-clause-continues g c =
    continues_still c.args.store.now c.args.seat.now c.rounds.seat c.look_through.new.seat c.args.seat.now.knows.participant c.rounds.invariant.continues c.look_through.ensures.continues

pub returns-in-Done-2-clause-same : goal.returns-in-Done-2-clause-same
returns-in-Done-2-clause-same g c = c.look_through.ensures.same ∙ c.rounds.invariant.same

pub returns-in-Done-2-clause-row : goal.returns-in-Done-2-clause-row
returns-in-Done-2-clause-row g c =
    subst (λ (p : Participant). IsRowOf p.seen c.args.key.now c.args.snapshot.now.number c.in-Done-2.row) c.rounds.invariant.same
    (subst (Says c.rounds.seat.knows.participant.seen c.args.key.now c.args.snapshot.now.number) c.in-Done-2.is c.in_ok-row.ensures.says)
