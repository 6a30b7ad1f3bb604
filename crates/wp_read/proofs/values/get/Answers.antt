use Rattle.std.proofs.Common.{◌≡◌, sym, subst, ◌∙◌}
use Rattle.std.proofs.lemmas.Result.{err_from_is_err_and}
use Rattle.std.specs.Option.{option_map}
use Rattle.wp_core.specs.Lists.{IsIn}
use Rattle.wp_core.specs.World.{Participant}
use Rattle.wp_shared.proofs.Onward.{continues_still}
use Rattle.wp_model.specs.History.{value_at}
use Rattle.wp_read.specs.Values.{Says}
use Rattle.wp_read.proofs.Shows.{row_value}
use Rattle.wp_read.proofs.values.get.Goals as goal

pub row_behind-requires-clause-free : goal.row_behind-requires-clause-free
row_behind-requires-clause-free g c = c.look_through.ensures.continues.free

pub row_behind-requires-clause-registered : goal.row_behind-requires-clause-registered
row_behind-requires-clause-registered g c = subst (λ (p : Participant). IsIn c.args.snapshot.now p.registered) (sym c.look_through.ensures.same) c.requires.registered

pub row_behind-requires-clause-first : goal.row_behind-requires-clause-first
row_behind-requires-clause-first g c = subst (λ (p : Participant). Says p.seen c.args.key.now c.args.snapshot.now.number c.in_ok-first.first) (sym c.look_through.ensures.same) c.in_ok-first.ensures.says

pub returns-in_err-first-clause-continues : goal.returns-in_err-first-clause-continues
returns-in_err-first-clause-continues g c = c.look_through.ensures.continues

pub returns-in_err-first-clause-same : goal.returns-in_err-first-clause-same
returns-in_err-first-clause-same g c = c.look_through.ensures.same

pub returns-in_err-first-clause-value : goal.returns-in_err-first-clause-value
returns-in_err-first-clause-value g c = let p = err_from_is_err_and c.from_residual.result c.from_residual.ensures.1 in rw p.1 tt

pub returns-in_err-row-clause-continues : goal.returns-in_err-row-clause-continues
returns-in_err-row-clause-continues g c =
    continues_still c.args.store.now c.args.seat.now c.look_through.new.seat c.row_behind.new.seat c.args.seat.now.knows.participant c.look_through.ensures.continues c.row_behind.ensures.continues

pub returns-in_err-row-clause-same : goal.returns-in_err-row-clause-same
returns-in_err-row-clause-same g c = c.row_behind.ensures.same ∙ c.look_through.ensures.same

pub returns-in_err-row-clause-value : goal.returns-in_err-row-clause-value
returns-in_err-row-clause-value g c = let p = err_from_is_err_and c.from_residual-in_err-row.result c.from_residual-in_err-row.ensures.1 in rw p.1 tt

pub returns-clause-continues : goal.returns-clause-continues
returns-clause-continues g c =
    continues_still c.args.store.now c.args.seat.now c.look_through.new.seat c.row_behind.new.seat c.args.seat.now.knows.participant c.look_through.ensures.continues c.row_behind.ensures.continues

pub returns-clause-same : goal.returns-clause-same
returns-clause-same g c = c.row_behind.ensures.same ∙ c.look_through.ensures.same

pub returns-clause-value : goal.returns-clause-value
returns-clause-value g c =
    let key = c.args.key.now in let n = c.args.snapshot.now.number in
    c.value_of.ensures ∙ subst (λ (p : Participant). option_map (λ row. row.1) c.in_ok-row.row ≡ value_at p.seen key n) (sym c.row_behind.ensures.same) (row_value c.look_through.new.seat.knows.participant.seen key n c.in_ok-row.row c.in_ok-row.ensures.row)
