use Rattle.std.proofs.Common.{◌≡◌, ℕ, true, List, Option, sym, subst, ◌∙◌}
use Rattle.std.specs.Prelude.{IfSome}
use Rattle.std.proofs.lemmas.Result.{err_from_is_err_and}
use Rattle.wp_model.specs.declared.version.Version.{Version}
use Rattle.wp_model.specs.Rows.{is_from}
use Rattle.wp_core.specs.Lists.{IsIn}
use Rattle.wp_core.specs.Reading.{Registration}
use Rattle.wp_core.specs.World.{Participant}
use Rattle.wp_shared.proofs.Onward.{continues_still}
use Rattle.wp_read.specs.Rows.{IsRowOf}
use Rattle.wp_read.specs.Values.{ShowsValue}
use Rattle.wp_read.specs.declared.values.TheConstants.{FIRST_COPIES}
use Rattle.wp_read.proofs.AtOnce.{free_client, same_client}
use Rattle.wp_read.proofs.Next.{none_in_range, none_left, skips_to, some_not_none, up_to_end}
use Rattle.wp_read.proofs.rows.next_row.Goals as goal

pub copy_next-requires-clause-seat : goal.copy_next-requires-clause-seat
copy_next-requires-clause-seat g c = (c.requires.free.same_table, c.requires.free.live)

pub returns-in_err-found-clause-continues : goal.returns-in_err-found-clause-continues
returns-in_err-found-clause-continues g c = free_client c.copy_next.ensures.goes c.args.store.now c.requires.free

pub returns-in_err-found-clause-same : goal.returns-in_err-found-clause-same
returns-in_err-found-clause-same g c = same_client c.copy_next.ensures.goes

pub returns-in_default-clause-continues : goal.returns-in_default-clause-continues
returns-in_default-clause-continues g c = free_client c.copy_next.ensures.goes c.args.store.now c.requires.free

pub returns-in_default-clause-same : goal.returns-in_default-clause-same
returns-in_default-clause-same g c = same_client c.copy_next.ensures.goes

pub returns-then-is_past-clause-continues : goal.returns-then-is_past-clause-continues
returns-then-is_past-clause-continues g c = free_client c.copy_next.ensures.goes c.args.store.now c.requires.free

pub returns-then-is_past-clause-same : goal.returns-then-is_past-clause-same
returns-then-is_past-clause-same g c = same_client c.copy_next.ensures.goes

pub returns-in_err-found-clause-none : goal.returns-in_err-found-clause-none
returns-in_err-found-clause-none g c = let p = err_from_is_err_and c.from_residual.result c.from_residual.ensures.1 in rw p.1 tt

pub returns-in_err-found-clause-skips : goal.returns-in_err-found-clause-skips
returns-in_err-found-clause-skips g c = let p = err_from_is_err_and c.from_residual.result c.from_residual.ensures.1 in rw p.1 tt

pub returns-in_err-found-clause-row : goal.returns-in_err-found-clause-row
returns-in_err-found-clause-row g c = let p = err_from_is_err_and c.from_residual.result c.from_residual.ensures.1 in rw p.1 tt

pub returns-in_err-found-clause-words : goal.returns-in_err-found-clause-words
returns-in_err-found-clause-words g c = let p = err_from_is_err_and c.from_residual.result c.from_residual.ensures.1 in rw p.1 tt

pub returns-in_default-clause-none : goal.returns-in_default-clause-none
returns-in_default-clause-none g c = λ none. none_left c.args.seat.now.knows.participant.seen c.args.snapshot.now.number c.args.above c.args.key.now c.in_ok-found.found (c.in_ok-found.ensures.skips c.args.snapshot.now c.requires.registered) c.args.to.now c.in_default.is

pub returns-in_default-clause-words : goal.returns-in_default-clause-words
returns-in_default-clause-words g c = c.in_ok-found.ensures.words c.args.snapshot.now c.requires.registered

pub returns-then-is_past-clause-none : goal.returns-then-is_past-clause-none
returns-then-is_past-clause-none g c = λ none.
    none_in_range c.args.seat.now.knows.participant.seen c.args.snapshot.now.number c.args.above c.args.key.now c.args.to.now c.in-Some.next (skips_to c.args.seat.now.knows.participant.seen c.args.snapshot.now.number c.args.above c.args.key.now c.in_ok-found.found (c.in_ok-found.ensures.skips c.args.snapshot.now c.requires.registered) c.in-Some.next c.in-Some.newest c.in-Some.is) (sym c.is_past.ensures ∙ c.if-is_past.true)

pub returns-then-is_past-clause-words : goal.returns-then-is_past-clause-words
returns-then-is_past-clause-words g c = c.in_ok-found.ensures.words c.args.snapshot.now c.requires.registered

pub row_in-requires-clause-free : goal.row_in-requires-clause-free
row_in-requires-clause-free g c = (free_client c.copy_next.ensures.goes c.args.store.now c.requires.free).free

pub row_in-requires-clause-registered : goal.row_in-requires-clause-registered
row_in-requires-clause-registered g c = subst (λ (p : Participant). IsIn c.args.snapshot.now p.registered) (sym (same_client c.copy_next.ensures.goes)) c.requires.registered

pub row_in-requires-clause-shows : goal.row_in-requires-clause-shows
row_in-requires-clause-shows g c =
    let p = c.args.seat.now.knows.participant in
    let each = subst (λ (o : Option (List ℕ × List Version)). IfSome o (λ next. (r : Registration) → IsIn r p.registered → ShowsValue p.seen next.0 r.number FIRST_COPIES next.1)) c.in-Some.is c.in_ok-found.ensures.shows in
    subst (λ (q : Participant). ShowsValue q.seen c.in-Some.next c.args.snapshot.now.number FIRST_COPIES c.in-Some.newest) (sym (same_client c.copy_next.ensures.goes)) (each c.args.snapshot.now c.requires.registered)

pub returns-in_err-row-clause-continues : goal.returns-in_err-row-clause-continues
returns-in_err-row-clause-continues g c =
    continues_still c.args.store.now c.args.seat.now c.copy_next.new.seat c.row_in.new.seat c.args.seat.now.knows.participant (free_client c.copy_next.ensures.goes c.args.store.now c.requires.free) c.row_in.ensures.continues

pub returns-in_err-row-clause-same : goal.returns-in_err-row-clause-same
returns-in_err-row-clause-same g c = c.row_in.ensures.same ∙ same_client c.copy_next.ensures.goes

pub returns-clause-continues : goal.returns-clause-continues
returns-clause-continues g c =
    continues_still c.args.store.now c.args.seat.now c.copy_next.new.seat c.row_in.new.seat c.args.seat.now.knows.participant (free_client c.copy_next.ensures.goes c.args.store.now c.requires.free) c.row_in.ensures.continues

pub returns-clause-same : goal.returns-clause-same
returns-clause-same g c = c.row_in.ensures.same ∙ same_client c.copy_next.ensures.goes

pub returns-in_err-row-clause-none : goal.returns-in_err-row-clause-none
returns-in_err-row-clause-none g c = let p = err_from_is_err_and c.from_residual-in_err-row.result c.from_residual-in_err-row.ensures.1 in rw p.1 tt

pub returns-in_err-row-clause-skips : goal.returns-in_err-row-clause-skips
returns-in_err-row-clause-skips g c = let p = err_from_is_err_and c.from_residual-in_err-row.result c.from_residual-in_err-row.ensures.1 in rw p.1 tt

pub returns-in_err-row-clause-row : goal.returns-in_err-row-clause-row
returns-in_err-row-clause-row g c = let p = err_from_is_err_and c.from_residual-in_err-row.result c.from_residual-in_err-row.ensures.1 in rw p.1 tt

pub returns-in_err-row-clause-words : goal.returns-in_err-row-clause-words
returns-in_err-row-clause-words g c = let p = err_from_is_err_and c.from_residual-in_err-row.result c.from_residual-in_err-row.ensures.1 in rw p.1 tt

pub returns-clause-none : goal.returns-clause-none
returns-clause-none g c = λ none. absurd (some_not_none _ none)

pub returns-clause-skips : goal.returns-clause-skips
returns-clause-skips g c =
    let from = subst (λ (o : Option (List ℕ × List Version)). IfSome o (λ next. is_from c.args.above c.args.key.now next.0 ≡ true)) c.in-Some.is c.in_ok-found.ensures.from in
    ((from, up_to_end c.in-Some.next c.args.to.now (sym c.is_past.ensures ∙ c.if-is_past.false)), skips_to c.args.seat.now.knows.participant.seen c.args.snapshot.now.number c.args.above c.args.key.now c.in_ok-found.found (c.in_ok-found.ensures.skips c.args.snapshot.now c.requires.registered) c.in-Some.next c.in-Some.newest c.in-Some.is)

pub returns-clause-row : goal.returns-clause-row
returns-clause-row g c = subst (λ (p : Participant). IsRowOf p.seen c.in-Some.next c.args.snapshot.now.number c.in_ok-row.row) (same_client c.copy_next.ensures.goes) c.in_ok-row.ensures.row

pub returns-clause-words : goal.returns-clause-words
returns-clause-words g c = c.in_ok-found.ensures.words c.args.snapshot.now c.requires.registered
