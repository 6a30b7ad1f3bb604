use Rattle.std.proofs.Common.{sym, subst, ◌∙◌}
use Rattle.std.specs.Prelude.{IfOk}
use Rattle.wp_core.specs.Lists.{IsIn}
use Rattle.wp_core.specs.World.{Participant}
use Rattle.wp_shared.proofs.Onward.{continues_still}
use Rattle.wp_read.specs.Rows.{IsRowOf}
use Rattle.wp_read.specs.Values.{Says}
use Rattle.wp_read.proofs.Shows.{have_versions}
use Rattle.wp_read.proofs.rows.row_in.Goals as goal

pub decided-first-requires-clause-versions : goal.decided-first-requires-clause-versions
decided-first-requires-clause-versions g c = have_versions c.args.seat.now.knows.participant.seen c.args.key.now c.args.snapshot.now.number c.args.newest c.requires.shows.are

pub decided-first-requires-clause-none_later : goal.decided-first-requires-clause-none_later
decided-first-requires-clause-none_later g c = c.requires.shows.none_later

pub row_behind-requires-clause-free : goal.row_behind-requires-clause-free
row_behind-requires-clause-free g c = c.decided-first.ensures.continues.free

pub row_behind-requires-clause-registered : goal.row_behind-requires-clause-registered
row_behind-requires-clause-registered g c = subst (λ (p : Participant). IsIn c.args.snapshot.now p.registered) (sym c.decided-first.ensures.same) c.requires.registered

pub row_behind-requires-clause-first : goal.row_behind-requires-clause-first
row_behind-requires-clause-first g c =
    subst (λ (p : Participant). Says p.seen c.args.key.now c.args.snapshot.now.number c.decided-first.result) (sym c.decided-first.ensures.same) (c.decided-first.ensures.says c.args.key.now c.requires.shows)

pub returns-clause-continues : goal.returns-clause-continues
returns-clause-continues g c =
    continues_still c.args.store.now c.args.seat.now c.decided-first.new.seat c.row_behind.new.seat c.args.seat.now.knows.participant c.decided-first.ensures.continues c.row_behind.ensures.continues

pub returns-clause-same : goal.returns-clause-same
returns-clause-same g c = c.row_behind.ensures.same ∙ c.decided-first.ensures.same

pub returns-clause-row : goal.returns-clause-row
returns-clause-row g c =
    subst (λ (p : Participant). IfOk c.row_behind.result (λ row. IsRowOf p.seen c.args.key.now c.args.snapshot.now.number row)) c.decided-first.ensures.same c.row_behind.ensures.row
