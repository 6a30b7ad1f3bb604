use Rattle.std.proofs.Common.{sym, ◌∙◌}
use Rattle.wp_read.proofs.Rounds.{not_again}
use Rattle.wp_read.proofs.values.is_visible.Goals as goal

pub returns-then-has_number-clause-right : goal.returns-then-has_number-clause-right
returns-then-has_number-clause-right g c =
    not_again c.args.seat.now.knows.participant.seen c.args.snapshot.now.number c.args.p c.args.earlier.now c.requires.earlier (sym c.has_number.ensures ∙ c.if-has_number.true)
