use Rattle.std.proofs.Common.{inl}
use Rattle.wp_core.specs.Views.{number_not_in_heap}
use Rattle.wp_commits.proofs.Making.{may_note, noted}
use Rattle.wp_records.proofs.steps.note_no_number.Goals as goal

pub make-requires-clause-may : goal.make-requires-clause-may
make-requires-clause-may g c = may_note _ _ number_not_in_heap c.requires.seat.1 (record { state = c.args.log.now.state; held = c.requires.held; so_is = inl c.requires.none })

pub returns : goal.returns
returns g c = noted _ _ number_not_in_heap c.args.seat.now c.make.new.seat c.make.ensures.same c.make.ensures.moved
