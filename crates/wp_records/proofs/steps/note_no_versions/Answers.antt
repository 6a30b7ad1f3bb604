use Rattle.std.proofs.Common.{inl}
use Rattle.wp_core.specs.Views.{versions_in_memory}
use Rattle.wp_commits.proofs.Making.{may_note, noted}
use Rattle.wp_records.proofs.steps.note_no_versions.Goals as goal

pub make-requires-clause-may : goal.make-requires-clause-may
make-requires-clause-may g c = may_note _ _ versions_in_memory c.requires.seat.1 (record { state = c.args.log.now.state; held = c.requires.held; so_is = inl c.requires.none })

pub returns : goal.returns
returns g c = noted _ _ versions_in_memory c.args.seat.now c.make.new.seat c.make.ensures.same c.make.ensures.moved
