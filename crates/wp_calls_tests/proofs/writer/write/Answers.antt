use Rattle.wp_model.specs.declared.change.Change.TheVariants.{Put}
use Rattle.wp_calls_tests.proofs.Ready.{changed, has_written, not_written, written_version}
use Rattle.wp_calls_tests.proofs.writer.write.Goals as goal

pub returns-after-stage-clause-ready : goal.returns-after-stage-clause-ready
returns-after-stage-clause-ready g c =
    changed c.args.store.now c.args.seat.now c.stage.new.seat c.requires.direct c.in-Put-Some-None.txn (Put c.key.result c.value.result) c.stage.result c.stage.new.txn c.stage.ensures

pub returns-in-Ok-write-clause-ready : goal.returns-in-Ok-write-clause-ready
returns-in-Ok-write-clause-ready g c =
    has_written c.args.store.now c.args.seat.now c.write.new.seat c.requires.direct (Put c.key-in-Direct-None-default.result c.value-in-Direct-None-default.result) c.in-Ok-write.n c.args.prepared c.requires.has_prepared c.in-Ok-write.ensures.answers

pub returns-in-Ok-write-clause-version : goal.returns-in-Ok-write-clause-version
returns-in-Ok-write-clause-version g c =
    written_version c.args.store.now c.args.seat.now c.write.new.seat c.requires.direct (Put c.key-in-Direct-None-default.result c.value-in-Direct-None-default.result) c.in-Ok-write.n c.in-Ok-write.ensures.answers

pub returns-in-Err-write-clause-ready : goal.returns-in-Err-write-clause-ready
returns-in-Err-write-clause-ready g c =
    not_written c.args.store.now c.args.seat.now c.write.new.seat c.requires.direct (Put c.key-in-Direct-None-default.result c.value-in-Direct-None-default.result) c.in-Err-write.why c.args.prepared c.requires.has_prepared c.in-Err-write.ensures.answers
