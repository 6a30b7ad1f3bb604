use Rattle.wp_calls_tests.proofs.Ready.{flushed, compacted, renewed}
use Rattle.wp_calls_tests.proofs.reader.moved.Goals as goal

pub returns-in-Ok : goal.returns-in-Ok
returns-in-Ok g c = λ o v was. flushed c.args.store.now c.args.seat.now c.flush.new.seat v o was c.flush.result c.flush.ensures.answers

pub returns-in-Err : goal.returns-in-Err
returns-in-Err g c = λ o v was. flushed c.args.store.now c.args.seat.now c.flush.new.seat v o was c.flush.result c.flush.ensures.answers

pub returns-in-Ok-compact : goal.returns-in-Ok-compact
returns-in-Ok-compact g c = λ o v was. compacted c.args.store.now c.args.seat.now c.compact.new.seat v o was c.compact.result c.compact.ensures.answers

pub returns-in-Err-compact : goal.returns-in-Err-compact
returns-in-Err-compact g c = λ o v was. compacted c.args.store.now c.args.seat.now c.compact.new.seat v o was c.compact.result c.compact.ensures.answers

pub returns-in-Ok-renew : goal.returns-in-Ok-renew
returns-in-Ok-renew g c = λ o v was. renewed c.args.store.now c.args.seat.now c.renew.new.seat v o was c.renew.result c.renew.ensures.answers

pub returns-in-Err-renew : goal.returns-in-Err-renew
returns-in-Err-renew g c = λ o v was. renewed c.args.store.now c.args.seat.now c.renew.new.seat v o was c.renew.result c.renew.ensures.answers
