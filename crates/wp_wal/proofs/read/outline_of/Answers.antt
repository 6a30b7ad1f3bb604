use Rattle.std.proofs.Common.{ℕ, List, subst}
use Rattle.std.proofs.lemmas.Result.{err_from_is_err_and}
use Rattle.wp_history.specs.Outline.{cut_in}
use Rattle.wp_wal.specs.Reading.{TakesRecord, IsRefusedRecord}
use Rattle.wp_wal.proofs.CutLemmas.{read_more, refused_there}
use Rattle.wp_wal.proofs.Told.{all_read, begun_more, some_records}
use Rattle.wp_wal.proofs.read.outline_of.Goals as goal

pub loop-i-init : goal.loop-i-init
loop-i-init c =
    let begun = c.in_ok-reading.ensures.ok in
    record { told = c.in_ok-reading.ensures.told; spelled = begun.spelled; begun = begun.begun; there = begun.there }

pub loop-i-preserved : goal.loop-i-preserved
loop-i-preserved c =
    let old = cut_in c.loop-i.reading.outline in
    let new = cut_in c.take_record.new.reading.outline in
    let its = c.loop-i.invariant in
    let some = some_records c.args.records.now c.loop-i.i c.loop-i-test.true in
    let takes = subst (λ (bytes : List ℕ). TakesRecord c.args.format old new bytes) c.bytes.ensures c.in_ok-take_record.ensures.ok in
    record {
      told = c.in_ok-take_record.ensures.told;
      spelled = read_more c.args.format c.args.records.now c.loop-i.i c.index-records-i.result old new c.loop-i-test.true c.index-records-i.is its.spelled (its.begun some) takes;
      begun = λ _. begun_more c.args.format c.args.records.now c.loop-i.i c.index-records-i.result c.loop-i-test.true;
      there = its.there;
    }

pub returns-in_err-take_record-clause-err : goal.returns-in_err-take_record-clause-err
returns-in_err-take_record-clause-err c =
    let p = err_from_is_err_and c.from_residual-in_err-take_record.result c.from_residual-in_err-take_record.ensures.1 in
    let old = cut_in c.loop-i.reading.outline in
    let its = c.loop-i.invariant in
    let some = some_records c.args.records.now c.loop-i.i c.loop-i-test.true in
    let refused = subst (λ (bytes : List ℕ). IsRefusedRecord c.args.format old c.loop-i.i bytes c.in_err-take_record.field-0.0) c.bytes.ensures c.in_err-take_record.ensures.err in
    rw (p.1, p.2) (refused_there c.args.format c.args.place c.args.records.now c.loop-i.i c.index-records-i.result old c.in_err-take_record.field-0.0 c.loop-i-test.true c.index-records-i.is its.spelled (its.begun some) refused)

pub returns-clause-ok : goal.returns-clause-ok
returns-clause-ok c = all_read c.args.format c.args.place c.args.records.now c.loop-i.i (cut_in c.loop-i.reading.outline) c.loop-i-test.false c.loop-i.invariant.there c.loop-i.invariant.spelled
