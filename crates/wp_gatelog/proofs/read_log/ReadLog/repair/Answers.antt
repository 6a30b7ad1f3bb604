use Rattle.std.proofs.Common.{◌≡◌, length, refl, false, rules}
use Rattle.wp_gatelog.specs.Log.{LogState}
use Rattle.wp_gatelog.specs.Opening.{IsOpened, KeepsLogAt, ReadState}
use Rattle.wp_gatelog.proofs.OpenLemmas.{as_read, brings_read, repaired_keeps, repaired_opened}
use Rattle.wp_gatelog.proofs.read_log.ReadLog.repair.Goals as goal

pub returns-in-Ok-clause-opened : goal.returns-in-Ok-clause-opened
returns-in-Ok-clause-opened g c =
    let inside = c.self.inside in
    let moments = g.D.Peek.moments c.settle.new.disk in
    let read : ReadState = record {
      moments = g.D.Peek.moments inside.disk;
      faults = g.D.Peek.faults inside.disk;
      place = inside.place;
      magic = inside.magic;
      format = inside.log.format;
      id = inside.log.id;
      records = inside.log.found.records.items;
    } in
    let log : LogState = record {
      moments = moments;
      faults = g.D.Peek.faults c.settle.new.disk;
      format = inside.log.format;
      id = inside.log.id;
      count = c.len-count.result;
      end = inside.log.found.end;
      closed = false;
    } in
    let counted : c.len-count.result ≡ length inside.log.found.records.items = search rules in
    rw (← c.self.view_is, c.of-log.ensures) (λ place magic asked old is.
    as_read (λ n k. IsOpened n k asked old log read.records) place magic asked old read is
    (λ its. repaired_opened tt read.place read.magic asked read log c.settle.ensures.unknown refl old its (brings_read read inside.log moments _ refl refl c.self.invariant.1 c.in-Ok.ensures.brings) counted refl))

pub returns-in-Ok-clause-kept : goal.returns-in-Ok-clause-kept
returns-in-Ok-clause-kept g c =
    let inside = c.self.inside in
    let moments = g.D.Peek.moments c.settle.new.disk in
    let now = g.D.Peek.faults c.settle.new.disk in
    let read : ReadState = record {
      moments = g.D.Peek.moments inside.disk;
      faults = g.D.Peek.faults inside.disk;
      place = inside.place;
      magic = inside.magic;
      format = inside.log.format;
      id = inside.log.id;
      records = inside.log.found.records.items;
    } in
    rw (← c.self.view_is, c.of-log.ensures) (λ place magic asked old is.
    as_read (λ n k. KeepsLogAt n k asked old moments read.faults now) place magic asked old read is
    (λ its. repaired_keeps read.place read.magic asked read inside.log.found.end moments _ c.settle.ensures.unknown old its (brings_read read inside.log moments _ refl refl c.self.invariant.1 c.settle.ensures.brings) read.faults now c.settle.ensures.cause.later))

pub returns-in-Err-clause-kept : goal.returns-in-Err-clause-kept
returns-in-Err-clause-kept g c =
    let inside = c.self.inside in
    let moments = g.D.Peek.moments c.settle.new.disk in
    let now = g.D.Peek.faults c.settle.new.disk in
    let read : ReadState = record {
      moments = g.D.Peek.moments inside.disk;
      faults = g.D.Peek.faults inside.disk;
      place = inside.place;
      magic = inside.magic;
      format = inside.log.format;
      id = inside.log.id;
      records = inside.log.found.records.items;
    } in
    rw (← c.self.view_is) (λ place magic asked old is.
    as_read (λ n k. KeepsLogAt n k asked old moments read.faults now) place magic asked old read is
    (λ its. repaired_keeps read.place read.magic asked read inside.log.found.end moments _ c.settle.ensures.unknown old its (brings_read read inside.log moments _ refl refl c.self.invariant.1 c.settle.ensures.brings) read.faults now c.settle.ensures.cause.later))
