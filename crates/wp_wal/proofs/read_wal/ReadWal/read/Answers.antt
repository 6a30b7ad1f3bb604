use Rattle.std.proofs.Common.{refl}
use Rattle.wp_wal.proofs.OpeningLemmas.{read_wal, records_refused}
use Rattle.wp_wal.proofs.read_wal.ReadWal.read.Goals as goal

pub returns-in-Err-outline_of-clause-refused : goal.returns-in-Err-outline_of-clause-refused
returns-in-Err-outline_of-clause-refused g c =
    rw (c.into_disk-disk.ensures.moments, c.into_disk-disk.ensures.faults)
    (records_refused c.args.place c.args.id _ _ c.in-Ok.log _ _ c.in-Err-outline_of.why c.in-Ok.ensures.read refl (rw (c.format.ensures, c.records.ensures) at c.in-Err-outline_of.ensures.err))

pub returns-in-Ok-first_record-clause-read : goal.returns-in-Ok-first_record-clause-read
returns-in-Ok-first_record-clause-read g c =
    read_wal c.args.id c.args.place _ c.in-Ok.log c.in-Ok-outline_of.outline c.in-Ok.ensures.read (rw (c.format.ensures, c.records.ensures) at c.in-Ok-outline_of.ensures.ok) c.in-Ok-outline_of.ensures.told
