-- Why records that were found are refused.
use Rattle.std.proofs.Common.{ℕ, List, [], ◌∷◌, inr}
use Rattle.wp_outside.specs.Disk.{Moment, IfKnown}
use Rattle.wp_fields.specs.declared.format.Format.{Format}
use Rattle.wp_gatelog.specs.Opening.{IsFound}
use Rattle.wp_gatelog.specs.Spelling.{stamped, IsUpTo}
use Rattle.wp_wal.specs.declared.error.WalError.{WalError}
use Rattle.wp_wal.specs.declared.error.WalError.TheVariants.{Memory, DiskFault, BadHead, BadRecord, Illegal}
use Rattle.wp_wal.specs.Opening.{IsLogCause, SpellsIn}
use Rattle.wp_wal.specs.Reading.{IsRecordCause}
use Rattle.wp_wal.specs.Spelling.{MAGIC, NEWEST, new_stamp}

found_there : (old : List Moment) (asked id place : ℕ) (format : Format) (records : List (List ℕ)) → IfKnown old (λ m. IsFound place MAGIC (new_stamp asked) m.reads (stamped format id) records) → IfKnown old (λ m. SpellsIn place format records m.reads)
found_there [] asked id place format records found = tt
found_there (m ∷ past) asked id place format records found = (id, found.spelled)

pub refused_records : (rose : Type 0) (old : List Moment) (asked id place : ℕ) (format : Format) (records : List (List ℕ)) (why : WalError) → IsUpTo NEWEST format → IfKnown old (λ m. IsFound place MAGIC (new_stamp asked) m.reads (stamped format id) records)
    → IsRecordCause format place records why → IsLogCause place rose old why
refused_records rose old asked id place format records Memory up found cause = tt
refused_records rose old asked id place format records DiskFault up found cause = absurd cause
refused_records rose old asked id place format records BadHead up found cause = absurd cause
refused_records rose old asked id place format records (BadRecord index why) up found cause = inr (format, records, up, found_there old asked id place format records found, cause)
refused_records rose old asked id place format records (Illegal number) up found cause = (format, records, up, found_there old asked id place format records found, cause)
