-- What an error of the gate log means for its opening.
use Rattle.wp_entry.specs.declared.error.RecordError.TheVariants.{Short}
use Rattle.wp_gatelog.specs.declared.error.LogError.{LogError}
use Rattle.wp_gatelog.specs.declared.error.LogError.TheVariants as log
use Rattle.wp_wal.specs.declared.error.WalError.{WalError}
use Rattle.wp_wal.specs.declared.error.WalError.TheVariants.{Memory, DiskFault, BadHead, BadRecord}

abbrev pub wal_error_of : LogError → WalError
wal_error_of log.Memory = Memory
wal_error_of log.DiskFault = DiskFault
wal_error_of log.BadHead = BadHead
wal_error_of (log.Cut index id) = BadRecord index Short
