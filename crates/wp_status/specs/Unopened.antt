-- How far an opening came that was refused, and why.
use Rattle.std.specs.Prelude.{ℕ}
use Rattle.wp_refused.specs.declared.error.OpenError.{OpenError}
use Rattle.wp_refused.specs.Refused.{IsRefusedFrom}
use Rattle.wp_status.specs.Use.{DisksUse, before, after}

-- The store was not opened, for this reason; a new one would have had this id. Where the devices are known and open to a history, the
-- reason is none of theirs.
abbrev pub IsUnopened : (asked : ℕ) → DisksUse → OpenError → Type 0
IsUnopened asked disks why = IsRefusedFrom asked disks.log.uncalled disks.tables.uncalled (before disks) (after disks) why
