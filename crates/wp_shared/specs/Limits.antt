-- The greatest number that an entry of a store may get.
use Rattle.std.specs.Prelude.{◌≡◌, ℕ, min, Option, None, Some}
use Rattle.wp_fields.specs.declared.format.Format.TheVariants.{Two}
use Rattle.wp_entry.specs.Record.{last_number}
use Rattle.wp_wal.specs.Wal.{WalState}
use Rattle.wp_parts.specs.Log.{format_at}
use Rattle.wp_parts.specs.Parts.{log_first}
use Rattle.wp_shared.specs.Seats.{SharedState}

-- no more than this limit, nor than the last number of the version that a log has at the base which was this one as it was opened
abbrev pub least_at : ℕ → Option WalState → ℕ → ℕ
least_at limit None base = limit
least_at limit (Some first) base = min limit (last_number (format_at first base))

-- ... of the version that it had as it was opened
abbrev pub least_opened : ℕ → Option WalState → ℕ
least_opened limit None = limit
least_opened limit (Some first) = min limit (last_number first.format)

-- the limit of the store while its log has this base
abbrev pub limit_at : {D : Type 0} → SharedState D → ℕ → ℕ
limit_at z base = least_at z.limit (log_first z.first) base

-- as it was opened
abbrev pub opened_limit : {D : Type 0} → SharedState D → ℕ
opened_limit z = least_opened z.limit (log_first z.first)

-- once it was renewed
abbrev pub renewed_limit : {D : Type 0} → SharedState D → ℕ
renewed_limit z = min z.limit (last_number Two)

-- the log had this base as it was opened
abbrev pub WasOpenedAt : {D : Type 0} → SharedState D → ℕ → Type 0
WasOpenedAt z base = (first : WalState) × (log_first z.first ≡ Some first) × (first.segment.base ≡ base)
