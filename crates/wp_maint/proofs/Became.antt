-- The store's tables and its log on their devices, as a call found them and as it left them.
use Rattle.std.proofs.Common.{◌≡◌, Some, refl, ◌∙◌}
use Rattle.wp_core.specs.States.{WriteState, Installed}
use Rattle.wp_parts.specs.Log.{LogState, IsLog}
use Rattle.wp_parts.specs.Parts.{log_first, set_first}
use Rattle.wp_parts.specs.VersionSet.{VersionSetState, IsEdits}
use Rattle.wp_shared.specs.Seats.{SharedState}
use Rattle.wp_maint.specs.Calls.{TablesBecame}
use Rattle.wp_maint.specs.Renewal.{LogBecame}

-- the tables that a call had in hand
abbrev pub tables_became : {D : Type 0} {z : SharedState D} {next : Installed} {So : VersionSetState → VersionSetState → Type 0} (before after : VersionSetState) → set_first z.first ≡ Some before.first → set_first z.first ≡ Some after.first
    → IsEdits before → IsEdits after → after.state ≡ next → So before after → TablesBecame z before.state next So
tables_became before after of_store still_of_store edits still_edits is so =
    record { before = before; after = after; of_store = of_store; still_of_store = still_of_store; before_is = refl; after_is = is; edits = edits; still_edits = still_edits; so = so }

-- ... of which more is said
abbrev pub tables_so : {D : Type 0} {z : SharedState D} {e left next : Installed} {So To : VersionSetState → VersionSetState → Type 0} (k : TablesBecame z e left So) → left ≡ next → To k.before k.after → TablesBecame z e next To
tables_so k same so =
    record { before = k.before; after = k.after; of_store = k.of_store; still_of_store = k.still_of_store; before_is = k.before_is; after_is = k.after_is ∙ same; edits = k.edits; still_edits = k.still_edits; so = so }

-- the log
abbrev pub log_became : {D : Type 0} {z : SharedState D} {next : WriteState} {So : LogState → LogState → Type 0} (before after : LogState) → log_first z.first ≡ Some before.first → log_first z.first ≡ Some after.first
    → IsLog before → IsLog after → after.state ≡ next → So before after → LogBecame z before.state next So
log_became before after of_store still_of_store log still_log is so =
    record { before = before; after = after; of_store = of_store; still_of_store = still_of_store; before_is = refl; after_is = is; log = log; still_log = still_log; so = so }
