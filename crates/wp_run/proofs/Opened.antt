-- What an opening leaves of the tables' device.
use Rattle.std.proofs.Common.{◌≡◌, ℕ, List, [], ◌∷◌, refl, sym, subst, inl, inr}
use Rattle.wp_outside.specs.Disk.{Moment, IsImage, ReadsItself, added, after_sync}
use Rattle.wp_outside.proofs.Moments.{image_of_synced}
use Rattle.wp_gatelog.specs.Moments.{Leaves}
use Rattle.wp_refused.specs.declared.bad.Bad.TheVariants as bad
use Rattle.wp_refused.specs.declared.error.OpenError.{OpenError}
use Rattle.wp_refused.specs.declared.error.OpenError.TheVariants as open_error
use Rattle.wp_contents.specs.Devices.{DevicesLeft}
use Rattle.wp_refused.specs.Refused.{IsLeft, at_manifest, at_log, at_new_manifest, at_place, at_ids, at_repair, at_edit, at_tables}
use Rattle.wp_gatelog.specs.Left.{IsAtMostSynced}
use Rattle.wp_refused.specs.Tables.{LeavesSynced}
use Rattle.wp_tableset.specs.Device.{BeginsWith, KeepsFronts}
use Rattle.wp_run.proofs.Keeping.{fronts_same}

front_synced : (front : List ℕ) (m : Moment) → IsImage m m.reads → Leaves (BeginsWith front) m → Leaves (BeginsWith front) (after_sync m)
front_synced front m itself leaves image is = subst (BeginsWith front) (sym (image_of_synced m.reads image is)) (leaves m.reads itself)

-- a sync takes no front
pub fronts_synced : (ms : List Moment) → ReadsItself ms → KeepsFronts ms (added after_sync ms)
fronts_synced [] itself = fronts_same []
fronts_synced (m ∷ past) itself = λ front. (after_sync m ∷ [], refl, (front_synced front m itself, tt))

pub fronts_at_most_synced : (old new : List Moment) → ReadsItself old → IsAtMostSynced old new → KeepsFronts old new
fronts_at_most_synced old new itself left = elim left [
  | inl same ↦ subst (λ (ms : List Moment). KeepsFronts old ms) (sym same) (fronts_same old)
  | inr synced ↦ subst (λ (ms : List Moment). KeepsFronts old ms) (sym synced) (fronts_synced old itself)
]

fronts_left : (same : Type 0) (old new : List Moment) (why : OpenError) → (same → KeepsFronts old new) → ReadsItself old → LeavesSynced same old new why → KeepsFronts old new
fronts_left same old new (open_error.Contents (bad.BaseAhead base flushed)) unchanged itself left = unchanged left
fronts_left same old new (open_error.Contents (bad.LogBehind flushed published)) unchanged itself left = unchanged left
fronts_left same old new (open_error.OpenFault device) unchanged itself left = fronts_at_most_synced old new itself left
fronts_left same old new other unchanged itself left = fronts_at_most_synced old new itself (inr left)

-- what a refused opening leaves of that device
pub refused_fronts : (asked : ℕ) (same_log same_tables : Type 0) (old new : DevicesLeft) (why : OpenError) → (same_tables → new.tables ≡ old.tables) → ReadsItself old.tables → IsLeft asked same_log same_tables old new why → KeepsFronts old.tables new.tables
refused_fronts asked same_log same_tables old new why is itself left =
    let unchanged : same_tables → KeepsFronts old.tables new.tables = λ s. subst (λ (ms : List Moment). KeepsFronts old.tables ms) (sym (is s)) (fronts_same old.tables) in
    elim left [
      | at_manifest refusal reason edits survives log_same tables_same ↦ unchanged tables_same
      | at_log its edits refusal manifest reason left tables_same ↦ unchanged tables_same
      | at_new_manifest id c refusal unmade log_left reason edits survives tables_same ↦ unchanged tables_same
      | at_place id its c edits are elsewhere tables_same ↦ unchanged tables_same
      | at_ids id found c edits log manifest other named tables_same ↦ unchanged tables_same
      | at_repair id c edits log manifest named tables_same ↦ unchanged tables_same
      | at_edit id c edits are apart tables_same ↦ unchanged tables_same
      | at_tables id c edits are within reason synced ↦ fronts_left same_tables old.tables new.tables why unchanged itself synced
    ]
