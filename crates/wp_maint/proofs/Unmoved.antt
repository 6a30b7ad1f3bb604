-- While no device is called, what a crash leaves of all three opens to what the log may spell, from the edit's base on.
use Rattle.std.proofs.Common.{◌≡◌, inl, inr, ℕ, ◌<◌, ◌^◌, List, false, true≢false, Some, sym, subst, ap, ◌∙◌}
use Rattle.wp_model.specs.declared.entry.Entry.{Entry}
use Rattle.wp_model.specs.declared.segment.Segment.{Segment}
use Rattle.wp_model.specs.Flushed.{InstalledEdit, IsEditCovered}
use Rattle.wp_outside.specs.Disk.{images}
use Rattle.wp_manifest.specs.Spelling.{last_edit}
use Rattle.wp_tableset.specs.Set.{TableSetState}
use Rattle.wp_wal.specs.Wal.{WalState}
use Rattle.wp_core.specs.Images.{MayName, MaySpell}
use Rattle.wp_core.specs.IsSound.{IsSound}
use Rattle.wp_core.specs.Runs.{Reaches}
use Rattle.wp_core.specs.States.{WriteState, Installed, installed}
use Rattle.wp_core.specs.World.{World, Participant, history}
use Rattle.wp_core.proofs.CrashImages.{segment_by_crash}
use Rattle.wp_core.proofs.EachStep.{reached_is_sound}
use Rattle.wp_model.proofs.Tests.{none_some, same_some}
use Rattle.wp_rule.proofs.Maintenance.{edit_later}
use Rattle.wp_parts.specs.VersionSet.{VersionSetState, IsEdits}
use Rattle.wp_parts.specs.Log.{LogState, IsLog}
use Rattle.wp_shared.specs.Opening.{IsOneStore}
use Rattle.wp_contents.specs.Opens.{installed_of}
use Rattle.wp_parts.specs.Parts.{EditsStand, LogStands, log_first, set_first}
use Rattle.wp_shared.specs.Seats.{SharedState, SeatState, place_at}
use Rattle.wp_shared.proofs.Tables.{held_state}
use Rattle.wp_maint.specs.Calls.{AreSameTables, KeepsOnce, TablesBecame}
use Rattle.wp_maint.specs.Moments.{MaySpellAmid, OpensToSuch, SpellsCut, SpellsNamed}
use Rattle.wp_maint.specs.Renewal.{IsClosed, IsRenewed, IsSameLog, LogBecame, NamesEdit, OpensUnmoved}
use Rattle.wp_maint.proofs.Throughout.{log_amid, opens_as}

-- ---- the manifest's last edit

-- it is one that the state says, with its tables
names_some : (e : VersionSetState) → EditsStand e → (m t : List ℕ) → images e.set.manifest.log.moments m → images e.set.moments t → (edit : InstalledEdit) × MayName e.state edit × NamesEdit e m t edit
names_some e stand m t at_m at_t =
    let found = stand.0 m at_m in let named = found.1 in (
      found.0,
      found.2,
      record { edits = named.edits; parts = named.parts; spelled = named.spelled; is = named.is ∙ ap (λ (n : ℕ). installed_of n (last_edit named.edits) named.parts) (ap (λ (x : InstalledEdit). x.segment.base) (sym named.is)); there = named.there t at_t },
    )

covered_named : (w : World) → IsSound w → (edit : InstalledEdit) → MayName w.installed edit → IsEditCovered (history w) edit
covered_named w sound edit (inl last) = subst (λ (x : InstalledEdit). IsEditCovered (history w) x) (sym last) sound.versions.last
covered_named w sound edit (inr failed) = sound.versions.failed edit failed

-- ---- in a world with these tables

module _ (e : VersionSetState) (stand : EditsStand e) (fits : e.set.manifest.log.id < 2 ^ 32) (w : World) (sound : IsSound w) (here : w.installed ≡ e.state) where
  abbrev id : ℕ
  id = e.set.manifest.log.id

  -- where the log spells such entries in the segment of each edit that may be named
  opens_named : (Spells : List Entry → Type 0) → ((entries : List Entry) → Spells entries → MaySpellAmid w.writes entries) → (l m t : List ℕ)
      → ((edit : InstalledEdit) → MayName w.installed edit → (entries : List Entry) × Spells entries × SpellsCut id edit.segment entries l) → images e.set.manifest.log.moments m → images e.set.moments t → OpensToSuch Spells (MayName e.state) id l m t
  opens_named Spells amid l m t spells at_m at_t =
      let named = names_some e stand m t at_m at_t in let edit : InstalledEdit = named.0 in
      let may : MayName w.installed edit = subst (λ (x : Installed). MayName x edit) (sym here) named.1 in
      let found = spells edit may in let entries : List Entry = found.0 in let cut = found.2 in
      let left = log_amid w sound entries (amid entries found.1) in (
        edit,
        named.1,
        entries,
        found.1,
        opens_as e fits entries left.1 cut.0 cut.2 edit cut.3 (edit_later entries (history w) edit left.0 left.1 (covered_named w sound edit may)) l m t cut.1 named.2,
      )

  -- ... as a log between two steps does
  module _ (log : LogState) (stands : LogStands log) (same_id : log.wal.id ≡ id) (there : w.writes ≡ log.state) where
    spells_named : (l : List ℕ) → images log.wal.moments l → (edit : InstalledEdit) → MayName w.installed edit → (entries : List Entry) × MaySpell log.state entries × SpellsCut id edit.segment entries l
    spells_named l at edit may =
        let told = stands.0 l at in
        elim (segment_by_crash w sound edit may) [
          | inl same ↦ (
            told.0.0,
            told.0.2,
            subst (λ (x : ℕ × Segment). SpellsCut x.0 x.1 told.0.0 l) (λ i. (same_id i, (ap (λ (t : WriteState). t.segment) (sym there) ∙ sym same) i)) told.0.1,
          )
          | inr next ↦ (
            log.state.history,
            subst (λ (t : WriteState). MaySpell t t.history) there next.2,
            subst (λ (n : ℕ). SpellsCut n edit.segment log.state.history l) same_id (told.1 edit.segment (ap (λ (t : WriteState). t.next) (sym there) ∙ next.0)),
          )
        ]

    opens_both : OpensUnmoved (MaySpell log.state) (MayName e.state) e log
    opens_both l m t at_l at_m at_t = opens_named (MaySpell log.state) (λ entries may. inl (subst (λ (x : WriteState). MaySpell x entries) (sym there) may)) l m t (spells_named l at_l) at_m at_t

-- ---- as callers see it

module _ {D : Type 0} (z : SharedState D) (one : IsOneStore z.opened z.first) where
  -- the devices have the store's id
  tables_id : (e : VersionSetState) → IsEdits e → set_first z.first ≡ Some e.first → e.set.manifest.log.id ≡ one.wal.id
  tables_id e k of_store = k.id ∙ ap (λ (x : TableSetState). x.manifest.log.id) (same_some e.first one.set (sym of_store ∙ one.tables)) ∙ one.id

  log_id : (log : LogState) → IsLog log → log_first z.first ≡ Some log.first → log.wal.id ≡ one.wal.id
  log_id log k of_store = k.id ∙ ap (λ (w : WalState). w.id) (same_some log.first one.wal (sym of_store ∙ one.log))

  fits_store : (e : VersionSetState) → IsEdits e → set_first z.first ≡ Some e.first → e.set.manifest.log.id < 2 ^ 32
  fits_store e k of_store = subst (λ (n : ℕ). n < 2 ^ 32) (sym (tables_id e k of_store)) one.id_fits

  -- any two values behind the turns
  pub opens_each : (e : VersionSetState) → IsEdits e → EditsStand e → set_first z.first ≡ Some e.first → (log : LogState) → IsLog log → LogStands log → log_first z.first ≡ Some log.first
      → (w : World) → Reaches w → w.installed ≡ e.state → w.writes ≡ log.state → OpensUnmoved (MaySpell log.state) (MayName e.state) e log
  opens_each e k stand of_store log g stands log_of_store w reached here there = opens_both e stand (fits_store e k of_store) w (reached_is_sound w reached) here log stands (log_id log g log_of_store ∙ sym (tables_id e k of_store)) there

  -- one of them, and any log
  pub opens_amid : (e : VersionSetState) → IsEdits e → EditsStand e → set_first z.first ≡ Some e.first → (w : World) → Reaches w → w.installed ≡ e.state
      → (l m t : List ℕ) → SpellsNamed e.set.manifest.log.id w l → images e.set.manifest.log.moments m → images e.set.moments t → OpensToSuch (MaySpellAmid w.writes) (MayName e.state) e.set.manifest.log.id l m t
  opens_amid e k stand of_store w reached here l m t spells at_m at_t = opens_named e stand (fits_store e k of_store) w (reached_is_sound w reached) here (MaySpellAmid w.writes) (λ entries may. may) l m t spells at_m at_t

  -- the tables and the log are as they were, in one world
  module _ (s u : SeatState) (e : Installed) (d : WriteState) (tables : TablesBecame z e e AreSameTables) (log : LogBecame z d d IsSameLog) (running : e.halted ≡ false) (w : World) (reached : Reaches w) (at_once : (w.installed ≡ e) × (w.writes ≡ d)) where
    is_last : (edit : InstalledEdit) → MayName tables.before.state edit → edit ≡ e.last
    is_last edit (inl is) = is ∙ ap (λ (x : Installed). x.last) tables.before_is
    is_last edit (inr asked) = absurd (none_some tables.before.state.failed edit (tables.edits.none_failed (tables.edits.running (ap (λ (x : Installed). x.halted) tables.before_is ∙ running))) asked)

    pub opens_same : (Spells : List Entry → Type 0) → ((entries : List Entry) → MaySpell d entries → Spells entries) → OpensUnmoved Spells (λ edit. edit ≡ e.last) tables.before log.before
    opens_same Spells more l m t at_l at_m at_t =
        let k = opens_each tables.before tables.edits tables.so.1 tables.of_store log.before log.log log.so.1 log.of_store w reached (at_once.0 ∙ sym tables.before_is) (at_once.1 ∙ sym log.before_is) l m t at_l at_m at_t in
        (k.0, is_last k.0 k.1, k.2, more k.2 (subst (λ (x : WriteState). MaySpell x k.2) log.before_is k.3), k.4)

  module _ (Goes : Participant → Type 0) (s u : SeatState) (e : Installed) where
    pub opens_closed : (n : ℕ) (k : IsClosed Goes z s u e n) → OpensUnmoved (MaySpell k.closed.0) (λ edit. edit ≡ e.last) k.tables.before k.log.before
    opens_closed n k =
        let w = k.closed.1 in
        opens_same s u e k.closed.0 k.tables k.log k.running w.world w.there.reached k.at_once (MaySpell k.closed.0) (λ entries may. may)

    pub opens_nothing : (k : IsRenewed Goes z s u e) → OpensUnmoved (λ entries. entries ≡ u.knows.participant.seen) (λ edit. edit ≡ e.last) k.tables.before k.log.before
    opens_nothing k =
        let w = k.unclosed.1 in
        opens_same s u e k.unclosed.0 k.tables k.log k.running w.world w.there.reached k.at_once (λ entries. entries ≡ u.knows.participant.seen)
        (λ entries may. elim may [
          | inl is ↦ is ∙ k.spelled
          | inr closed ↦ absurd (true≢false (sym closed.0 ∙ k.unclosed.2))
        ])

  pub opens_halted : (s u : SeatState) (k : KeepsOnce z s u) (l m t : List ℕ) → SpellsNamed k.2.before.set.manifest.log.id k.1.world l → images k.2.before.set.manifest.log.moments m → images k.2.before.set.moments t
      → OpensToSuch (MaySpellAmid k.1.world.writes) (MayName k.0) k.2.before.set.manifest.log.id l m t
  opens_halted s u (e, found, tables) l m t spells at_m at_t =
      let w = found.world in
      let here : w.installed ≡ e = held_state (place_at z s.by) found.actor w (installed e) found.there found.held in
      let k = opens_amid tables.before tables.edits tables.so.1 tables.of_store w found.there.reached (here ∙ sym tables.before_is) l m t spells at_m at_t in
      (k.0, subst (λ (x : Installed). MayName x k.0) tables.before_is k.1, k.2, k.3, k.4)
