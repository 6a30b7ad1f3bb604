-- What is so of the tables on their devices.
use Rattle.std.proofs.Common.{◌≡◌, inl, inr, ℕ, true, List, [], ◌∷◌, ◌++◌, refl}
use Rattle.std.proofs.lemmas.Bool.{cases_Bool}
use Rattle.wp_model.specs.Flushed.{InstalledEdit}
use Rattle.wp_outside.specs.Disk.{images}
use Rattle.wp_gatelog.proofs.SurvivalLemmas.{rest_spells}
use Rattle.wp_manifest.specs.Spelling.{MAGIC, IsManifestOf, head_stamp}
use Rattle.wp_manifest.proofs.EditLemmas.{last-push}
use Rattle.wp_contents.specs.Opens.{installed_of}
use Rattle.wp_table.specs.File.{HasTables}
use Rattle.wp_core.specs.Images.{MayName}
use Rattle.wp_parts.specs.VersionSet.{VersionSetState, IsNamed, IsEdits}
use Rattle.wp_parts.proofs.LogLemmas.{known_image}

-- ---- what a crash leaves

module _ (s : VersionSetState) (k : IsEdits s) (base : ℕ) (last_is : s.state.last ≡ installed_of base s.set.manifest.edit s.parts) where
  last_there : (tables : List ℕ) → images s.set.moments tables → HasTables s.set.manifest.log.id s.set.manifest.edit.flushed tables s.set.manifest.edit.tables s.parts
  last_there tables at = known_image _ s.set.moments tables at k.stores.left

  next_there : (tables : List ℕ) → images s.set.moments tables → HasTables s.set.manifest.log.id k.next.flushed tables k.next.tables k.next_parts
  next_there tables at = known_image _ s.set.moments tables at k.stores.left_next

  named_last : (image : List ℕ) → IsManifestOf s.set.manifest.log.id k.edits image → (edit : InstalledEdit) × IsNamed s image edit × MayName s.state edit
  named_last image spelled =
      (s.state.last, record { edits = k.edits; spelled = spelled; base = base; parts = s.parts; is = rw (← k.stores.manifest.last) last_is; there = rw (← k.stores.manifest.last) last_there }, inl refl)

  named_next : (image : List ℕ) → s.set.manifest.log.closed ≡ true → IsManifestOf s.set.manifest.log.id (k.edits ++ k.next ∷ []) image → (edit : InstalledEdit) × IsNamed s image edit × MayName s.state edit
  named_next image closed spelled =
      (installed_of k.next_base k.next k.next_parts, record { edits = k.edits ++ k.next ∷ []; spelled = spelled; base = k.next_base; parts = k.next_parts; is = rw (last-push k.edits k.next) refl; there = rw (last-push k.edits k.next) next_there }, inr (k.failed closed))

  pub manifest_tells : (image : List ℕ) → images s.set.manifest.log.moments image → (edit : InstalledEdit) × IsNamed s image edit × MayName s.state edit
  manifest_tells image at = elim (cases_Bool s.set.manifest.log.closed) [
    | inl closed ↦ elim (known_image _ s.set.manifest.log.moments image at (k.stores.manifest.left closed)).0 [
      | inl before ↦ named_last image before
      | inr after ↦ named_next image closed after
    ]
    | inr open_ ↦
        named_last image (
          k.stores.manifest.records,
          rest_spells MAGIC (head_stamp s.set.manifest.log.id) s.set.manifest.log.end [] [] k.stores.manifest.records s.set.manifest.log.moments (k.stores.manifest.rests open_) image at,
          k.stores.manifest.spelled,
        )
  ]
