-- What a crash leaves in the midst of an install opens to the history that the log spells; and in the midst of a renewal each edit has its
-- segment.
use Rattle.std.proofs.Common.{◌≡◌, ◌⊎◌, inl, inr, ℕ, ◌<◌, ◌^◌, Bool, true, false, true≢false, List, [], ◌∷◌, ◌++◌, length, take, Option, Some, None, append_assoc, length-append, refl, sym, subst, ap, ◌∙◌, arith}
use Rattle.std.specs.Prelude.{IfSome}
use Rattle.std.proofs.Math.Seq.{take-append_seam}
use Rattle.wp_model.specs.declared.entry.Entry.{Entry}
use Rattle.wp_model.specs.declared.segment.Segment.{Segment}
use Rattle.wp_model.specs.Flushed.{InstalledEdit, IsEditCovered}
use Rattle.wp_model.specs.Legal.{IsLegal}
use Rattle.wp_model.specs.Versions.{AreInOrder}
use Rattle.wp_cuts.specs.Cut.{Cut, IsCut, cut_at, full_of}
use Rattle.wp_cuts.specs.LegalCut.{AreBelow}
use Rattle.wp_outside.specs.Disk.{Moment, Each, Passes, images}
use Rattle.wp_gatelog.specs.Moments.{Leaves}
use Rattle.wp_gatelog.proofs.SurvivalLemmas.{rest_spells}
use Rattle.wp_wal.specs.Spelling.{IsLogAt, HasAcknowledgedCut}
use Rattle.wp_wal.proofs.AppendLemmas.{running_cut}
use Rattle.wp_manifest.specs.Edit.{Edit}
use Rattle.wp_manifest.specs.Manifest.{ManifestState}
use Rattle.wp_manifest.specs.Spelling.{MAGIC, IsManifestOf, IsManifestOrNext, last_edit, head_stamp}
use Rattle.wp_manifest.proofs.EditLemmas.{last-push}
use Rattle.wp_merge.specs.Merge.{joined}
use Rattle.wp_merge.proofs.Sorted.{in_order_sorted}
use Rattle.wp_contents.specs.Opens.{installed_of}
use Rattle.wp_table.specs.File.{HasTables}
use Rattle.wp_core.specs.Sound.Actors.{StartsWith}
use Rattle.wp_core.specs.Images.{LogTells, ManifestTells, MayName, MaySpell}
use Rattle.wp_core.specs.IsSound.{IsSound}
use Rattle.wp_core.specs.States.{Installed}
use Rattle.wp_core.specs.World.{World, history}
use Rattle.wp_core.proofs.CrashImages.{left_by_crash}
use Rattle.wp_core.proofs.EachStep.{reached_is_sound}
use Rattle.wp_model.proofs.Tests.{none_some}
use Rattle.wp_rule.proofs.Maintenance.{edit_later}
use Rattle.wp_parts.specs.VersionSet.{VersionSetState, IsEdits, IsNamed}
use Rattle.wp_parts.specs.Installs.{SurvivesInstall}
use Rattle.wp_parts.specs.Log.{LogState, IsLog, spells}
use Rattle.wp_shared.proofs.Ended as ended
use Rattle.wp_parts.proofs.LogLemmas.{known_image}
use Rattle.wp_shared.proofs.Onward.{starts_on, starts_equal, starts_same}
use Rattle.wp_parts.proofs.Reopens.{ReopensEdit, reopens_edit}
use Rattle.wp_maint.specs.Calls.{IsUncalled}
use Rattle.wp_maint.specs.Moments.{LeftSince, LeftInInstall, MaySpellAmid, OpensFrom, OpensFromBase, OpensThroughout, SpellsCut}
use Rattle.wp_maint.specs.Renewal.{LeftInRenewal, SurvivesBeside, NamesEdit, NamesItsSegment, segment_of}

-- ---- what is so at each moment

same_front : (xs ys back : List Moment) → xs ++ back ≡ ys ++ back → xs ≡ ys
same_front xs ys back e =
    let counted : length xs ≡ length ys = (let l = ap (λ (l : List Moment). length l) e in omega (arith, l, length-append xs back, length-append ys back)) in
    sym (take-append_seam xs back) ∙ ap (take (length xs)) e ∙ ap (λ (n : ℕ). take n (ys ++ back)) counted ∙ take-append_seam ys back

each_back : (P : Moment → Type 0) (front back : List Moment) → Each P (front ++ back) → Each P back
each_back P [] back each = each
each_back P (m ∷ front) back each = each_back P front back each.1

-- what is so of each image at the newest of the old moments, and of each that came since
since_holds : (P : List ℕ → Type 0) (old since : List Moment) → ((image : List ℕ) → images old image → P image) → Each (Leaves P) since → (image : List ℕ) → images (since ++ old) image → P image
since_holds P old [] rests each image at = rests image at
since_holds P old (m ∷ since) rests each image at = each.0 image at

holds_since : (P : List ℕ → Type 0) (old new : List Moment) → ((image : List ℕ) → images old image → P image) → Passes (Leaves P) old new → (image : List ℕ) → LeftSince old new image → P image
holds_since P old new rests passes image left =
    let more = passes.0 in let later = left.0 in let since = left.1 in
    let same : later ++ since ≡ more = same_front (later ++ since) more old (append_assoc later since old ∙ sym left.2 ∙ passes.1) in
    since_holds P old since rests (each_back (Leaves P) later since (subst (Each (Leaves P)) (sym same) passes.2)) image left.3

-- ---- what the log spells

pub log_amid : (w : World) → IsSound w → (entries : List Entry) → MaySpellAmid w.writes entries → StartsWith entries (history w) × IsLegal entries
log_amid w sound entries (inl may) = left_by_crash w sound entries may
log_amid w sound entries (inr is) = ((w.writes.pending, is), subst IsLegal (sym is) sound.history.legal_next)

-- the log is cut at the base of its segment
pub log_based : (log : LogState) (g : IsLog log) → g.cut.base ≡ log.state.segment.base
log_based log g = g.stores.based ∙ ap (λ (x : Segment). x.base) (sym g.segment)

-- what is so at the end of what passed
ends_since : (P : Moment → Type 0) (old new : List Moment) (image : List ℕ) → Passes P old new → images new image → LeftSince old new image
ends_since P old new image passes at = ([], passes.0, passes.1, subst (λ (ms : List Moment). images ms image) passes.1 at)

-- ---- what opens

-- where the manifest's last edit is this one, with its tables, and the log spells the entries from its base on
pub opens_as : (old : VersionSetState) → old.set.manifest.log.id < 2 ^ 32 → (entries : List Entry) → IsLegal entries → (c : Cut) → IsCut entries c → (edit : InstalledEdit) → c.base ≡ edit.segment.base → IsEditCovered entries edit
    → (log manifest tables : List ℕ) → IsLogAt old.set.manifest.log.id edit.segment.place c log → NamesEdit old manifest tables edit → OpensFromBase old.set.manifest.log.id entries edit log manifest tables
opens_as old fits entries legal c cut edit based covered log manifest tables spelled named =
    let segment : edit.segment ≡ (installed_of edit.segment.base (last_edit named.edits) named.parts).segment = ap (λ (x : InstalledEdit). x.segment) named.is in
    let order : AreInOrder edit.versions = subst AreInOrder (ap (λ (x : InstalledEdit). x.versions) (sym named.is)) (in_order_sorted (joined named.parts)) in
    let r : ReopensEdit entries c edit = reopens_edit entries c edit legal cut based order covered in
    let full : full_of c edit.versions ≡ full_of c (installed_of edit.segment.base (last_edit named.edits) named.parts).versions = ap (λ (x : InstalledEdit). full_of c x.versions) named.is in
    let named_is : edit ≡ installed_of c.base (last_edit named.edits) named.parts = named.is ∙ ap (λ (n : ℕ). installed_of n (last_edit named.edits) named.parts) (sym based) in (
      full_of c edit.versions,
      ended.opens_from entries c edit edit.segment.base cut.within based r,
      (
        record {
          id_fits = fits;
          edits = named.edits;
          installed = named.spelled;
          cut = c;
          spelled = subst (λ (x : Segment). IsLogAt old.set.manifest.log.id x.place c log) segment spelled;
          judged = record { orderly = r.orderly; legal = r.entries };
          parts = named.parts;
          there = named.there;
          full = full;
          legal = r.legal;
          covering = record {
            below = subst (λ (x : InstalledEdit). AreBelow c x.versions) named.is r.below;
            covered = subst (λ (x : List Entry × InstalledEdit). IsEditCovered x.0 x.1) (λ i. (full i, named_is i)) r.covered;
          };
        },
        named_is,
      ),
    )

-- ---- the tables' two devices

module _ (old new : VersionSetState) (next : InstalledEdit) (k : IsEdits old) (running : old.state.halted ≡ false) (s : SurvivesInstall old new next) where
  abbrev id : ℕ
  id = old.set.manifest.log.id

  abbrev Last : List ℕ → Type 0
  Last image = HasTables id (last_edit s.edits).flushed image (last_edit s.edits).tables old.parts

  abbrev Next : List ℕ → Type 0
  Next image = HasTables id s.next.flushed image s.next.tables s.next_parts

  manifest_rests : (image : List ℕ) → images old.set.manifest.log.moments image → IsManifestOf id s.edits image
  manifest_rests image at =
      (s.stores.manifest.records, rest_spells MAGIC (head_stamp id) old.set.manifest.log.end [] [] s.stores.manifest.records old.set.manifest.log.moments (s.stores.manifest.rests (k.running running)) image at, s.stores.manifest.spelled)

  manifest_since : (image : List ℕ) → LeftSince old.set.manifest.log.moments new.set.manifest.log.moments image → IsManifestOrNext id s.edits s.next image
  manifest_since = holds_since (IsManifestOrNext id s.edits s.next) old.set.manifest.log.moments new.set.manifest.log.moments (λ image rests. inl (manifest_rests image rests)) s.manifest

  tables_rest : (image : List ℕ) → images old.set.moments image → Last image
  tables_rest image at =
      subst (λ (e : Edit). HasTables id e.flushed image e.tables old.parts) s.stores.manifest.last
      (known_image (λ bytes. HasTables id old.set.manifest.edit.flushed bytes old.set.manifest.edit.tables old.parts) old.set.moments image at s.stores.left)

  tables_since : (image : List ℕ) → LeftSince old.set.moments new.set.moments image → Last image
  tables_since = holds_since Last old.set.moments new.set.moments tables_rest s.tables

  tables_done : (image : List ℕ) → images new.set.moments image → Last image
  tables_done image at = tables_since image (ends_since (Leaves Last) old.set.moments new.set.moments image s.tables at)

  last_of_more : s.next ≡ last_edit (s.edits ++ s.next ∷ [])
  last_of_more = sym (last-push s.edits s.next)

  -- the next edit is the last one of those and itself
  next_named : next ≡ installed_of next.segment.base (last_edit (s.edits ++ s.next ∷ [])) s.next_parts
  next_named = s.next_is ∙ ap (λ (e : Edit). installed_of next.segment.base e s.next_parts) last_of_more

  next_there : (image : List ℕ) → Next image → HasTables id (last_edit (s.edits ++ s.next ∷ [])).flushed image (last_edit (s.edits ++ s.next ∷ [])).tables s.next_parts
  next_there image there = subst (λ (e : Edit). HasTables id e.flushed image e.tables s.next_parts) last_of_more there

  names_last : (m t : List ℕ) → IsManifestOf id s.edits m → Last t → NamesEdit old m t old.state.last
  names_last m t named there = record { edits = s.edits; parts = old.parts; spelled = named; is = s.last_is; there = there }

  names_next : (m t : List ℕ) → IsManifestOf id (s.edits ++ s.next ∷ []) m → Next t → NamesEdit old m t next
  names_next m t named there = record { edits = s.edits ++ s.next ∷ []; parts = s.next_parts; spelled = named; is = next_named; there = next_there t there }

  -- Once the tables' device is called, the manifest names the last edit, and its tables are there; or the next one, with its.
  done_since : (manifest tables : List ℕ) → LeftSince old.set.manifest.log.moments new.set.manifest.log.moments manifest → images new.set.moments tables
      → (IsManifestOf id s.edits manifest × Last tables) ⊎ (IsManifestOf id (s.edits ++ s.next ∷ []) manifest × Next tables)
  done_since manifest tables since at = elim s.next_tables [
    | inl uncalled ↦ inl (holds_since (IsManifestOf id s.edits) old.set.manifest.log.moments new.set.manifest.log.moments manifest_rests ([], uncalled, tt) manifest since, tables_done tables at)
    | inr there ↦ elim (manifest_since manifest since) [
      | inl named ↦ inl (named, tables_done tables at)
      | inr named ↦ inr (named, known_image Next new.set.moments tables at there)
    ]
  ]

  -- ---- an install

  module _ (seen : List Entry) (covers : IsEditCovered seen next) (same : next.segment ≡ old.state.last.segment) (fits : id < 2 ^ 32) (w : World) (sound : IsSound w) (here : w.installed ≡ old.state) (starts : StartsWith (history w) seen) (entries : List Entry) (may : MaySpellAmid w.writes entries) (log manifest tables : List ℕ) (spelled : SpellsCut id old.state.last.segment entries log) where
    left : StartsWith entries (history w) × IsLegal entries
    left = log_amid w sound entries may

    covered_last : IsEditCovered entries old.state.last
    covered_last = edit_later entries (history w) old.state.last left.0 left.1 (subst (λ (t : Installed). IsEditCovered (history w) t.last) here sound.versions.last)

    covered_next : IsEditCovered entries next
    covered_next = edit_later entries (history w) next left.0 left.1 (edit_later (history w) seen next starts sound.history.legal covers)

    abbrev opens_last : IsManifestOf id s.edits manifest → Last tables → (edit : InstalledEdit) × ((edit ≡ old.state.last) ⊎ (edit ≡ next)) × OpensFromBase id entries edit log manifest tables
    opens_last named there = (old.state.last, inl refl, opens_as old fits entries left.1 spelled.0 spelled.2 old.state.last spelled.3 covered_last log manifest tables spelled.1 (names_last manifest tables named there))

    abbrev opens_next : IsManifestOf id (s.edits ++ s.next ∷ []) manifest → Next tables → (edit : InstalledEdit) × ((edit ≡ old.state.last) ⊎ (edit ≡ next)) × OpensFromBase id entries edit log manifest tables
    opens_next named there =
        let at : IsLogAt id next.segment.place spelled.0 log = subst (λ (x : Segment). IsLogAt id x.place spelled.0 log) (sym same) spelled.1 in
        let based : spelled.0.base ≡ next.segment.base = spelled.3 ∙ ap (λ (x : Segment). x.base) (sym same) in
        (next, inr refl, opens_as old fits entries left.1 spelled.0 spelled.2 next based covered_next log manifest tables at (names_next manifest tables named there))

    pub opens_amid : LeftInInstall old new manifest tables → (edit : InstalledEdit) × ((edit ≡ old.state.last) ⊎ (edit ≡ next)) × OpensFromBase id entries edit log manifest tables
    opens_amid (inl (at, since)) = opens_last (manifest_rests manifest at) (tables_since tables since)
    opens_amid (inr (since, at)) = elim (done_since manifest tables since at) [
      | inl last ↦ opens_last last.0 last.1
      | inr more ↦ opens_next more.0 more.1
    ]

  -- ---- a renewal

  module _ (log moved : LogState) (g : IsLog log) (open_ : log.state.closed ≡ false) (whole : log.state.log ≡ log.state.history) (coupled : log.state.segment ≡ old.state.last.segment) where
    cut_now : g.cut ≡ cut_at log.state.history log.state.segment.base
    cut_now = g.is_cut.is ∙ (λ i. cut_at (whole i) (log_based log g i))

    device_open : log.wal.closed ≡ false
    device_open = by log.wal.closed refl
      where
        by : (closed : Bool) → log.wal.closed ≡ closed → log.wal.closed ≡ false
        by false is = is
        by true is = absurd (true≢false (sym (g.shut is) ∙ open_))

    abbrev At : List ℕ → Type 0
    At image = IsLogAt log.wal.id log.state.segment.place g.cut image

    log_rests : (image : List ℕ) → images log.wal.moments image → At image
    log_rests image at =
        subst (λ (x : Segment). IsLogAt log.wal.id x.place g.cut image) (sym g.segment)
        (known_image (λ bytes. IsLogAt log.wal.id log.wal.segment.place g.cut bytes × HasAcknowledgedCut log.wal.id log.wal.segment.place g.cut bytes) log.wal.moments image at (running_cut log.wal g.cut log.state.failed g.stores device_open)).0

    -- at the place that the edit names the log spells the history, cut at its base
    abbrev HasItsSegment : List ℕ → InstalledEdit → Type 0
    HasItsSegment image edit = IsLogAt log.wal.id edit.segment.place (cut_at log.state.history edit.segment.base) image

    has_last : (image : List ℕ) → At image → HasItsSegment image old.state.last
    has_last image at = subst (λ (x : Segment). IsLogAt log.wal.id x.place (cut_at log.state.history x.base) image) coupled (subst (λ (d : Cut). IsLogAt log.wal.id log.state.segment.place d image) cut_now at)

    module _ (segment : Option Segment) (b : SurvivesBeside log moved segment) where
      log_passes : Passes (Leaves At) log.wal.moments moved.wal.moments
      log_passes = b.still g.cut (subst (λ (h : List Entry). IsCut h g.cut) whole g.is_cut) (log_based log g)

      log_since : (image : List ℕ) → LeftSince log.wal.moments moved.wal.moments image → At image
      log_since = holds_since At log.wal.moments moved.wal.moments log_rests log_passes

      -- until the manifest may be called
      before_edit : (l m t : List ℕ) → LeftInRenewal old new log moved l m t
          → (HasItsSegment l old.state.last × NamesEdit old m t old.state.last)
          ⊎ (HasItsSegment l old.state.last × images moved.wal.moments l × LeftSince old.set.manifest.log.moments new.set.manifest.log.moments m × images new.set.moments t)
      before_edit l m t (inl (at_l, at_m, since)) = inl (has_last l (log_rests l at_l), names_last m t (manifest_rests m at_m) (tables_since t since))
      before_edit l m t (inr (inl (since, at_m, at_t))) = inl (has_last l (log_since l since), names_last m t (manifest_rests m at_m) (tables_done t at_t))
      before_edit l m t (inr (inr (at_l, since, at_t))) = inr (has_last l (log_since l (ends_since (Leaves At) log.wal.moments moved.wal.moments l log_passes at_l)), at_l, since, at_t)

    has_next : SurvivesBeside log moved (Some next.segment) → (image : List ℕ) → images moved.wal.moments image → HasItsSegment image next
    has_next b image at =
        (known_image (λ bytes. IsLogAt log.wal.id next.segment.place (cut_at log.state.history next.segment.base) bytes × HasAcknowledgedCut log.wal.id next.segment.place (cut_at log.state.history next.segment.base) bytes) moved.wal.moments image at b.beside.2).0

    uncalled_since : IsUncalled old new → (image : List ℕ) → LeftSince old.set.manifest.log.moments new.set.manifest.log.moments image → IsManifestOf id s.edits image
    uncalled_since uncalled = holds_since (IsManifestOf id s.edits) old.set.manifest.log.moments new.set.manifest.log.moments manifest_rests ([], ap (λ (x : ManifestState). x.log.moments) uncalled, tt)

    pub names_its_segment : (asked : Option InstalledEdit) → IfSome asked (λ edit. edit ≡ next) → (asked ≡ None → IsUncalled old new) → SurvivesBeside log moved (segment_of asked) → NamesItsSegment old new log moved asked
    names_its_segment None is uncalled b l m t left = elim (before_edit None b l m t left) [
      | inl last ↦ (old.state.last, inl refl, last.1, last.0)
      | inr more ↦ (old.state.last, inl refl, names_last m t (uncalled_since (uncalled refl) m more.2) (tables_done t more.3), more.0)
    ]
    names_its_segment (Some edit) is uncalled b l m t left = elim (before_edit (Some edit.segment) b l m t left) [
      | inl last ↦ (old.state.last, inl refl, last.1, last.0)
      | inr more ↦ elim (done_since m t more.2 more.3) [
        | inl last ↦ (old.state.last, inl refl, names_last m t last.0 last.1, more.0)
        | inr named ↦ (next, inr (ap Some is), names_next m t named.0 named.1, has_next (subst (λ (x : InstalledEdit). SurvivesBeside log moved (Some x.segment)) is b) l more.1)
      ]
    ]

-- ---- no device is called in a renewal

-- each image names the last edit, with its tables, and the log has the history at its place
pub names_still : (e : VersionSetState) (log : LogState) → e.state.failed ≡ None → log.state.closed ≡ false → log.state.log ≡ log.state.history → log.state.segment ≡ e.state.last.segment
    → ManifestTells (images e.set.manifest.log.moments) (IsNamed e) e.state → LogTells (images log.wal.moments) (spells log) log.state → NamesItsSegment e e log log None
names_still e log none open_ whole coupled edits_tell log_tells l m t left =
    let found = edits_tell m (at_m left) in let named = found.1 in let spelled = (log_tells l (at_l left)).0 in
    let last : found.0 ≡ e.state.last = is_last found.0 found.2 in
    let based : named.base ≡ found.0.segment.base = sym (ap (λ (x : InstalledEdit). x.segment.base) named.is) in
    let history : spelled.0 ≡ log.state.history = is_spelled spelled.0 spelled.2 in
    let segment : log.state.segment ≡ found.0.segment = coupled ∙ ap (λ (x : InstalledEdit). x.segment) (sym last) in (
      found.0,
      inl last,
      record { edits = named.edits; parts = named.parts; spelled = named.spelled; is = named.is ∙ ap (λ (n : ℕ). installed_of n (last_edit named.edits) named.parts) based; there = named.there t (at_t left) },
      subst (λ (x : ℕ × Cut). IsLogAt log.wal.id x.0 x.1 l) (λ i. ((segment i).place, (spelled.1.2.is ∙ (λ j. cut_at (history j) ((spelled.1.3 ∙ ap (λ (s : Segment). s.base) segment) j))) i)) spelled.1.1,
    )
  where
    rests : (moments : List Moment) (image : List ℕ) → LeftSince moments moments image → images moments image
    rests moments = holds_since (images moments) moments moments (λ image at. at) ([], refl, tt)

    at_l : LeftInRenewal e e log log l m t → images log.wal.moments l
    at_l (inl k) = k.0
    at_l (inr (inl k)) = rests log.wal.moments l k.0
    at_l (inr (inr k)) = k.0

    at_m : LeftInRenewal e e log log l m t → images e.set.manifest.log.moments m
    at_m (inl k) = k.1
    at_m (inr (inl k)) = k.1
    at_m (inr (inr k)) = rests e.set.manifest.log.moments m k.1

    at_t : LeftInRenewal e e log log l m t → images e.set.moments t
    at_t (inl k) = rests e.set.moments t k.2
    at_t (inr (inl k)) = k.2
    at_t (inr (inr k)) = k.2

    is_last : (edit : InstalledEdit) → MayName e.state edit → edit ≡ e.state.last
    is_last edit (inl is) = is
    is_last edit (inr asked) = absurd (none_some e.state.failed edit none asked)

    is_spelled : (entries : List Entry) → MaySpell log.state entries → entries ≡ log.state.history
    is_spelled entries (inl is) = is ∙ whole
    is_spelled entries (inr closed) = absurd (true≢false (sym closed.0 ∙ open_))

-- ---- as callers see it

pub opens_from : (seen : List Entry) (old new : VersionSetState) (next : InstalledEdit) → IsEdits old → old.state.halted ≡ false → SurvivesInstall old new next → IsEditCovered seen next → next.segment ≡ old.state.last.segment → OpensFrom seen old new next
opens_from seen old new next k running s covers same fits w reached here starts entries may log manifest tables spelled left = opens_amid old new next k running s seen covers same fits w (reached_is_sound w reached) here starts entries may log manifest tables spelled left

pub opens_throughout : (seen after : List Entry) (old new : VersionSetState) (next edit : InstalledEdit) → IsEdits old → old.state.halted ≡ false → SurvivesInstall old new next → IsEditCovered seen next → next.segment ≡ old.state.last.segment → after ≡ seen → next ≡ edit → OpensThroughout seen after old new edit
opens_throughout seen after old new next edit k running s covers there same is = record {
  seen = seen;
  later = starts_same seen;
  within = starts_equal seen after same;
  opens = subst (OpensFrom seen old new) is (opens_from seen old new next k running s covers there);
}

-- of a call between two others, and so between two that are further apart
pub throughout_between : (one two three four : List Entry) (old new : VersionSetState) (next edit : InstalledEdit) → StartsWith two one → StartsWith four three → next ≡ edit → OpensThroughout two three old new next → OpensThroughout one four old new edit
throughout_between one two three four old new next edit starts grown is k = record {
  seen = k.seen;
  later = starts_on one two k.seen starts k.later;
  within = starts_on k.seen three four k.within grown;
  opens = subst (OpensFrom k.seen old new) is k.opens;
}
