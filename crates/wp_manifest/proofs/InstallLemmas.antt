-- What an install makes of a manifest that stores edits.
use Rattle.std.proofs.Common.{◌≡◌, ℕ, true, false, List, [], ◌∷◌, ◌++◌, length, Result, Ok, Err, sym, ap, subst, ◌∙◌, inl, inr, ◌+◌, length-append, arith}
use Rattle.std.proofs.lemmas.List.{drop_all}
use Rattle.wp_outside.specs.Disk.{Moment, IfKnown, Each, Passes, images}
use Rattle.wp_fields.specs.declared.format.Format.{Format}
use Rattle.wp_fields.specs.declared.format.Format.TheVariants.{One}
use Rattle.wp_gatelog.specs.declared.log.AppendError.{AppendError}
use Rattle.wp_gatelog.specs.declared.log.AppendError.TheVariants.{DiskFault, Closed}
use Rattle.wp_gatelog.specs.Append.{Appends, FrameAppended, FrameRefused}
use Rattle.wp_gatelog.specs.Durability.{HasAcknowledged}
use Rattle.wp_gatelog.specs.Log.{LogState, IsAtRest, Rests, BeforeOrAfter, stamp_of}
use Rattle.wp_gatelog.specs.Moments.{Leaves, LeavesFrom}
use Rattle.wp_gatelog.specs.Spelling.{Stamp, stamped}
use Rattle.wp_manifest.specs.Edit.{Edit, IsEdit, no_edit, edit_bytes}
use Rattle.wp_manifest.specs.Manifest.{InstallRefused, ManifestState, NamesThere, StoresEdits}
use Rattle.wp_manifest.specs.Spelling.{MAGIC, head_stamp, AreEdits, IsManifestOf, IsManifestOrNext, last_edit}
use Rattle.wp_manifest.proofs.EditLemmas.{AreEdits-push, last-push}

-- what a log at rest leaves has its records acknowledged
abbrev pub AcknowledgesAtRest : Type 0
AcknowledgesAtRest = (magic : List ℕ) (stamp : Stamp) (end : ℕ) (front dead : List ℕ) (records : List (List ℕ)) (m : Moment) → IsAtRest magic stamp end front dead records m → LeavesFrom (length front) (HasAcknowledged magic stamp records) m

-- ---- images

-- before or after, an image spells the edits, or them and the new one
grown_edits : (id : ℕ) (records : List (List ℕ)) (edits : List Edit) (next : Edit) (image : List ℕ) → AreEdits records edits → IsEdit next → BeforeOrAfter 0 MAGIC (head_stamp id) records (edit_bytes next) image → IsManifestOrNext id edits next image
grown_edits id records edits next image spelled is h =
    elim h [
      | inl before ↦ inl (records, before, spelled)
      | inr after ↦ inr (records ++ edit_bytes next ∷ [], after, AreEdits-push records edits next spelled is)
    ]

each_grown : (id : ℕ) (records : List (List ℕ)) (edits : List Edit) (next : Edit) (moments : List Moment) → AreEdits records edits → IsEdit next → Each (Leaves (BeforeOrAfter 0 MAGIC (head_stamp id) records (edit_bytes next))) moments → Each (Leaves (IsManifestOrNext id edits next)) moments
each_grown id records edits next [] spelled is each = tt
each_grown id records edits next (m ∷ more) spelled is each = (λ image at. grown_edits id records edits next image spelled is (each.0 image at), each_grown id records edits next more spelled is each.1)

-- what its log's head says
stored_stamp : (manifest : ManifestState) (edits : List Edit) (next : Edit) → StoresEdits manifest edits next → stamp_of manifest.log ≡ head_stamp manifest.log.id
stored_stamp manifest edits next stores = ap (λ (f : Format). stamped f manifest.log.id) stores.version

pub rests_found : (manifest : ManifestState) (edits : List Edit) (next : Edit) (stores : StoresEdits manifest edits next) → manifest.log.closed ≡ false → Rests MAGIC manifest.log [] [] stores.records
rests_found manifest edits next stores running =
    subst (λ (s : Stamp). IfKnown manifest.log.moments (IsAtRest MAGIC s manifest.log.end [] [] stores.records)) (sym (stored_stamp manifest edits next stores)) (stores.rests running)

pub passes_edits : {T E : Type 0} (old : ManifestState) (new : LogState) (bytes : List ℕ) (next : Edit) (result : Result T E) → bytes ≡ edit_bytes next → IsEdit next → Appends bytes old.log new result
    → (edits : List Edit) → StoresEdits old edits no_edit → old.log.closed ≡ false → Passes (Leaves (IsManifestOrNext old.log.id edits next)) old.log.moments new.moments
passes_edits old new bytes next result spelling is appends edits stores running =
    let appended = subst (λ (b : List ℕ). Appends b old.log new result) spelling appends MAGIC [] [] stores.records (rests_found old edits no_edit stores) in
    let passed = subst (λ (s : Stamp). Passes (Leaves (BeforeOrAfter 0 MAGIC s stores.records (edit_bytes next))) old.log.moments new.moments) (stored_stamp old edits no_edit stores) appended.any_moment in
    (passed.0, passed.1, each_grown old.log.id stores.records edits next passed.0 stores.spelled is passed.2)

-- the records are acknowledged at the newest moment
acknowledged_now : AcknowledgesAtRest → (stamp : Stamp) (end : ℕ) (records : List (List ℕ)) (old new : List Moment) → IfKnown old (IsAtRest MAGIC stamp end [] [] records) → Passes (Leaves (HasAcknowledged MAGIC stamp records)) old new → IfKnown new (Leaves (HasAcknowledged MAGIC stamp records))
acknowledged_now at_rest stamp end records [] new rests ([], is, each) = rw is tt
acknowledged_now at_rest stamp end records (m ∷ past) new rests ([], is, each) = rw is (at_rest MAGIC stamp end [] [] records m rests)
acknowledged_now at_rest stamp end records old new rests (m ∷ more, is, each) = rw is each.0

both_left : (P Q : List ℕ → Type 0) (moments : List Moment) → ((image : List ℕ) → images moments image → P image) → IfKnown moments (Leaves Q) → IfKnown moments (Leaves (λ image. P image × Q image))
both_left P Q [] p q = tt
both_left P Q (m ∷ past) p q = λ image at. (p image at, q image at)

-- ---- an install

pub stores_installed : {T E : Type 0} (x : T) (old : ManifestState) (new : LogState) (bytes : List ℕ) (edit : Edit) → bytes ≡ edit_bytes edit → IsEdit edit → FrameAppended old.log new bytes → Appends {E = E} bytes old.log new (Ok x)
    → (edits : List Edit) → StoresEdits old edits no_edit → StoresEdits (record { log = new; edit = edit }) (edits ++ edit ∷ []) no_edit
stores_installed {T} {E} x old new bytes edit spelling is appended appends edits stores =
    let running : new.closed ≡ old.log.closed = ap (λ (s : LogState). s.closed) appended.changed in
    let was_open = appended.was_open in
    let count : new.count ≡ old.log.count + 1 = ap (λ (s : LogState). s.count) appended.changed in
    let version : new.format ≡ One = ap (λ (s : LogState). s.format) appended.changed ∙ stores.version in
    record {
      records = stores.records ++ edit_bytes edit ∷ [];
      spelled = AreEdits-push stores.records edits edit stores.spelled is;
      counted = omega (arith, count, stores.counted, length-append edits (edit ∷ []));
      last = sym (last-push edits edit);
      version = version;
      rests = λ _. subst (λ (s : Stamp). IfKnown new.moments (IsAtRest MAGIC s new.end [] [] (stores.records ++ edit_bytes edit ∷ []))) (ap (λ (f : Format). stamped f new.id) version)
          (subst (λ (l : List ℕ). Rests MAGIC new [] l (stores.records ++ edit_bytes edit ∷ [])) (drop_all (length (edit_bytes edit) + 9) [] (omega arith))
          (subst (λ (b : List ℕ). Appends {T = T} {E = E} b old.log new (Ok x)) spelling appends MAGIC [] [] stores.records (rests_found old edits no_edit stores)).rests);
      left = λ closed. absurd cc;
    }

stores_failed : {T E : Type 0} (e : E) (old : ManifestState) (new : LogState) (bytes : List ℕ) (edit : Edit) → AcknowledgesAtRest → bytes ≡ edit_bytes edit → IsEdit edit → FrameRefused old.log new DiskFault → Appends {T = T} bytes old.log new (Err e)
    → (edits : List Edit) → StoresEdits old edits no_edit → StoresEdits (record { log = new; edit = old.edit }) edits edit
stores_failed {T} {E} e old new bytes edit at_rest spelling is refuses appends edits stores =
    let rests = rests_found old edits no_edit stores refuses.0 in
    let named = stored_stamp old edits no_edit stores in
    let same : new.id ≡ old.log.id = ap (λ (s : LogState). s.id) refuses.2 in
    let closed : new.closed ≡ true = ap (λ (s : LogState). s.closed) refuses.2 in
    let count : new.count ≡ old.log.count = ap (λ (s : LogState). s.count) refuses.2 in
    let after = subst (λ (b : List ℕ). Appends {T = T} {E = E} b old.log new (Err e)) spelling appends MAGIC [] [] stores.records (rests_found old edits no_edit stores) in
    let still = subst (λ (s : Stamp). IfKnown new.moments (Leaves (HasAcknowledged MAGIC s stores.records))) named
    (acknowledged_now at_rest (stamp_of old.log) old.log.end stores.records old.log.moments new.moments rests after.acknowledged) in
    let either = λ (image : List ℕ) (at : images new.moments image). grown_edits old.log.id stores.records edits edit image stores.spelled is
    (subst (λ (s : Stamp). BeforeOrAfter 0 MAGIC s stores.records (edit_bytes edit) image) named (after.left rests image at)) in
    record {
      records = stores.records;
      spelled = stores.spelled;
      counted = count ∙ stores.counted;
      last = stores.last;
      version = ap (λ (s : LogState). s.format) refuses.2 ∙ stores.version;
      rests = λ reopened. absurd cc;
      left = λ _. rw same (both_left (IsManifestOrNext old.log.id edits edit) (HasAcknowledged MAGIC (head_stamp old.log.id) stores.records) new.moments either still);
    }

pub install_refused : {T E : Type 0} (e : E) (old : ManifestState) (new : LogState) (bytes : List ℕ) (edit : Edit) (why : AppendError) → AcknowledgesAtRest → bytes ≡ edit_bytes edit → IsEdit edit → FrameRefused old.log new why → Appends {T = T} bytes old.log new (Err e)
    → InstallRefused old (record { log = new; edit = old.edit }) edit why
install_refused e old new bytes edit DiskFault at_rest spelling is refuses appends =
    (refuses.0, refuses.1, ap (λ (l : LogState). record old { log = l }) refuses.2, stores_failed e old new bytes edit at_rest spelling is refuses appends)
install_refused e old new bytes edit (Closed n) at_rest spelling is refuses appends =
    (refuses.0, refuses.1, ap (λ (l : LogState). record old { log = l }) refuses.2)

-- ---- beside another device

pub names_there : (Has : Edit → List ℕ → Type 0) (old : ManifestState) (new others : List Moment) (edit : Edit) (edits : List Edit) → StoresEdits old edits no_edit → IfKnown others (Leaves (Has old.edit)) → IfKnown others (Leaves (Has edit))
    → Passes (Leaves (IsManifestOrNext old.log.id edits edit)) old.log.moments new → Passes (NamesThere Has old.log.id others) old.log.moments new
names_there Has old new others edit edits stores last next passed = (passed.0, passed.1, each_named passed.0 passed.2)
  where
    named : (image : List ℕ) → IsManifestOrNext old.log.id edits edit image → (es : List Edit) × IsManifestOf old.log.id es image × IfKnown others (Leaves (Has (last_edit es)))
    named image (inl before) = (edits, before, subst (λ (e : Edit). IfKnown others (Leaves (Has e))) stores.last last)
    named image (inr after) = (edits ++ edit ∷ [], after, subst (λ (e : Edit). IfKnown others (Leaves (Has e))) (sym (last-push edits edit)) next)

    each_named : (ms : List Moment) → Each (Leaves (IsManifestOrNext old.log.id edits edit)) ms → Each (NamesThere Has old.log.id others) ms
    each_named [] each = tt
    each_named (m ∷ ms) each = (λ image at. named image (each.0 image at), each_named ms each.1)

-- ---- what a refusal of the append is

pub refused_id : (old new : LogState) (why : AppendError) → FrameRefused old new why → new.id ≡ old.id
refused_id old new DiskFault refused = ap (λ (l : LogState). l.id) refused.2
refused_id old new (Closed n) refused = ap (λ (l : LogState). l.id) refused.2
