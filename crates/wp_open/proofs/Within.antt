-- Whether what a log tells is of the entries that an edit has flushed; and what reading over it comes to.
use Rattle.std.proofs.Common.{◌≡◌, ℕ, ◌<◌, ◌≤◌, List, length, inl, inr, refl, sym, ap, ◌∙◌, subst, arith, length-drop}
use Rattle.wp_model.specs.declared.entry.Entry.{Entry}
use Rattle.wp_model.specs.declared.version.Version.{Version}
use Rattle.wp_model.specs.Legal.{IsLegal}
use Rattle.wp_outside.specs.declared.disk.Device.TheVariants as device
use Rattle.wp_outside.specs.Disk.{Moment, added, after_sync}
use Rattle.wp_outside.specs.Faults.{Rose}
use Rattle.wp_cuts.specs.Cut.{Cut}
use Rattle.wp_cuts.proofs.FullList.{full_long}
use Rattle.wp_history.specs.History.{RoomyHistory}
use Rattle.wp_history.specs.Outline.{cut_in}
use Rattle.wp_manifest.specs.Edit.{Edit}
use Rattle.wp_table.specs.declared.error.TableError.{TableError}
use Rattle.wp_table.specs.declared.error.TableError.TheVariants as table
use Rattle.wp_refused.specs.declared.bad.Bad.TheVariants as bad
use Rattle.wp_refused.specs.declared.error.OpenError.{OpenError}
use Rattle.wp_refused.specs.declared.error.OpenError.TheVariants as open_error
use Rattle.wp_refused.specs.Damage.{IsFirstBadTable, IsWithin, UndosRestore, end_of, standing}
use Rattle.wp_contents.specs.Opens.{all_in, history_over}
use Rattle.wp_refused.specs.Refused.{IsApart}
use Rattle.wp_refused.specs.Tables.{AreTablesCause, IsFirstWrong, IsHistoryCause, IsJudgedCause, IsStoreCause, ahead, behind, of_tables, not_legal, not_covered, LeavesSynced, WereTables}
use Rattle.wp_refused.proofs.Stages.{known_before}
use Rattle.wp_refused.proofs.Undos.{legal_restores}

-- ---- the numbers

end_is : (h : RoomyHistory) → h.base ≤ length h.entries → end_of (cut_in h) ≡ length h.entries
end_is h within = let left = length-drop h.base h.entries in omega (arith, left, within)

module _ (h : RoomyHistory) (edit : Edit) (base flushed : ℕ) (base_is : base ≡ h.base) (flushed_is : flushed ≡ edit.flushed) where
  pub ahead_by : flushed < base → IsApart (cut_in h) edit (open_error.Contents (bad.BaseAhead base flushed))
  ahead_by lt = inl (omega (arith, lt, base_is, flushed_is), λ i. open_error.Contents (bad.BaseAhead (base_is i) (flushed_is i)))

  module _ (all : ℕ) (all_is : all ≡ length h.entries) (from : h.base ≤ all) (low : base ≤ flushed) where
    its_end : all ≡ end_of (cut_in h)
    its_end = all_is ∙ sym (end_is h (omega (arith, from, all_is)))

    pub behind_by : all < flushed → IsApart (cut_in h) edit (open_error.Contents (bad.LogBehind flushed all))
    behind_by lt = inr (omega (arith, low, base_is, flushed_is), omega (arith, lt, its_end, flushed_is), λ i. open_error.Contents (bad.LogBehind (flushed_is i) (its_end i)))

    pub within_by : flushed ≤ all → IsWithin (cut_in h) edit
    within_by le = record { base = omega (arith, low, base_is, flushed_is); flushed = omega (arith, le, its_end, flushed_is) }

pub end_over : (c : Cut) (edit : Edit) (entries : List Entry) (parts : List (List Version)) → IsWithin c edit → entries ≡ history_over c parts → edit.flushed ≤ length entries
end_over c edit entries parts within full = let high = within.flushed in let long = full_long c (all_in parts) in omega (arith, high, long, ap (λ (es : List Entry). length es) full)

pub full_moved : (c d : Cut) (entries : List Entry) (parts tables : List (List Version)) → entries ≡ history_over c parts → d ≡ c → tables ≡ parts → entries ≡ history_over d tables
full_moved c d entries parts tables full cuts same = full ∙ (λ i. history_over (sym cuts i) (sym same i))

-- a legal history has no wrong undo
pub undos_over : (c : Cut) (entries : List Entry) (parts : List (List Version)) → entries ≡ history_over c parts → IsLegal entries → UndosRestore c parts
undos_over c entries parts full legal = legal_restores (standing c parts) (end_of c) (subst IsLegal full legal)

-- ---- why

module _ (id : ℕ) (c : Cut) (edit : Edit) (rose : Type 0) (moments : List Moment) where
  pub apart_cause : (why : OpenError) → IsApart c edit why → IsStoreCause id c edit rose moments why
  apart_cause why (inl (lt, named)) = ahead lt named
  apart_cause why (inr (low, lt, named)) = behind low lt named

  pub judged_cause : (parts : List (List Version)) (why : OpenError) → IsWithin c edit → WereTables id edit moments parts → IsJudgedCause c edit parts why → IsStoreCause id c edit rose moments why
  judged_cause parts open_error.Memory within read cause = of_tables within tt
  judged_cause parts (open_error.OpenFault device) within read cause = absurd cause
  judged_cause parts (open_error.Contents (bad.Illegal number)) within read cause = not_legal number within (record { parts = parts; read = read; wrong = cause }) refl
  judged_cause parts (open_error.Contents bad.Uncovered) within read cause = not_covered within (record { parts = parts; read = read; undos = cause.0; uncovered = cause.1 }) refl
  judged_cause parts (open_error.Contents other) within read cause = absurd cause

-- no history stands for them: so they cover none
pub history_judged : (c : Cut) (edit : Edit) (parts : List (List Version)) (why : OpenError) → IsHistoryCause c parts why → IsJudgedCause c edit parts why
history_judged c edit parts open_error.Memory cause = tt
history_judged c edit parts (open_error.OpenFault device) cause = absurd cause
history_judged c edit parts (open_error.Contents (bad.Illegal number)) cause = cause
history_judged c edit parts (open_error.Contents bad.Uncovered) cause = (cause.0, λ covering. cause.1 covering.below)
history_judged c edit parts (open_error.Contents other) cause = absurd cause

-- the tables were refused once their device was synced
wrong_before : (id : ℕ) (edit : Edit) (old new : List Moment) (place : ℕ) (why : TableError) → new ≡ added after_sync old → IsFirstWrong id edit new place why → IsFirstWrong id edit old place why
wrong_before id edit old new place why synced w = record {
  before = w.before;
  size = w.size;
  after = w.after;
  listed = w.listed;
  parts = w.parts;
  as_many = w.as_many;
  are = w.are;
  read = w.read;
  wrong = w.wrong;
  known = known_before (λ reads. IsFirstBadTable id edit.flushed reads edit.tables place why) old new synced w.known;
}

pub tables_before : (id : ℕ) (edit : Edit) (start mid now : ℕ) (old new : List Moment) (why : OpenError) → start ≤ mid → new ≡ added after_sync old → AreTablesCause id edit (Rose mid now) new why → AreTablesCause id edit (Rose start now) old why
tables_before id edit start mid now old new open_error.Memory later synced cause = tt
tables_before id edit start mid now old new (open_error.OpenFault device.Tables) later synced cause = omega (arith, cause, later)
tables_before id edit start mid now old new (open_error.OpenFault other) later synced cause = absurd cause
tables_before id edit start mid now old new (open_error.Contents (bad.Stranger log found)) later synced cause = (cause.0, cause.1, wrong_before id edit old new cause.1 (table.Stranger found) synced cause.2)
tables_before id edit start mid now old new (open_error.Contents (bad.BadTable place why)) later synced cause = (cause.0, wrong_before id edit old new place why synced cause.1)
tables_before id edit start mid now old new (open_error.Contents other) later synced cause = absurd cause

-- ---- what is left

pub tables_left : (id : ℕ) (edit : Edit) (rose same : Type 0) (moments old new : List Moment) (why : OpenError) → AreTablesCause id edit rose moments why → new ≡ added after_sync old → LeavesSynced same old new why
tables_left id edit rose same moments old new open_error.Memory cause is = is
tables_left id edit rose same moments old new (open_error.OpenFault device.Tables) cause is = inr is
tables_left id edit rose same moments old new (open_error.OpenFault other) cause is = absurd cause
tables_left id edit rose same moments old new (open_error.Contents (bad.Stranger log found)) cause is = is
tables_left id edit rose same moments old new (open_error.Contents (bad.BadTable place why)) cause is = is
tables_left id edit rose same moments old new (open_error.Contents other) cause is = absurd cause

pub apart_left : (c : Cut) (edit : Edit) (same : Type 0) (old new : List Moment) (why : OpenError) → IsApart c edit why → same → LeavesSynced same old new why
apart_left c edit same old new why (inl (lt, named)) is = subst (LeavesSynced same old new) (sym named) is
apart_left c edit same old new why (inr (low, lt, named)) is = subst (LeavesSynced same old new) (sym named) is

pub judged_left : (c : Cut) (edit : Edit) (parts : List (List Version)) (same : Type 0) (old new : List Moment) (why : OpenError) → IsJudgedCause c edit parts why → new ≡ added after_sync old → LeavesSynced same old new why
judged_left c edit parts same old new open_error.Memory cause is = is
judged_left c edit parts same old new (open_error.OpenFault device) cause is = absurd cause
judged_left c edit parts same old new (open_error.Contents (bad.Illegal number)) cause is = is
judged_left c edit parts same old new (open_error.Contents bad.Uncovered) cause is = is
judged_left c edit parts same old new (open_error.Contents other) cause is = absurd cause
