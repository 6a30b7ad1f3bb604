-- What a crash leaves while a copy is written.
use Rattle.std.proofs.Common.{◌≡◌, inl, inr, ℕ, List, [], ◌∷◌, Option, subst}
use Rattle.wp_model.specs.declared.carried.Carried.{Carried}
use Rattle.wp_outside.specs.Disk.{Goes, Moment, images}
use Rattle.wp_entry.specs.Base.{Base}
use Rattle.wp_table.specs.Walk.{BuiltTable}
use Rattle.wp_gatelog.specs.Beside.{IsNoneOrWhole}
use Rattle.wp_gatelog.specs.Moments.{IsSynced, Leaves}
use Rattle.wp_gatelog.proofs.MomentLemmas.{goes_map}
use Rattle.wp_manifest.specs.Edit.{edit_bytes}
use Rattle.wp_manifest.specs.Spelling.{MAGIC, head_stamp}
use Rattle.wp_wal.specs.Segment.{IsNoneOrLog, NewSegmentState, cut_behind}
use Rattle.wp_wal.specs.Spelling.{IsLogAt}
use Rattle.wp_contents.specs.Devices.{DevicesLeft}
use Rattle.wp_checkpoint.specs.Amid.{IsNoneOrEdit, LeavesAmid}
use Rattle.wp_checkpoint.specs.Copy.{copied_base}
use Rattle.wp_checkpoint.specs.Image.{IsNewLog, IsNewManifest, edit_of, places_of}
use Rattle.wp_checkpoint.specs.Target.{AreEmpty}
use Rattle.wp_checkpoint.proofs.Writes.{one_edit}

goes_none : (P : Moment → Type 0) (old new : List Moment) → new ≡ old → Goes P old new
goes_none P [] new same = same
goes_none P (m ∷ past) new same = ([], same, tt)

-- ---- which devices were written

module _ (id at : ℕ) (carried : List Carried) (old new : DevicesLeft) where
  -- the tables at most
  pub before_log : new.log ≡ old.log → new.manifest ≡ old.manifest → LeavesAmid id at carried old new
  before_log log manifest = record {
    log = λ known. goes_none (Leaves (IsNoneOrLog id (copied_base at carried))) old.log new.log log;
    manifest = λ known. goes_none (Leaves (IsNoneOrEdit id at)) old.manifest new.manifest manifest;
    last = λ empty. inl manifest;
  }

  module _ (segment : NewSegmentState) (is : IsNewLog id at carried segment) (passed : IsSynced [] old.log → Goes (Leaves (IsNoneOrLog id segment.base)) old.log new.log) where
    of_log : IsSynced [] old.log → Goes (Leaves (IsNoneOrLog id (copied_base at carried))) old.log new.log
    of_log known = subst (λ (base : Base). Goes (Leaves (IsNoneOrLog id base)) old.log new.log) is.based (passed known)

    -- the log too
    pub before_manifest : new.manifest ≡ old.manifest → LeavesAmid id at carried old new
    before_manifest manifest = record {
      log = of_log;
      manifest = λ known. goes_none (Leaves (IsNoneOrEdit id at)) old.manifest new.manifest manifest;
      last = λ empty. inl manifest;
    }

    -- all of them
    pub with_manifest : (table : Option BuiltTable) (manifest : List ℕ) → IsNewManifest id at table manifest → (AreEmpty old → (bytes : List ℕ) → images new.log bytes → IsLogAt id 0 (cut_behind segment.base) bytes)
        → (IsSynced [] old.manifest → Goes (Leaves (IsNoneOrWhole MAGIC (head_stamp id) (edit_bytes (edit_of at table) ∷ []))) old.manifest new.manifest) → LeavesAmid id at carried old new
    with_manifest table manifest edit left made = record {
      log = of_log;
      manifest = λ known.
          goes_map (Leaves (IsNoneOrWhole MAGIC (head_stamp id) (edit_bytes (edit_of at table) ∷ []))) (Leaves (IsNoneOrEdit id at)) (λ m leaves image h. as_edit image (leaves image h)) old.manifest new.manifest (made known);
      last = λ empty. inr (λ bytes h. subst (λ (base : Base). IsLogAt id 0 (cut_behind base) bytes) is.based (left empty bytes h));
    }
      where
        as_edit : (bytes : List ℕ) → IsNoneOrWhole MAGIC (head_stamp id) (edit_bytes (edit_of at table) ∷ []) bytes → IsNoneOrEdit id at bytes
        as_edit bytes (inl unmade) = inl unmade
        as_edit bytes (inr spelled) = inr (places_of table, one_edit id at table manifest bytes edit spelled)
