-- What a write behind all bytes, and the sync after it, make of the tables' device.
use Rattle.std.proofs.Common.{◌≡◌, inl, inr, ℕ, List, [], ◌∷◌, ◌++◌, length, Result, Ok, Err, OnOk, OnErr, refl, sym, ◌∙◌, ap, subst}
use Rattle.std.proofs.lemmas.List.{append_assoc}
use Rattle.wp_outside.specs.Disk.{Moment, IsImage, IfKnown, synced, added, after_write, after_sync, Tears, Goes}
use Rattle.wp_gatelog.specs.Moments.{Leaves, IsSynced}
use Rattle.wp_gatelog.proofs.DurabilityLemmas.{torn_preserves, synced_preserves}
use Rattle.wp_gatelog.proofs.MomentLemmas.{goes_map, torn_goes, synced_goes, image_after, reads_after, write_reads_image}
use Rattle.wp_tableset.specs.Device.{BeginsWith, GrowsFrom, IsEnd}

-- nothing was done
pub unmoved : (P : Moment → Type 0) (moments : List Moment) → Goes P moments moments
unmoved P [] = refl
unmoved P (m ∷ past) = ([], refl, tt)

pub unmoved_grows : (before : List ℕ) (old new : List Moment) → new ≡ old → GrowsFrom before old new
unmoved_grows before old new same = record {
  kept = subst (λ (ms : List Moment). Goes (Leaves (BeginsWith before)) old ms) (sym same) (unmoved (Leaves (BeginsWith before)) old);
  fronts = λ front. ([], same, tt);
}

module _ (before bytes : List ℕ) (place : ℕ) where
  spared : place ≡ length before → (front : List ℕ) → BeginsWith front before → (image : List ℕ) → IsImage (after_write place bytes (synced before)) image → BeginsWith front image
  spared is front begins image h =
      let after = image_after before place bytes image is h in
      (begins.0 ++ after.0, after.1 ∙ ap (λ (l : List ℕ). l ++ after.0) begins.1 ∙ append_assoc front begins.0 after.0)

  begins : place ≡ length before → (m : Moment) → Leaves (IsImage (after_write place bytes (synced before))) m → Leaves (BeginsWith before) m
  begins is m leaves image h = image_after before place bytes image is (leaves image h)

  -- where the device is unknown, nothing is known of its length
  pub torn_grows : (old new : List Moment) → IsSynced before old → IsEnd old place → Tears (after_write place bytes) old new → GrowsFrom before old new
  torn_grows [] new known at torn = unmoved_grows before [] new (elim torn [ inl same ↦ same | inr w ↦ w.1 ])
  torn_grows (m ∷ past) new known at torn =
      let is : place ≡ length before = at ∙ ap (λ (n : Moment). length n.reads) known in
      record {
        kept = goes_map (Leaves (IsImage (after_write place bytes (synced before)))) (Leaves (BeginsWith before)) (begins is) (m ∷ past) new (torn_goes (after_write place bytes) before (m ∷ past) new known torn);
        fronts = λ front. torn_preserves (BeginsWith front) (after_write place bytes) before (spared is front) (m ∷ past) new known torn;
      }

  pub synced_grows : {T E : Type 0} (old mid new : List Moment) (result : Result T E) → IsSynced before old → IsEnd old place
      → mid ≡ added (after_write place bytes) old → OnOk result (new ≡ added after_sync mid) → OnErr result (new ≡ mid) → GrowsFrom before old new
  synced_grows [] mid new (Ok x) known at adds syncs stays = unmoved_grows before [] new (syncs ∙ ap (λ (ms : List Moment). added after_sync ms) adds)
  synced_grows [] mid new (Err e) known at adds syncs stays = unmoved_grows before [] new (stays ∙ adds)
  synced_grows (m ∷ past) mid new result known at adds syncs stays =
      let is : place ≡ length before = at ∙ ap (λ (n : Moment). length n.reads) known in
      let reads = write_reads_image place bytes before in
      record {
        kept = goes_map (Leaves (IsImage (after_write place bytes (synced before)))) (Leaves (BeginsWith before)) (begins is) (m ∷ past) new (synced_goes (after_write place bytes) before (m ∷ past) mid new result reads known adds syncs stays);
        fronts = λ front. synced_preserves (BeginsWith front) (after_write place bytes) before (spared is front) (m ∷ past) mid new result reads known adds syncs stays;
      }

reads_behind : (bytes : List ℕ) (place : ℕ) (m : Moment) → place ≡ length m.reads → (after_write place bytes m).reads ≡ m.reads ++ bytes
reads_behind [] place m at = reads_after m.reads [] place at
reads_behind (b ∷ bytes) place m at = reads_after m.reads (b ∷ bytes) place at

-- once synced, the old bytes and the new ones are there for good
pub synced_behind : (bytes : List ℕ) (place : ℕ) (old mid new : List Moment) → IsEnd old place → mid ≡ added (after_write place bytes) old → new ≡ added after_sync mid → IfKnown old (λ m. IsSynced (m.reads ++ bytes) new)
synced_behind bytes place [] mid new at adds syncs = tt
synced_behind bytes place (m ∷ past) mid new at adds syncs =
    subst (IsSynced (m.reads ++ bytes)) (sym (syncs ∙ ap (λ (ms : List Moment). added after_sync ms) adds)) (ap synced (reads_behind bytes place m at))
