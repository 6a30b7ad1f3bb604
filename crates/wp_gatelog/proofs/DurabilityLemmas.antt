-- What is durable from one moment to the next.
use Rattle.std.proofs.Common.{◌≡◌, inl, inr, ℕ, List, [], ◌∷◌, ◌++◌, Result, Ok, Err, OnOk, OnErr, sym, ◌∙◌, subst, arith}
use Rattle.std.proofs.lemmas.List.{append_assoc}
use Rattle.wp_outside.specs.Disk.{Moment, IsImage, synced, after_sync, IfKnown, added, Tears, Each, Passes, ReadsItself}
use Rattle.wp_outside.specs.Images.{matches_itself}
use Rattle.wp_outside.proofs.Moments.{image_of_synced}
use Rattle.wp_gatelog.specs.Durability.{PassedOn, Preserves}
use Rattle.wp_gatelog.specs.Moments.{Leaves}

-- ---- moments, one after another

passed_on_from : (P : Moment → Type 0) (old more new : List Moment) → PassedOn P (more ++ old) new → PassedOn P old more → PassedOn P old (new ++ more)
passed_on_from P old more [] second first = first
passed_on_from P old more (m ∷ new) second first =
    (subst (λ (ms : List Moment). IfKnown ms P → P m) (sym (append_assoc new more old)) second.0, passed_on_from P old more new second.1 first)

pub preserves_on : (P : Moment → Type 0) (old mid new : List Moment) → Preserves P old mid → Preserves P mid new → Preserves P old new
preserves_on P old mid new first second =
    let later : Preserves P (first.0 ++ old) new = subst (λ (ms : List Moment). Preserves P ms new) first.1 second in
    (later.0 ++ first.0, later.1 ∙ sym (append_assoc later.0 first.0 old), passed_on_from P old first.0 later.0 later.2 first.2)

each_passed_on : (P : Moment → Type 0) (old more : List Moment) → IfKnown old P → PassedOn P old more → Each P more × IfKnown (more ++ old) P
each_passed_on P old [] before passed = (tt, before)
each_passed_on P old (m ∷ more) before passed =
    let rest = each_passed_on P old more before passed.1 in
    let here = passed.0 rest.1 in
    ((here, rest.0), here)

-- what is so before, and durable, is so at each moment
pub preserves_passes : (P : Moment → Type 0) (old new : List Moment) → IfKnown old P → Preserves P old new → Passes P old new
preserves_passes P old new before durable = (durable.0, durable.1, (each_passed_on P old durable.0 before durable.2).0)

-- ---- one step and its sync

-- a sync leaves one of the images that a crash before it left
pub sync_preserves : (P : List ℕ → Type 0) (old new : List Moment) → ReadsItself old → new ≡ added after_sync old → Preserves (Leaves P) old new
sync_preserves P [] new itself syncs = ([], syncs, tt)
sync_preserves P (m ∷ past) new itself syncs =
    (synced m.reads ∷ [], syncs, (λ has image h. subst P (sym (image_of_synced m.reads image h)) (has m.reads itself), tt))

-- a sync changes nothing that a read shows
pub sync_reads : (P : List ℕ → Type 0) (old new : List Moment) → new ≡ added after_sync old → Preserves (λ m. P m.reads) old new
sync_reads P [] new syncs = ([], syncs, tt)
sync_reads P (m ∷ past) new syncs = (synced m.reads ∷ [], syncs, (λ h. h, tt))

module _ (P : List ℕ → Type 0) (step : Moment → Moment) (before : List ℕ) (spares : P before → (image : List ℕ) → IsImage (step (synced before)) image → P image) where
  step_preserves : (m : Moment) → m ≡ synced before → Leaves P m → Leaves P (step m)
  step_preserves m is has image h =
      spares (has before (subst (λ (n : Moment). IsImage n before) (sym is) (matches_itself before, omega arith))) image (subst (λ (n : Moment). IsImage (step n) image) is h)

  pub torn_preserves : (old new : List Moment) → IfKnown old (λ m. m ≡ synced before) → Tears step old new → Preserves (Leaves P) old new
  torn_preserves [] new known torn = elim torn [ inl same ↦ ([], same, tt) | inr w ↦ ([], w.1, tt) ]
  torn_preserves (m ∷ past) new known torn = elim torn [
    | inl same ↦ ([], same, tt)
    | inr w ↦ (record (step m) { reads = w.0 } ∷ [], w.1, (λ has image h. step_preserves m known has image h, tt))
  ]

  stepped_preserves : (old new : List Moment) → IfKnown old (λ m. m ≡ synced before) → new ≡ added step old → Preserves (Leaves P) old new
  stepped_preserves [] new known adds = ([], adds, tt)
  stepped_preserves (m ∷ past) new known adds = (step m ∷ [], adds, (step_preserves m known, tt))

  -- the step was made, and then a sync, or not
  pub synced_preserves : {T E : Type 0} (old mid new : List Moment) (result : Result T E) → IsImage (step (synced before)) (step (synced before)).reads → IfKnown old (λ m. m ≡ synced before) → mid ≡ added step old → OnOk result (new ≡ added after_sync mid) → OnErr result (new ≡ mid) → Preserves (Leaves P) old new
  synced_preserves old mid new (Ok x) reads known adds syncs stays =
      preserves_on (Leaves P) old mid new (stepped_preserves old mid known adds) (sync_preserves P mid new (itself old mid known adds) syncs)
    where
      itself : (old mid : List Moment) → IfKnown old (λ m. m ≡ synced before) → mid ≡ added step old → ReadsItself mid
      itself [] mid known adds = subst ReadsItself (sym adds) tt
      itself (m ∷ past) mid known adds =
          subst ReadsItself (sym adds) (subst (λ (n : Moment). IsImage (step n) (step n).reads) (sym known) reads)
  synced_preserves old mid new (Err e) reads known adds syncs stays = stepped_preserves old new known (stays ∙ adds)
