-- Another log is written beside the one in use.
use Rattle.std.proofs.Common.{◌≡◌, inl, inr, ℕ, zero, suc, ◌+◌, ◌-◌, ◌<◌, ◌≤◌, true, List, [], ◌∷◌, ◌++◌, map, length, take, drop, Some, Result, Ok, Err, OnOk, OnErr, refl, sym, ◌∙◌, ap, subst, arith, length-append}
use Rattle.std.proofs.lemmas.List.{append-nil, append_assoc, take-append-drop, drop_at, length-take-le}
use Rattle.std.proofs.lemmas.Result.{on_ok_weaker}
use Rattle.wp_outside.specs.Disk.{Moment, Matches, IsImage, synced, hide_at, after_write, after_sync, IfKnown, added, Tears, images}
use Rattle.wp_outside.proofs.Moments.{image_of_synced}
use Rattle.wp_gatelog.specs.Beside.{IsWholeLog, AreDead, BothRest, BringsBoth, Writes}
use Rattle.wp_gatelog.specs.Changes.{BringsTo}
use Rattle.wp_gatelog.specs.Durability.{HasAcknowledged}
use Rattle.wp_gatelog.specs.Log.{IsAtRest, LogState, stamp_of}
use Rattle.wp_gatelog.specs.Moments.{Leaves, IsSynced}
use Rattle.wp_gatelog.specs.Spelling.{Stamp, log_of, SpellsAt}
use Rattle.wp_gatelog.specs.Stands.{Stands}
use Rattle.wp_gatelog.proofs.AcknowledgedLemmas.{spares_cut, acknowledged_passes}
use Rattle.wp_gatelog.proofs.ChangeLemmas.{synced_steps, stepped_reads}
use Rattle.wp_gatelog.proofs.DurabilityLemmas.{torn_preserves, synced_preserves}
use Rattle.wp_gatelog.proofs.FrontLemmas.{Shifts, write_shifts}
use Rattle.wp_gatelog.proofs.MomentLemmas.{goes_map, torn_goes, synced_goes, left_now, known_map, matches_front, image_behind, reads_behind, write_reads_image}
use Rattle.wp_gatelog.proofs.StandLemmas.{stands_behind}
use Rattle.wp_gatelog.proofs.SurvivalLemmas.{spells_log, rest_spells, goes_passes}

-- ---- images

-- a log between bytes, as many before it as in front
abbrev Around : List ℕ → List ℕ → List ℕ → Type 0
Around front log image = (before : List ℕ) × (behind : List ℕ) × (length before ≡ length front) × (image ≡ before ++ (log ++ 0 ∷ behind))

-- what is written within a front leaves what is behind it
matches_kept : (front rest : List ℕ) (at n : ℕ) (image : List ℕ) → at + n ≤ length front → Matches (hide_at at n (map (λ b. Some b) (front ++ rest))) image
    → (before : List ℕ) × (more : List ℕ) × (length before ≡ length front) × (image ≡ before ++ (rest ++ more))
matches_kept [] rest zero zero image fits h =
    let found = matches_front rest [] image (subst (λ s. Matches s image) (sym (append-nil (map (λ b. Some b) rest))) h) in
    ([], found.0, refl, found.1)
matches_kept [] rest zero (suc n) image fits h = absurd (omega arith)
matches_kept [] rest (suc at) n image fits h = absurd (omega arith)
matches_kept (x ∷ front) rest zero zero [] fits h = absurd h
matches_kept (x ∷ front) rest zero zero (b ∷ image) fits h =
    let found = matches_kept front rest zero zero image (omega arith) h.1 in
    (b ∷ found.0, found.1, ap suc found.2, ap (λ (l : List ℕ). b ∷ l) found.3)
matches_kept (x ∷ front) rest zero (suc n) [] fits h = absurd h
matches_kept (x ∷ front) rest zero (suc n) (b ∷ image) fits h =
    let found = matches_kept front rest zero n image (omega arith) h in
    (b ∷ found.0, found.1, ap suc found.2, ap (λ (l : List ℕ). b ∷ l) found.3)
matches_kept (x ∷ front) rest (suc at) n [] fits h = absurd h
matches_kept (x ∷ front) rest (suc at) n (b ∷ image) fits h =
    let found = matches_kept front rest at n image (omega arith) h.1 in
    (b ∷ found.0, found.1, ap suc found.2, ap (λ (l : List ℕ). b ∷ l) found.3)

module _ (front log dead : List ℕ) (place : ℕ) where
  written_before : (bytes image : List ℕ) → place + length bytes ≤ length front → IsImage (after_write place bytes (synced (front ++ (log ++ 0 ∷ dead)))) image → Around front log image
  written_before [] image fits h = (front, dead, refl, image_of_synced (front ++ (log ++ 0 ∷ dead)) image h)
  written_before (b ∷ bytes) image fits h =
      let found = matches_kept front (log ++ 0 ∷ dead) place (length (b ∷ bytes)) image fits h.0 in
      (found.0, dead ++ found.1, found.2, found.3 ∙ ap (λ (l : List ℕ). found.0 ++ l) (append_assoc log (0 ∷ dead) found.1))

  written_behind : (end : ℕ) (bytes image : List ℕ) → end ≡ length front + length log → end < place → place ≤ end + 1 + length dead → IsImage (after_write place bytes (synced (front ++ (log ++ 0 ∷ dead)))) image → Around front log image
  written_behind end bytes image ends after within h =
      let size : ℕ = place - (end + 1) in
      let kept : List ℕ = take size dead in
      let first : List ℕ = front ++ (log ++ 0 ∷ kept) in
      let split : front ++ (log ++ 0 ∷ dead) ≡ first ++ drop size dead =
      ap (λ (l : List ℕ). front ++ (log ++ 0 ∷ l)) (sym (take-append-drop size dead)) ∙ ap (λ (l : List ℕ). front ++ l) (sym (append_assoc log (0 ∷ kept) (drop size dead)))
      ∙ sym (append_assoc front (log ++ 0 ∷ kept) (drop size dead)) in
      let at : place ≡ length first = omega (arith, ends, length-append front (log ++ 0 ∷ kept), length-append log (0 ∷ kept), length-take-le size dead (omega arith)) in
      let found = image_behind first (drop size dead) place bytes image at (subst (λ (l : List ℕ). IsImage (after_write place bytes (synced l)) image) split h) in
      (front, kept ++ found.0, refl, found.1 ∙ append_assoc front (log ++ 0 ∷ kept) found.0 ∙ ap (λ (l : List ℕ). front ++ l) (append_assoc log (0 ∷ kept) found.0))

-- ---- the write and its sync

module _ (place : ℕ) (bytes magic : List ℕ) (stamp : Stamp) (end : ℕ) (front dead : List ℕ) (records : List (List ℕ)) (m : Moment) (rest : IsAtRest magic stamp end front dead records m) (are_dead : AreDead place (length bytes) end front dead) where
  abbrev log : List ℕ
  log = log_of magic stamp 1 rest.gated

  abbrev whole : List ℕ
  whole = front ++ (log ++ 0 ∷ dead)

  abbrev step : Moment → Moment
  step = after_write place bytes

  abbrev reads : List ℕ
  reads = (after_write place bytes (synced whole)).reads

  around : (image : List ℕ) → IsImage (step (synced whole)) image → Around front log image
  around image h = elim are_dead [
    | inl fits ↦ written_before front log dead place bytes image fits h
    | inr w ↦ written_behind front log dead place end bytes image rest.place w.0 w.1 h
  ]

  from_front : (image : List ℕ) (a : Around front log image) → drop (length front) image ≡ log ++ 0 ∷ a.1
  from_front image a = ap (λ (l : List ℕ). drop (length front) l) a.3 ∙ drop_at a.0 (log ++ 0 ∷ a.1) (length front) a.2

  from_start : drop (length front) whole ≡ log ++ 0 ∷ dead
  from_start = drop_at front (log ++ 0 ∷ dead) (length front) refl

  spells : (image : List ℕ) → IsImage (step (synced whole)) image → SpellsAt (length front) image magic stamp records
  spells image h =
      let a = around image h in
      subst (λ (rs : List (List ℕ)). SpellsAt (length front) image magic stamp rs) (sym rest.acknowledged.same)
      (spells_log (length front) magic stamp 1 rest.gated image (λ e. cc e) rest.acknowledged.gates_open (a.1, from_front image a))

  spares : (other : Stamp) (others : List (List ℕ)) → HasAcknowledged magic other others (drop (length front) whole) → (image : List ℕ) → IsImage (step (synced whole)) image → HasAcknowledged magic other others (drop (length front) image)
  spares other others has image h =
      let a = around image h in
      spares_cut magic other stamp 1 others rest.gated dead rest.acknowledged.gates_open (subst (HasAcknowledged magic other others) from_start has) (drop (length front) image) (a.1, from_front image a)

  there : Around front log reads
  there = around reads (write_reads_image place bytes whole)

  stays : (other : Stamp) (others : List (List ℕ)) → Stands magic other others (drop (length front) whole) → Stands magic other others (drop (length front) reads)
  stays other others has =
      subst (Stands magic other others) (sym (from_front reads there))
      (stands_behind magic stamp 1 rest.gated (λ e. cc e) rest.acknowledged.gates_open other others dead there.1 (subst (Stands magic other others) from_start has))

  both_rest : (n : Moment) → n ≡ synced reads → BothRest place bytes (length front) magic stamp end records n
  both_rest n on = record {
    still = record {
      front = there.0;
      dead = there.1;
      begins = sym there.2;
      rests = record { gated = rest.gated; acknowledged = rest.acknowledged; place = omega (arith, rest.place, there.2); on_disk = on ∙ ap synced there.3 };
    };
    written = λ kind other last others is ends.
        let before : List ℕ = take place whole in
        let after : List ℕ = drop (length bytes) (drop place whole) in
        let size : length whole ≡ end + 1 + length dead = omega (arith, rest.place, length-append front (log ++ 0 ∷ dead), length-append log (0 ∷ dead)) in
        let begins : place ≡ length before = sym (length-take-le place whole (within size)) in
        let shown : reads ≡ before ++ (bytes ++ after) =
        ap (λ (l : List ℕ). (after_write place bytes (synced l)).reads) (sym (take-append-drop place whole)) ∙ reads_behind before (drop place whole) bytes place begins in
        let inner : List ℕ = log_of kind other 1 is.gated in
        record {
          front = before;
          dead = after;
          begins = begins;
          rests = record {
            gated = is.gated;
            acknowledged = is.acknowledged;
            place = omega (arith, ends, begins, ap length is.spelling, length-append inner (0 ∷ []));
            on_disk = on ∙ ap synced (shown ∙ ap (λ (l : List ℕ). before ++ (l ++ after)) is.spelling ∙ ap (λ (l : List ℕ). before ++ l) (append_assoc inner (0 ∷ []) after));
          };
        };
  }
    where
      within : length whole ≡ end + 1 + length dead → place ≤ length whole
      within size = elim are_dead [
        | inl fits ↦ omega (arith, size, rest.place)
        | inr w ↦ omega (arith, size, w.1)
      ]

  abbrev Spelled : List ℕ → Type 0
  Spelled image = SpellsAt (length front) image magic stamp records

  abbrev Both : Moment → Type 0
  Both = BothRest place bytes (length front) magic stamp end records

  pub brings_torn : {T E : Type 0} (e : E) (old new : List Moment) → IsSynced whole old → Tears (after_write place bytes) old new → BringsTo {T = T} {E = E} (length front) magic Spelled Both old new (Err e)
  brings_torn e old new known torn = record {
    passed = goes_map (Leaves (IsImage (step (synced whole)))) (Leaves Spelled) (λ n leaves image h. spells image (leaves image h)) old new (torn_goes step whole old new known torn);
    durable = λ other others. torn_preserves (λ image. HasAcknowledged magic other others (drop (length front) image)) step whole (spares other others) old new known torn;
    done = tt;
    stands = tt;
  }

  shifts : Shifts [] whole step step
  shifts = write_shifts [] whole bytes place place (omega arith)

  pub brings_written : {T E : Type 0} (old mid new : List Moment) (result : Result T E) → IsSynced whole old → mid ≡ added (after_write place bytes) old → OnOk result (new ≡ added after_sync mid) → OnErr result (new ≡ mid)
      → BringsTo (length front) magic Spelled Both old new result
  brings_written old mid new result known adds syncs fails = record {
    passed = goes_map (Leaves (IsImage (step (synced whole)))) (Leaves Spelled) (λ n leaves image h. spells image (leaves image h)) old new
        (synced_goes step whole old mid new result (write_reads_image place bytes whole) known adds syncs fails);
    durable = λ other others. synced_preserves (λ image. HasAcknowledged magic other others (drop (length front) image)) step whole (spares other others) old mid new result (write_reads_image place bytes whole) known adds syncs fails;
    done = on_ok_weaker result (known_map (λ n. n ≡ synced reads) Both both_rest new) (synced_steps [] whole step step shifts old mid new result known adds syncs fails).done;
    stands = on_ok_weaker result (λ s other others. stepped_reads [] whole step step shifts old mid new known adds s (λ l. Stands magic other others (drop (length front) l)) (stays other others)) syncs;
  }

-- what is dead where the disk is known
pub dead_at : (place size end : ℕ) (front dead : List ℕ) (ms past : List Moment) (m : Moment) → ms ≡ m ∷ past → IfKnown ms (λ n. AreDead place size end front dead) → AreDead place size end front dead
dead_at place size end front dead ms past m is known = subst (λ (l : List Moment). IfKnown l (λ n. AreDead place size end front dead)) is known

-- ---- a disk that is unknown

pub stays_unknown_torn : (step : Moment → Moment) (old new : List Moment) → Tears step old new → old ≡ [] → new ≡ []
stays_unknown_torn step old new torn none = elim torn [
  | inl same ↦ same ∙ none
  | inr w ↦ subst (λ (ms : List Moment). new ≡ added (λ m. record (step m) { reads = w.0 }) ms) none w.1
]

pub stays_unknown : {T E : Type 0} (step : Moment → Moment) (old mid new : List Moment) (result : Result T E) → mid ≡ added step old → OnOk result (new ≡ added after_sync mid) → OnErr result (new ≡ mid) → old ≡ [] → new ≡ []
stays_unknown step old mid new (Ok x) adds syncs fails none =
    syncs ∙ ap (λ (ms : List Moment). added after_sync ms) (adds ∙ ap (λ (ms : List Moment). added step ms) none)
stays_unknown step old mid new (Err e) adds syncs fails none = fails ∙ adds ∙ ap (λ (ms : List Moment). added step ms) none

-- ---- the log in use

both_spelled : (place : ℕ) (bytes : List ℕ) (used : ℕ) (magic : List ℕ) (stamp : Stamp) (end : ℕ) (records : List (List ℕ)) (ms : List Moment) → IfKnown ms (BothRest place bytes used magic stamp end records)
    → (kind : List ℕ) (other : Stamp) (others : List (List ℕ)) → IsWholeLog kind other others bytes → (image : List ℕ) → images ms image → SpellsAt place image kind other others
both_spelled place bytes used magic stamp end records [] both kind other others is image h = absurd h
both_spelled place bytes used magic stamp end records (m ∷ past) both kind other others is image h =
    let inner : List ℕ = log_of kind other 1 is.gated in
    let last : ℕ = place + length inner in
    let at = both.written kind other last others is (omega (arith, ap length is.spelling, length-append inner (0 ∷ []))) in
    subst (λ (n : ℕ). SpellsAt n image kind other others) (sym at.begins) (rest_spells kind other last at.front at.dead others (m ∷ past) at.rests image h)

module _ {T E U F : Type 0} (place : ℕ) (bytes : List ℕ) (old new : LogState) where
  pub writes_beside : (x : T) (y : U) → BringsBoth {E = E} place bytes old.end old.moments new.moments (Ok x) → Writes {E = F} place bytes old new (Ok y)
  writes_beside x y brings = λ magic front dead records running rests are_dead.
      let b = brings magic (stamp_of old) front dead records rests are_dead in
      let P : List ℕ → Type 0 = λ image. SpellsAt (length front) image magic (stamp_of old) records in
      let passed = goes_passes (Leaves P) old.moments new.moments b.passed in
      record {
        any_moment = passed;
        left = left_now P old.moments new.moments (rest_spells magic (stamp_of old) old.end front dead records old.moments rests) passed;
        durable = b.durable;
        acknowledged = acknowledged_passes magic (stamp_of old) old.end front dead records old.moments new.moments rests b.durable;
        rest = b.done;
        stands = b.stands;
        spelled = both_spelled place bytes (length front) magic (stamp_of old) old.end records new.moments b.done;
      }

  pub writes_failed : (result : Result T E) (e : F) → BringsBoth place bytes old.end old.moments new.moments result → Writes {T = U} place bytes old new (Err e)
  writes_failed result e brings = λ magic front dead records running rests are_dead.
      let b = brings magic (stamp_of old) front dead records rests are_dead in
      let P : List ℕ → Type 0 = λ image. SpellsAt (length front) image magic (stamp_of old) records in
      let passed = goes_passes (Leaves P) old.moments new.moments b.passed in
      record {
        any_moment = passed;
        left = left_now P old.moments new.moments (rest_spells magic (stamp_of old) old.end front dead records old.moments rests) passed;
        durable = b.durable;
        acknowledged = acknowledged_passes magic (stamp_of old) old.end front dead records old.moments new.moments rests b.durable;
        rest = tt;
        stands = tt;
        spelled = tt;
      }

-- a closed log is not written beside
pub writes_none : {T E : Type 0} (place : ℕ) (bytes : List ℕ) (old new : LogState) (result : Result T E) → old.closed ≡ true → Writes place bytes old new result
writes_none place bytes old new result closed = λ magic front dead records running rests are_dead. absurd cc
