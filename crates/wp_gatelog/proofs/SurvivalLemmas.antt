-- What a crash leaves while a log is opened, in terms of its records.
use Rattle.std.proofs.Common.{◌≡◌, ◌≢◌, inl, inr, ℕ, List, [], ◌∷◌, ◌++◌, length, drop, refl, sym, ◌∙◌, ap, subst}
use Rattle.std.proofs.lemmas.Bool.{cases_eq}
use Rattle.std.proofs.lemmas.List.{append_assoc, map_push, drop_at}
use Rattle.wp_outside.specs.Disk.{Moment, IfKnown, IsImage, images, Each, Passes, Goes}
use Rattle.wp_outside.proofs.Moments.{image_of_synced}
use Rattle.wp_gatelog.specs.Log.{IsAcknowledged, IsAtRest, BeforeOrAfter, Grows}
use Rattle.wp_gatelog.specs.Repair.{HasFront, IsRepaired}
use Rattle.wp_gatelog.specs.Moments.{Leaves}
use Rattle.wp_gatelog.specs.Opening.{HasMost, Survives, Repairs, SurvivesThroughAt}
use Rattle.wp_gatelog.specs.Spelling.{Gated, Stamp, IsOpen, framed, identity, all_gated, log_of, records_of, IsUnmade, SpellsAt}
use Rattle.wp_gatelog.proofs.AppendLemmas.{records_more, log_more, log_longer}
use Rattle.wp_gatelog.proofs.RepairLemmas.{each_but_last}
use Rattle.wp_gatelog.proofs.MomentLemmas.{goes_map, left_now}

-- ---- gates of any byte

shut_unmade : (tail : List ℕ) (gate : ℕ) → gate ≡ 0 → IsUnmade (gate ∷ tail)
shut_unmade [] gate shut = tt
shut_unmade (b ∷ tail) gate shut = shut

pub spells_log : (place : ℕ) (magic : List ℕ) (stamp : Stamp) (head : ℕ) (gated : List Gated) (image : List ℕ) → head ≢ 0 → Each IsOpen gated → HasFront (log_of magic stamp head gated) (drop place image) → SpellsAt place image magic stamp (records_of gated)
spells_log place magic stamp head gated image opened each more =
    inr (head, gated, record { rest = more.0; spelling = more.1; head_open = opened; gates_open = each }, refl)

-- a log whose last record's gate is closed ends before that record
front_closed : (magic : List ℕ) (stamp : Stamp) (head : ℕ) (before : List Gated) (found : List ℕ) (gate : ℕ) (image : List ℕ) → gate ≡ 0 → HasFront (log_of magic stamp head (before ++ record { gate = gate; bytes = found } ∷ [])) image → HasFront (log_of magic stamp head before) image
front_closed magic stamp head before found gate image shut more = (
  framed found ++ 0 ∷ more.0,
  more.1 ∙ ap (λ (l : List ℕ). l ++ 0 ∷ more.0) (log_more magic stamp head before gate found)
      ∙ append_assoc (log_of magic stamp head before) (gate ∷ framed found) (0 ∷ more.0)
      ∙ ap (λ (g : ℕ). log_of magic stamp head before ++ g ∷ (framed found ++ 0 ∷ more.0)) shut,
)

records_push : (before : List Gated) (gate other : ℕ) (found : List ℕ) → records_of (before ++ record { gate = gate; bytes = found } ∷ []) ≡ records_of (before ++ record { gate = other; bytes = found } ∷ [])
records_push before gate other found =
    map_push (λ (g : Gated). g.bytes) before (record { gate = gate; bytes = found }) ∙ sym (map_push (λ (g : Gated). g.bytes) before (record { gate = other; bytes = found }))

one_open : ◌≡◌ {A = ℕ} 1 0 → ⊥
one_open e = cc e

repaired_most : (place : ℕ) (magic : List ℕ) (stamp : Stamp) (head : ℕ) (gated : List Gated) (image : List ℕ) → head ≢ 0 → Each IsOpen gated → IsRepaired magic stamp head gated (drop place image) → HasMost place magic stamp head gated image
repaired_most place magic stamp head gated image opened each (inl more) = inl (spells_log place magic stamp head gated image opened each more)
repaired_most place magic stamp head gated image opened each (inr (inl w)) = elim (cases_eq w.1 0) [
  | inl shut ↦ inr (inl (w.0, inl (subst IsUnmade (sym w.2.1) (shut_unmade ((identity magic stamp ++ all_gated gated) ++ 0 ∷ w.2.0) w.1 shut), refl)))
  | inr opens ↦ inl (spells_log place magic stamp w.1 gated image opens each w.2)
]
repaired_most place magic stamp head gated image opened each (inr (inr w)) =
    let before : List Gated = w.0 in
    let last : Gated = w.1 in
    let parts = each_but_last before last (subst (λ (gs : List Gated). Each IsOpen gs) w.3 each) in
    elim (cases_eq w.2 0) [
      | inl shut ↦ inr (inr (before, last, w.3, w.4, spells_log place magic stamp 1 before image one_open parts.0 (front_closed magic stamp 1 before last.bytes w.2 (drop place image) shut w.5)))
      | inr opens ↦ inl (subst (λ (rs : List (List ℕ)). SpellsAt place image magic stamp rs) (records_push before w.2 last.gate last.bytes ∙ ap records_of (sym w.3))
          (spells_log place magic stamp 1 (before ++ record { gate = w.2; bytes = last.bytes } ∷ []) image one_open
          (records_more before w.2 last.bytes parts.0 (record { gate = opens; length_fits = parts.1.length_fits })) w.5))
    ]

pub survives : (place : ℕ) (magic : List ℕ) (asked : Stamp) (found image : List ℕ) → Repairs place magic asked found image → Survives place magic asked found image
survives place magic asked found image (inl same) = inl same
survives place magic asked found image (inr (inl w)) = inr (inl w)
survives place magic asked found image (inr (inr w)) =
    inr (inr (w.0, w.1, w.2, w.3, repaired_most place magic w.0 w.1 w.2 image w.3.head_open w.3.gates_open w.4))

-- ---- moment by moment

pub survives_through : (place : ℕ) (magic : List ℕ) (asked : Stamp) (old new : List Moment) → IfKnown old (λ m. Goes (Leaves (Repairs place magic asked m.reads)) old new) → SurvivesThroughAt place magic asked old new
survives_through place magic asked [] new goes = tt
survives_through place magic asked (m ∷ past) new goes =
    goes_map (Leaves (Repairs place magic asked m.reads)) (Leaves (Survives place magic asked m.reads)) (λ n leaves image h. survives place magic asked m.reads image (leaves image h)) (m ∷ past) new goes

-- a crash of a log at rest leaves its records
pub rest_spells : (magic : List ℕ) (stamp : Stamp) (end : ℕ) (front dead : List ℕ) (records : List (List ℕ)) (ms : List Moment) → IfKnown ms (IsAtRest magic stamp end front dead records) → (image : List ℕ) → images ms image → SpellsAt (length front) image magic stamp records
rest_spells magic stamp end front dead records [] rest image h = absurd h
rest_spells magic stamp end front dead records (m ∷ past) rest image h =
    let log : List ℕ = log_of magic stamp 1 rest.gated ++ 0 ∷ dead in
    let is : image ≡ front ++ log = image_of_synced (front ++ log) image (subst (λ (n : Moment). IsImage n image) rest.on_disk h) in
    subst (λ (rs : List (List ℕ)). SpellsAt (length front) image magic stamp rs) (sym rest.acknowledged.same)
    (spells_log (length front) magic stamp 1 rest.gated image one_open rest.acknowledged.gates_open (dead, ap (λ (l : List ℕ). drop (length front) l) is ∙ drop_at front log (length front) refl))

-- before or after, an image spells the records without the new one or with it
pub before_or_after : (place : ℕ) (magic : List ℕ) (stamp : Stamp) (records : List (List ℕ)) (bytes : List ℕ) (gated : List Gated) → IsAcknowledged gated records → (image : List ℕ) → Grows (log_of magic stamp 1 gated) bytes (drop place image)
    → BeforeOrAfter place magic stamp records bytes image
before_or_after place magic stamp records bytes gated acknowledged image (following, inl is) =
    inl (subst (λ (rs : List (List ℕ)). SpellsAt place image magic stamp rs) (sym acknowledged.same)
    (spells_log place magic stamp 1 gated image one_open acknowledged.gates_open (following, is)))
before_or_after place magic stamp records bytes gated acknowledged image (following, inr w) =
    inr (subst (λ (rs : List (List ℕ)). SpellsAt place image magic stamp rs)
    (map_push (λ (g : Gated). g.bytes) gated (record { gate = w.0; bytes = bytes }) ∙ ap (λ (rs : List (List ℕ)). rs ++ bytes ∷ []) (sym acknowledged.same))
    (spells_log place magic stamp 1 (gated ++ record { gate = w.0; bytes = bytes } ∷ []) image one_open
    (records_more gated w.0 bytes acknowledged.gates_open w.1) (following, log_longer magic stamp 1 gated w.0 bytes following (drop place image) w.2)))

pub left_before_or_after : (magic : List ℕ) (stamp : Stamp) (end : ℕ) (front dead : List ℕ) (records : List (List ℕ)) (bytes : List ℕ) (old new : List Moment) → IfKnown old (IsAtRest magic stamp end front dead records)
    → Passes (Leaves (BeforeOrAfter (length front) magic stamp records bytes)) old new → (image : List ℕ) → images new image → BeforeOrAfter (length front) magic stamp records bytes image
left_before_or_after magic stamp end front dead records bytes old new rest passes =
    left_now (BeforeOrAfter (length front) magic stamp records bytes) old new (λ image h. inl (rest_spells magic stamp end front dead records old rest image h)) passes

pub goes_passes : (P : Moment → Type 0) (old new : List Moment) → Goes P old new → Passes P old new
goes_passes P [] new goes = ([], goes, tt)
goes_passes P (m ∷ past) new goes = goes
