-- The records that bytes have acknowledged, while the log in them is changed.
use Rattle.std.proofs.Common.{◌≡◌, ◌≢◌, inl, inr, ℕ, ◌+◌, List, [], ◌∷◌, ◌++◌, length, drop, refl, sym, ◌∙◌, ap, subst, arith, length-append}
use Rattle.std.proofs.lemmas.List.{append-nil, append_assoc, map-append, drop_at}
use Rattle.wp_outside.specs.Disk.{Moment, IsImage, IfKnown, synced, after_write, Each, Passes}
use Rattle.wp_outside.proofs.Moments.{image_of_synced}
use Rattle.wp_gatelog.specs.Durability.{HasAcknowledged, Spares, LosesNoRecordAt}
use Rattle.wp_gatelog.specs.Log.{IsAcknowledged, IsAtRest, last_gate}
use Rattle.wp_gatelog.specs.Repair.{HasFront, Reopens}
use Rattle.wp_gatelog.specs.Moments.{LeavesFrom}
use Rattle.wp_gatelog.specs.Spelling.{Gated, Stamp, IsOpen, framed, identity, all_gated, log_of, records_of, IsUnmade, Spells}
use Rattle.wp_gatelog.proofs.DurabilityLemmas.{preserves_passes}
use Rattle.wp_gatelog.proofs.LawLemmas.{made, same_format}
use Rattle.wp_gatelog.proofs.AppendLemmas.{log_longer, image_staged}
use Rattle.wp_gatelog.proofs.MomentLemmas.{image_of_gate, known_map}
use Rattle.wp_gatelog.proofs.ParseLemmas.{same_parts, same_framed, first_split, length-identities}

-- ---- the front of a log

all_gated_append : (front rest : List Gated) (tail : List ℕ) → all_gated (front ++ rest) ++ tail ≡ all_gated front ++ (all_gated rest ++ tail)
all_gated_append [] rest tail = refl
all_gated_append (g ∷ front) rest tail =
    first_split g (front ++ rest) tail ∙ ap (λ (l : List ℕ). g.gate ∷ (framed g.bytes ++ l)) (all_gated_append front rest tail)
    ∙ sym (first_split g front (all_gated rest ++ tail))

log_append : (magic : List ℕ) (stamp : Stamp) (head : ℕ) (front rest : List Gated) (tail : List ℕ) → log_of magic stamp head (front ++ rest) ++ tail ≡ log_of magic stamp head front ++ (all_gated rest ++ tail)
log_append magic stamp head front rest tail =
    ap (λ (l : List ℕ). head ∷ l) (append_assoc (identity magic stamp) (all_gated (front ++ rest)) tail
    ∙ ap (λ (l : List ℕ). identity magic stamp ++ l) (all_gated_append front rest tail)
    ∙ sym (append_assoc (identity magic stamp) (all_gated front) (all_gated rest ++ tail)))

-- open gates with their records come before a closed one
front_gated : (gs hs : List Gated) (t u : List ℕ) → Each IsOpen gs → Each IsOpen hs → all_gated gs ++ t ≡ all_gated hs ++ 0 ∷ u → (rest : List Gated) × (hs ≡ gs ++ rest)
front_gated [] hs t u eg eh is = (hs, refl)
front_gated (g ∷ gs) [] t u eg eh is = absurd (eg.0.gate (cc is))
front_gated (g ∷ gs) (h ∷ hs) t u eg eh is =
    let both : g.gate ∷ (framed g.bytes ++ (all_gated gs ++ t)) ≡ h.gate ∷ (framed h.bytes ++ (all_gated hs ++ 0 ∷ u)) = sym (first_split g gs t) ∙ is ∙ first_split h hs (0 ∷ u) in
    let gate : h.gate ≡ g.gate = cc in
    let following : framed g.bytes ++ (all_gated gs ++ t) ≡ framed h.bytes ++ (all_gated hs ++ 0 ∷ u) = cc in
    let bytes = same_framed g.bytes h.bytes (all_gated gs ++ t) (all_gated hs ++ 0 ∷ u) eg.0.length_fits eh.0.length_fits following in
    let rest = front_gated gs hs t u eg.1 eh.1 bytes.1 in
    (rest.0, λ i. record { gate = gate i; bytes = sym bytes.0 i } ∷ rest.1 i)

-- ---- acknowledged records in a log

-- the acknowledged records are the first of a log, and its head's gate is 01
record BeginsWith (magic : List ℕ) (stamp other : Stamp) (head : ℕ) (records : List (List ℕ)) (gated : List Gated) : Type 0 where
  front : List Gated
  more : List (List ℕ)
  rest : List Gated
  acknowledged : IsAcknowledged front (records ++ more)
  opened : head ≡ 1
  named : identity magic other ≡ identity magic stamp
  parts : gated ≡ front ++ rest

begins_with : (magic : List ℕ) (stamp other : Stamp) (head : ℕ) (records : List (List ℕ)) (gated : List Gated) (following : List ℕ) → Each IsOpen gated → HasAcknowledged magic stamp records (log_of magic other head gated ++ 0 ∷ following) → BeginsWith magic stamp other head records gated
begins_with magic stamp other head records gated following each has =
    let is = has.spelling in
    let opened : head ≡ 1 = cc in
    let tail : (identity magic other ++ all_gated gated) ++ 0 ∷ following ≡ (identity magic stamp ++ all_gated has.gated) ++ has.gate ∷ has.rest = cc in
    let split = same_parts (identity magic other) (identity magic stamp) (all_gated gated ++ 0 ∷ following) (all_gated has.gated ++ has.gate ∷ has.rest) (length-identities magic other stamp)
    (sym (append_assoc (identity magic other) (all_gated gated) (0 ∷ following)) ∙ tail ∙ append_assoc (identity magic stamp) (all_gated has.gated) (has.gate ∷ has.rest)) in
    let front = front_gated has.gated gated (has.gate ∷ has.rest) following has.acknowledged.gates_open each (sym split.1) in
    record { front = has.gated; more = has.more; rest = front.0; acknowledged = has.acknowledged; opened = opened; named = split.0; parts = front.1 }

first_byte : (front : List ℕ) (gate : ℕ) (tail : List ℕ) → (byte : ℕ) × (following : List ℕ) × (front ++ gate ∷ tail ≡ byte ∷ following)
first_byte [] gate tail = (gate, tail, refl)
first_byte (b ∷ front) gate tail = (b, front ++ gate ∷ tail, refl)

-- whatever gate follows the log, they are acknowledged
still_acknowledged : (magic : List ℕ) (stamp other : Stamp) (head : ℕ) (records : List (List ℕ)) (gated : List Gated) (gate : ℕ) (tail image : List ℕ) → BeginsWith magic stamp other head records gated → image ≡ log_of magic other head gated ++ gate ∷ tail → HasAcknowledged magic stamp records image
still_acknowledged magic stamp other head records gated gate tail image front is =
    let next = first_byte (all_gated front.rest) gate tail in
    let log : log_of magic other head gated ++ gate ∷ tail ≡ log_of magic stamp 1 (front.front ++ front.rest) ++ gate ∷ tail =
    ap (λ (gs : List Gated). log_of magic other head gs ++ gate ∷ tail) front.parts ∙ ap (λ (h : ℕ). log_of magic other h (front.front ++ front.rest) ++ gate ∷ tail) front.opened
    ∙ ap (λ (l : List ℕ). 1 ∷ ((l ++ all_gated (front.front ++ front.rest)) ++ gate ∷ tail)) front.named in
    record {
      gated = front.front;
      more = front.more;
      acknowledged = front.acknowledged;
      gate = next.0;
      rest = next.1;
      spelling = is ∙ log ∙ log_append magic stamp 1 front.front front.rest (gate ∷ tail) ∙ ap (λ (l : List ℕ). log_of magic stamp 1 front.front ++ l) next.2;
    }

-- ---- changes that spare them

-- a change of the gate that ends the log and of what follows it
spares_rest : (magic : List ℕ) (stamp other : Stamp) (head : ℕ) (records : List (List ℕ)) (gated : List Gated) (following : List ℕ) → Each IsOpen gated
    → Spares magic stamp records (log_of magic other head gated ++ 0 ∷ following) (λ image. (gate : ℕ) × (tail : List ℕ) × (image ≡ log_of magic other head gated ++ gate ∷ tail))
spares_rest magic stamp other head records gated following each has image h =
    still_acknowledged magic stamp other head records gated h.0 h.1 image (begins_with magic stamp other head records gated following each has) h.2

pub spares_cut : (magic : List ℕ) (stamp other : Stamp) (head : ℕ) (records : List (List ℕ)) (gated : List Gated) (following : List ℕ) → Each IsOpen gated
    → Spares magic stamp records (log_of magic other head gated ++ 0 ∷ following) (HasFront (log_of magic other head gated))
spares_cut magic stamp other head records gated following each has image h = spares_rest magic stamp other head records gated following each has image (0, h.0, h.1)

-- a write after that gate
pub spares_frame : (magic : List ℕ) (stamp other : Stamp) (records : List (List ℕ)) (gated : List Gated) (dead : List ℕ) (at : ℕ) (frame : List ℕ) → Each IsOpen gated → at ≡ length (log_of magic other 1 gated) + 1
    → Spares magic stamp records (log_of magic other 1 gated ++ 0 ∷ dead) (IsImage (after_write at frame (synced (log_of magic other 1 gated ++ 0 ∷ dead))))
spares_frame magic stamp other records gated dead at frame each place has image h =
    let found = image_staged (log_of magic other 1 gated) dead frame at place image h in
    spares_rest magic stamp other 1 records gated dead each has image (0, found.0, found.1)

-- a write of that gate
pub spares_gate : (magic : List ℕ) (stamp other : Stamp) (records : List (List ℕ)) (gated : List Gated) (at : ℕ) (following : List ℕ) → Each IsOpen gated → at ≡ length (log_of magic other 1 gated)
    → Spares magic stamp records (log_of magic other 1 gated ++ 0 ∷ following) (IsImage (after_write at (1 ∷ []) (synced (log_of magic other 1 gated ++ 0 ∷ following))))
spares_gate magic stamp other records gated at following each place has image h =
    let found = image_of_gate (log_of magic other 1 gated) at 0 following image place h in
    spares_rest magic stamp other 1 records gated following each has image (found.0, following ++ found.1, found.2)

-- where the head's gate is not 01, no records are acknowledged
pub spares_head : (magic : List ℕ) (stamp : Stamp) (head : ℕ) (records : List (List ℕ)) (following : List ℕ) → Spares magic stamp records (head ∷ following) (Reopens [] head following)
spares_head magic stamp head records following has image h =
    let is = has.spelling in
    let opened : head ≡ 1 = cc in
    absurd (h.0 opened)

-- the front of a log that ends with a gate of 01 ends before a last gate that is not
without_last : (first : ℕ) (before front rest : List Gated) (last : Gated) → last.gate ≢ 1 → last_gate first front ≡ 1 → before ++ last ∷ [] ≡ front ++ rest → (others : List Gated) × (before ≡ front ++ others)
without_last first before [] rest last odd one is = (before, refl)
without_last first [] (h ∷ []) rest last odd one is =
    let same : last ≡ h = cc in
    absurd (odd (ap (λ (g : Gated). g.gate) same ∙ one))
without_last first [] (h ∷ k ∷ front) rest last odd one is = cc is
without_last first (b ∷ before) (h ∷ front) rest last odd one is =
    let same : b ≡ h = cc in
    let following : before ++ last ∷ [] ≡ front ++ rest = cc in
    let others = without_last h.gate before front rest last odd one following in
    (others.0, λ i. same i ∷ others.1 i)

-- a last record whose gate is not 01 is not acknowledged
pub spares_last : (magic : List ℕ) (stamp other : Stamp) (records : List (List ℕ)) (before : List Gated) (gate : ℕ) (bytes : List ℕ) → Each IsOpen (before ++ record { gate = gate; bytes = bytes } ∷ [])
    → Spares magic stamp records (log_of magic other 1 before ++ gate ∷ (framed bytes ++ 0 ∷ [])) (Reopens (log_of magic other 1 before) gate (framed bytes ++ 0 ∷ []))
spares_last magic stamp other records before gate bytes each has image h =
    let last : Gated = record { gate = gate; bytes = bytes } in
    let whole = log_longer magic other 1 before gate bytes [] (log_of magic other 1 before ++ gate ∷ (framed bytes ++ 0 ∷ [])) refl in
    let front = begins_with magic stamp other 1 records (before ++ last ∷ []) [] each (subst (λ (l : List ℕ). HasAcknowledged magic stamp records l) whole has) in
    let others = without_last 1 before front.front front.rest last h.0 front.acknowledged.last front.parts in
    let shorter : BeginsWith magic stamp other 1 records before = record { front = front.front; more = front.more; rest = others.0; acknowledged = front.acknowledged; opened = front.opened; named = front.named; parts = others.1 } in
    still_acknowledged magic stamp other 1 records before h.1 ((framed bytes ++ 0 ∷ []) ++ h.2) image shorter h.3

-- ---- bytes without a log, and a log at rest

acknowledged_made : (magic : List ℕ) (stamp : Stamp) (records : List (List ℕ)) (bytes : List ℕ) → HasAcknowledged magic stamp records bytes → IsUnmade bytes → ⊥
acknowledged_made magic stamp records bytes has =
    made 1 ((identity magic stamp ++ all_gated has.gated) ++ has.gate ∷ has.rest) bytes (omega (arith, length-append (identity magic stamp ++ all_gated has.gated) (has.gate ∷ has.rest))) (λ e. cc e) has.spelling

-- where no log was made, no records are acknowledged
pub spares_unmade : (magic : List ℕ) (stamp : Stamp) (records : List (List ℕ)) (bytes : List ℕ) (P : List ℕ → Type 0) → IsUnmade bytes → Spares magic stamp records bytes P
spares_unmade magic stamp records bytes P unmade has image h = absurd (acknowledged_made magic stamp records bytes has unmade)

pub rest_acknowledged : (magic : List ℕ) (stamp : Stamp) (end : ℕ) (front dead : List ℕ) (records : List (List ℕ)) (m : Moment) → IsAtRest magic stamp end front dead records m → LeavesFrom (length front) (HasAcknowledged magic stamp records) m
rest_acknowledged magic stamp end front dead records m rest image h = record {
  gated = rest.gated;
  more = [];
  acknowledged = record { gates_open = rest.acknowledged.gates_open; last = rest.acknowledged.last; same = append-nil records ∙ rest.acknowledged.same };
  gate = 0;
  rest = dead;
  spelling = ap (λ (l : List ℕ). drop (length front) l) (image_of_synced (front ++ (log_of magic stamp 1 rest.gated ++ 0 ∷ dead)) image (subst (λ (n : Moment). IsImage n image) rest.on_disk h))
      ∙ drop_at front (log_of magic stamp 1 rest.gated ++ 0 ∷ dead) (length front) refl;
}

-- acknowledged records are the first of those that are spelled
pub acknowledged_first : (bytes magic : List ℕ) (stamp other : Stamp) (records others : List (List ℕ)) → HasAcknowledged magic stamp records bytes → Spells bytes magic other others → (more : List (List ℕ)) × (others ≡ records ++ more)
acknowledged_first bytes magic stamp other records others has (inl none) = absurd (acknowledged_made magic stamp records bytes has none.0)
acknowledged_first bytes magic stamp other records others has (inr w) =
    let front = begins_with magic stamp other w.0 records w.1 w.2.rest w.2.gates_open (subst (λ (l : List ℕ). HasAcknowledged magic stamp records l) w.2.spelling has) in (
      front.more ++ records_of front.rest,
      w.3 ∙ ap records_of front.parts ∙ map-append (λ (g : Gated). g.bytes) front.front front.rest ∙ ap (λ (rs : List (List ℕ)). rs ++ records_of front.rest) (sym front.acknowledged.same)
          ∙ append_assoc records front.more (records_of front.rest),
    )

-- and they are spelled under their version
pub acknowledged_format : (bytes magic : List ℕ) (stamp other : Stamp) (records others : List (List ℕ)) → HasAcknowledged magic stamp records bytes → Spells bytes magic other others → stamp.format ≡ other.format
acknowledged_format bytes magic stamp other records others has (inl none) = absurd (acknowledged_made magic stamp records bytes has none.0)
acknowledged_format bytes magic stamp other records others has (inr w) =
    sym (same_format magic other stamp (begins_with magic stamp other w.0 records w.1 w.2.rest w.2.gates_open (subst (λ (l : List ℕ). HasAcknowledged magic stamp records l) w.2.spelling has)).named)

-- at each moment since a log was at rest, a crash leaves its records acknowledged
pub acknowledged_passes : (magic : List ℕ) (stamp : Stamp) (end : ℕ) (front dead : List ℕ) (records : List (List ℕ)) (old new : List Moment) → IfKnown old (IsAtRest magic stamp end front dead records) → LosesNoRecordAt (length front) magic old new
    → Passes (LeavesFrom (length front) (HasAcknowledged magic stamp records)) old new
acknowledged_passes magic stamp end front dead records old new rest durable =
    let P : Moment → Type 0 = LeavesFrom (length front) (HasAcknowledged magic stamp records) in
    preserves_passes P old new (known_map (IsAtRest magic stamp end front dead records) P (rest_acknowledged magic stamp end front dead records) old rest) (durable stamp records)
