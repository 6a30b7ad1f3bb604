-- One record more.
use Rattle.std.proofs.Common.{◌≡◌, inl, inr, ℕ, ◌+◌, ◌<◌, ◌≤◌, ◌^◌, List, [], ◌∷◌, ◌++◌, length, drop, refl, sym, ◌∙◌, ap, subst, arith, length-append}
use Rattle.std.proofs.lemmas.Bool.{cases_eq}
use Rattle.std.proofs.lemmas.List.{append-nil, append_assoc, map_push}
use Rattle.std.specs.Int.{w64, to_be_bytes}
use Rattle.wp_outside.specs.Disk.{Moment, IsImage, synced, after_write, write_end, Each}
use Rattle.wp_gatelog.specs.Log.{Grows, IsAcknowledged, IsAtRest, last_gate}
use Rattle.wp_gatelog.specs.Spelling.{Gated, Stamp, IsOpen, framed, frame_of, identity, all_gated, log_of}
use Rattle.wp_gatelog.proofs.FramedLemmas.{length-frame_of}
use Rattle.wp_gatelog.proofs.MomentLemmas.{image_behind, image_of_gate, reads_behind}

pub length-framed : (bytes : List ℕ) → length (framed bytes) ≡ 8 + length bytes
unfolding framed
length-framed bytes = length-append (to_be_bytes w64 (length bytes)) bytes

-- a frame that was written ends on the disk
pub frame_end : (at : ℕ) (frame bytes : List ℕ) → frame ≡ frame_of bytes → write_end at frame ≤ 2 ^ 62 → at + (length bytes + 9) ≤ 2 ^ 62
frame_end at [] bytes is bounded = absurd (omega (arith, ap length is, length-frame_of bytes))
frame_end at (b ∷ frame) bytes is bounded = omega (arith, bounded, ap length is, length-frame_of bytes)

-- ---- the two writes

-- while the frame is written behind a closed gate, over dead bytes
pub image_staged : (front dead frame : List ℕ) (at : ℕ) → at ≡ length front + 1 → (image : List ℕ) → IsImage (after_write at frame (synced (front ++ 0 ∷ dead))) image → (d : List ℕ) × (image ≡ front ++ 0 ∷ d)
image_staged front dead frame at is image h =
    let whole = sym (append_assoc front (0 ∷ []) dead) in
    let found = image_behind (front ++ 0 ∷ []) dead at frame image (omega (arith, is, length-append front (0 ∷ []))) (subst (λ (l : List ℕ). IsImage (after_write at frame (synced l)) image) whole h) in
    (found.0, found.1 ∙ append_assoc front (0 ∷ []) found.0)

pub grows_staged : (front dead frame bytes : List ℕ) (at : ℕ) → at ≡ length front + 1 → (image : List ℕ) → IsImage (after_write at frame (synced (front ++ 0 ∷ dead))) image → Grows front bytes image
grows_staged front dead frame bytes at is image h = let found = image_staged front dead frame at is image h in (found.0, inl found.1)

pub reads_staged : (front dead frame : List ℕ) (at : ℕ) → at ≡ length front + 1 → (after_write at frame (synced (front ++ 0 ∷ dead))).reads ≡ front ++ 0 ∷ (frame ++ drop (length frame) dead)
reads_staged front dead frame at is =
    ap (λ (l : List ℕ). (after_write at frame (synced l)).reads) (sym (append_assoc front (0 ∷ []) dead))
    ∙ reads_behind (front ++ 0 ∷ []) dead frame at (omega (arith, is, length-append front (0 ∷ []))) ∙ append_assoc front (0 ∷ []) (frame ++ drop (length frame) dead)

-- while the gate before it is written
pub grows_opened : (front bytes dead : List ℕ) (at gate : ℕ) → at ≡ length front → length bytes < 2 ^ 64 → (image : List ℕ) → IsImage (after_write at (1 ∷ []) (synced (front ++ gate ∷ (frame_of bytes ++ dead)))) image → Grows front bytes image
grows_opened front bytes dead at gate is fits image h =
    let found = image_of_gate front at gate (frame_of bytes ++ dead) image is h in
    elim (cases_eq found.0 0) [
      | inl shut ↦ ((frame_of bytes ++ dead) ++ found.1, inl (found.2 ∙ ap (λ (g : ℕ). front ++ g ∷ ((frame_of bytes ++ dead) ++ found.1)) shut))
      | inr opened ↦ (
        dead ++ found.1,
        inr (
          found.0,
          record { gate = opened; length_fits = fits },
          found.2 ∙ ap (λ (l : List ℕ). front ++ found.0 ∷ l) (append_assoc (frame_of bytes) dead found.1 ∙ append_assoc (framed bytes) (0 ∷ []) (dead ++ found.1)),
        ),
      )
    ]

-- ---- the log

pub records_more : (gated : List Gated) (gate : ℕ) (bytes : List ℕ) → Each IsOpen gated → IsOpen (record { gate = gate; bytes = bytes }) → Each IsOpen (gated ++ record { gate = gate; bytes = bytes } ∷ [])
records_more [] gate bytes each more = (more, tt)
records_more (g ∷ gated) gate bytes each more = (each.0, records_more gated gate bytes each.1 more)

pub all_gated_more : (gated : List Gated) (gate : ℕ) (bytes : List ℕ) → all_gated (gated ++ record { gate = gate; bytes = bytes } ∷ []) ≡ all_gated gated ++ gate ∷ framed bytes
all_gated_more [] gate bytes = ap (λ (l : List ℕ). gate ∷ l) (append-nil (framed bytes))
all_gated_more (g ∷ gated) gate bytes =
    ap (λ (l : List ℕ). g.gate ∷ (framed g.bytes ++ l)) (all_gated_more gated gate bytes)
    ∙ ap (λ (l : List ℕ). g.gate ∷ l) (sym (append_assoc (framed g.bytes) (all_gated gated) (gate ∷ framed bytes)))

pub last_gate_more : (head : ℕ) (gated : List Gated) (gate : ℕ) (bytes : List ℕ) → last_gate head (gated ++ record { gate = gate; bytes = bytes } ∷ []) ≡ gate
last_gate_more head [] gate bytes = refl
last_gate_more head (g ∷ gated) gate bytes = last_gate_more g.gate gated gate bytes

-- a log with one record more
pub log_more : (magic : List ℕ) (stamp : Stamp) (head : ℕ) (gated : List Gated) (gate : ℕ) (bytes : List ℕ) → log_of magic stamp head (gated ++ record { gate = gate; bytes = bytes } ∷ []) ≡ log_of magic stamp head gated ++ gate ∷ framed bytes
log_more magic stamp head gated gate bytes =
    ap (λ (l : List ℕ). head ∷ (identity magic stamp ++ l)) (all_gated_more gated gate bytes)
    ∙ ap (λ (l : List ℕ). head ∷ l) (sym (append_assoc (identity magic stamp) (all_gated gated) (gate ∷ framed bytes)))

-- the same of the bytes that begin with it
pub log_longer : (magic : List ℕ) (stamp : Stamp) (head : ℕ) (before : List Gated) (gate : ℕ) (found more image : List ℕ) → image ≡ log_of magic stamp head before ++ gate ∷ (framed found ++ 0 ∷ more)
    → image ≡ log_of magic stamp head (before ++ record { gate = gate; bytes = found } ∷ []) ++ 0 ∷ more
log_longer magic stamp head before gate found more image is =
    is ∙ sym (append_assoc (log_of magic stamp head before) (gate ∷ framed found) (0 ∷ more)) ∙ ap (λ (l : List ℕ). l ++ 0 ∷ more) (sym (log_more magic stamp head before gate found))

-- the acknowledged records with the new one
pub acknowledged_more : (gated : List Gated) (records : List (List ℕ)) (bytes : List ℕ) → length bytes < 2 ^ 64 → IsAcknowledged gated records → IsAcknowledged (gated ++ record { gate = 1; bytes = bytes } ∷ []) (records ++ bytes ∷ [])
acknowledged_more gated records bytes fits acknowledged = record {
  gates_open = records_more gated 1 bytes acknowledged.gates_open (record { gate = (λ e. cc e); length_fits = fits });
  last = last_gate_more 1 gated 1 bytes;
  same = ap (λ (l : List (List ℕ)). l ++ bytes ∷ []) acknowledged.same ∙ sym (map_push (λ (g : Gated). g.bytes) gated (record { gate = 1; bytes = bytes }));
}

-- at rest with the new one
pub at_rest_more : (magic : List ℕ) (stamp : Stamp) (end : ℕ) (front : List ℕ) (records : List (List ℕ)) (bytes dead : List ℕ) → length bytes < 2 ^ 64 → (gated : List Gated) → IsAcknowledged gated records
    → end ≡ length front + length (log_of magic stamp 1 gated) → (m : Moment) → m ≡ synced (front ++ (log_of magic stamp 1 gated ++ 1 ∷ (frame_of bytes ++ dead))) → IsAtRest magic stamp (end + (length bytes + 9)) front dead (records ++ bytes ∷ []) m
at_rest_more magic stamp end front records bytes dead fits gated acknowledged place m on =
    let more = log_more magic stamp 1 gated 1 bytes in
    record {
      gated = gated ++ record { gate = 1; bytes = bytes } ∷ [];
      acknowledged = acknowledged_more gated records bytes fits acknowledged;
      place = omega (arith, place, ap length more, length-framed bytes, length-append (log_of magic stamp 1 gated) (1 ∷ framed bytes));
      on_disk = on ∙ ap (λ (l : List ℕ). synced (front ++ l)) (ap (λ (l : List ℕ). log_of magic stamp 1 gated ++ 1 ∷ l) (append_assoc (framed bytes) (0 ∷ []) dead)
          ∙ sym (append_assoc (log_of magic stamp 1 gated) (1 ∷ framed bytes) (0 ∷ dead)) ∙ ap (λ (l : List ℕ). l ++ 0 ∷ dead) (sym more));
    }
