-- A disk in memory, as it reads, is one of its images.
use Rattle.std.specs.Prelude.{◌≡◌, ℕ, zero, suc, ◌+◌, ◌-◌, max, List, [], ◌∷◌, ◌++◌, length, take, drop, fold, Option, None, Some}
use Rattle.std.proofs.Common.{sym, ◌∙◌, ap, le_refl, le_trans, le_of_eq, zero-add, suc-add, add_comm, length-append, length-drop}
use Rattle.std.proofs.Math.Nat.{zero-max, suc-max-suc, sub-add-eq-max, max-le, le-max_left, le-max_right, min-le_right}
use Rattle.std.proofs.lemmas.List.{length-take}
use Rattle.wp_outside.specs.Disk.{Moment, Matches, IsImage, ReadsItself, synced, put, hide, hide_at, added}
use Rattle.wp_outside.specs.Images.{matches_itself}
use Rattle.wp_memory.specs.MemDisk.{Effect, Wrote, Shortened, Synced, DiskState, after, moments_of}

matches_hidden : (piece : List ℕ) (sure : List (Option ℕ)) (old : List ℕ) → Matches sure old → Matches (hide (length piece) sure) (piece ++ drop (length piece) old)
matches_hidden [] sure old m = m
matches_hidden (b ∷ piece) [] old m = tt
matches_hidden (b ∷ piece) (None ∷ sure) [] m = elim m [ ]
matches_hidden (b ∷ piece) (Some known ∷ sure) [] m = elim m [ ]
matches_hidden (b ∷ piece) (None ∷ sure) (x ∷ old) m = matches_hidden piece sure old m
matches_hidden (b ∷ piece) (Some known ∷ sure) (x ∷ old) m = matches_hidden piece sure old m.1

matches_put : (at : ℕ) (piece : List ℕ) (sure : List (Option ℕ)) (old : List ℕ) → Matches sure old → Matches (hide_at at (length piece) sure) (put at piece old)
matches_put zero piece sure old m = matches_hidden piece sure old m
matches_put (suc at) piece [] old m = tt
matches_put (suc at) piece (None ∷ sure) [] m = elim m [ ]
matches_put (suc at) piece (Some known ∷ sure) [] m = elim m [ ]
matches_put (suc at) piece (None ∷ sure) (x ∷ old) m = matches_put at piece sure old m
matches_put (suc at) piece (Some known ∷ sure) (x ∷ old) m = (m.0, matches_put at piece sure old m.1)

matches_taken : (len : ℕ) (sure : List (Option ℕ)) (old : List ℕ) → Matches sure old → Matches (take len sure) (take len old)
matches_taken zero sure old m = tt
matches_taken (suc len) [] old m = tt
matches_taken (suc len) (None ∷ sure) [] m = elim m [ ]
matches_taken (suc len) (Some known ∷ sure) [] m = elim m [ ]
matches_taken (suc len) (None ∷ sure) (x ∷ old) m = matches_taken len sure old m
matches_taken (suc len) (Some known ∷ sure) (x ∷ old) m = (m.0, matches_taken len sure old m.1)

-- a write reaches to the old end or to its own, whichever is further
pub length-put : (at : ℕ) (piece old : List ℕ) → length (put at piece old) ≡ max (length old) (at + length piece)
length-put zero piece old =
    length-append piece (drop (length piece) old)
    ∙ ap (λ n. length piece + n) (length-drop (length piece) old)
    ∙ add_comm (length piece) (length old - length piece)
    ∙ sub-add-eq-max (length old) (length piece)
    ∙ ap (λ n. max (length old) n) (sym (zero-add (length piece)))
length-put (suc at) piece [] =
    ap (λ n. suc n) (length-put at piece [] ∙ zero-max (at + length piece))
    ∙ sym (suc-add at (length piece))
    ∙ sym (zero-max (suc at + length piece))
length-put (suc at) piece (b ∷ old) =
    ap (λ n. suc n) (length-put at piece old)
    ∙ sym (suc-max-suc (length old) (at + length piece))
    ∙ ap (λ n. max (suc (length old)) n) (sym (suc-add at (length piece)))

reads_itself_after : (effect : Effect) (m : Moment) → IsImage m m.reads → IsImage (after effect m) (after effect m).reads
reads_itself_after (Wrote at []) m image = image
reads_itself_after (Wrote at (b ∷ bytes)) m image = (
  matches_put at (b ∷ bytes) m.sure m.reads image.0,
  le_trans
      (le_of_eq (length-put at (b ∷ bytes) m.reads))
      (max-le
      (le_trans image.1 (le-max_left m.longest (at + length (b ∷ bytes))))
      (le-max_right m.longest (at + length (b ∷ bytes)))),
)
reads_itself_after (Shortened len) m image = (
  matches_taken len m.sure m.reads image.0,
  le_trans (le_of_eq (length-take len m.reads)) (le_trans (min-le_right len (length m.reads)) image.1),
)
reads_itself_after Synced m image = (matches_itself m.reads, le_refl (length m.reads))

reads_itself_from : (moments : List Moment) (effects : List Effect) → ReadsItself moments → ReadsItself (fold (λ moments effect. added (after effect) moments) moments effects)
reads_itself_from moments [] image = image
reads_itself_from [] (effect ∷ effects) image = reads_itself_from [] effects image
reads_itself_from (m ∷ past) (effect ∷ effects) image =
    reads_itself_from (after effect m ∷ m ∷ past) effects (reads_itself_after effect m image)

pub reads_itself : (d : DiskState) → ReadsItself (moments_of d)
reads_itself d = reads_itself_from (synced d.start ∷ []) d.effects (matches_itself d.start, le_refl (length d.start))
