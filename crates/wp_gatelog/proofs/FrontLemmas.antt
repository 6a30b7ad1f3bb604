-- A step on a device is one on what stands behind a front of it.
use Rattle.std.proofs.Common.{◌≡◌, ℕ, zero, suc, ◌+◌, List, [], ◌∷◌, ◌++◌, map, length, take, drop, Option, None, Some, refl, sym, ◌∙◌, ap, subst, arith, length-append, length-drop}
use Rattle.std.proofs.lemmas.List.{drop_at}
use Rattle.wp_outside.specs.Disk.{Moment, Matches, IsImage, synced, put, hide_at, after_write, after_cut}
use Rattle.wp_outside.specs.Images.{matches_itself}
use Rattle.wp_outside.proofs.Moments.{image_of_synced}
use Rattle.wp_gatelog.proofs.MomentLemmas.{write_reads_image, cut_reads_image}

-- what is sure from a place on
matches_drop : (n : ℕ) (sure : List (Option ℕ)) (image : List ℕ) → Matches sure image → Matches (drop n sure) (drop n image)
matches_drop zero sure image h = h
matches_drop (suc n) [] image h = tt
matches_drop (suc n) (known ∷ sure) [] h = absurd h
matches_drop (suc n) (None ∷ sure) (b ∷ image) h = matches_drop n sure image h
matches_drop (suc n) (Some known ∷ sure) (b ∷ image) h = matches_drop n sure image h.1

hide_front : (front before : List ℕ) (at from n : ℕ) → at ≡ length front + from → drop (length front) (hide_at at n (map (λ b. Some b) (front ++ before))) ≡ hide_at from n (map (λ b. Some b) before)
hide_front [] before at from n is = ap (λ (k : ℕ). hide_at k n (map (λ b. Some b) before)) (omega (arith, is))
hide_front (x ∷ front) before zero from n is = absurd (omega (arith, is))
hide_front (x ∷ front) before (suc at) from n is = hide_front front before at from n (omega (arith, is))

put_front : (front before bytes : List ℕ) (at from : ℕ) → at ≡ length front + from → put at bytes (front ++ before) ≡ front ++ put from bytes before
put_front [] before bytes at from is = ap (λ (k : ℕ). put k bytes before) (omega (arith, is))
put_front (x ∷ front) before bytes zero from is = absurd (omega (arith, is))
put_front (x ∷ front) before bytes (suc at) from is = ap (λ (l : List ℕ). x ∷ l) (put_front front before bytes at from (omega (arith, is)))

pub take_front : (front before : List ℕ) (len from : ℕ) → len ≡ length front + from → take len (front ++ before) ≡ front ++ take from before
take_front [] before len from is = ap (λ (k : ℕ). take k before) (omega (arith, is))
take_front (x ∷ front) before zero from is = absurd (omega (arith, is))
take_front (x ∷ front) before (suc len) from is = ap (λ (l : List ℕ). x ∷ l) (take_front front before len from (omega (arith, is)))

take_sure : (front before : List ℕ) (len from : ℕ) → len ≡ length front + from → drop (length front) (take len (map (λ b. Some b) (front ++ before))) ≡ take from (map (λ b. Some b) before)
take_sure [] before len from is = ap (λ (k : ℕ). take k (map (λ b. Some b) before)) (omega (arith, is))
take_sure (x ∷ front) before zero from is = absurd (omega (arith, is))
take_sure (x ∷ front) before (suc len) from is = take_sure front before len from (omega (arith, is))

-- The step leaves the front, and makes of what is behind it what the inner one does.
pub record Shifts (front before : List ℕ) (step inner : Moment → Moment) : Type 0 where
  pub images : (image : List ℕ) → IsImage (step (synced (front ++ before))) image → IsImage (inner (synced before)) (drop (length front) image)
  pub reads : (step (synced (front ++ before))).reads ≡ front ++ (inner (synced before)).reads
  pub itself : IsImage (step (synced (front ++ before))) (step (synced (front ++ before))).reads

pub write_shifts : (front before bytes : List ℕ) (at from : ℕ) → at ≡ length front + from → Shifts front before (after_write at bytes) (after_write from bytes)
write_shifts front before [] at from is = record {
  images = λ image h. subst (IsImage (synced before)) (sym (ap (λ (l : List ℕ). drop (length front) l) (image_of_synced (front ++ before) image h) ∙ drop_at front before (length front) refl))
      (matches_itself before, omega arith);
  reads = refl;
  itself = write_reads_image at [] (front ++ before);
}
write_shifts front before (b ∷ bytes) at from is = record {
  images = λ image h. (
    subst (λ (s : List (Option ℕ)). Matches s (drop (length front) image)) (hide_front front before at from (length (b ∷ bytes)) is)
        (matches_drop (length front) (hide_at at (length (b ∷ bytes)) (map (λ x. Some x) (front ++ before))) image h.0),
    omega (arith, is, h.1, length-drop (length front) image, length-append front before),
  );
  reads = put_front front before (b ∷ bytes) at from is;
  itself = write_reads_image at (b ∷ bytes) (front ++ before);
}

pub cut_shifts : (front before : List ℕ) (len from : ℕ) → len ≡ length front + from → Shifts front before (after_cut len) (after_cut from)
cut_shifts front before len from is = record {
  images = λ image h. (
    subst (λ (s : List (Option ℕ)). Matches s (drop (length front) image)) (take_sure front before len from is)
        (matches_drop (length front) (take len (map (λ x. Some x) (front ++ before))) image h.0),
    omega (arith, h.1, length-drop (length front) image, length-append front before),
  );
  reads = take_front front before len from is;
  itself = cut_reads_image len (front ++ before);
}
