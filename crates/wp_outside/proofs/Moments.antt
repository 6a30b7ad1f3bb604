-- The moments of a device: what a crash leaves of one that was synced, and what comes while it is only looked at.
use Rattle.std.specs.Prelude.{⊤}
use Rattle.std.proofs.Common.{◌≡◌, ℕ, Bool, List, [], ◌∷◌, ◌++◌, refl, sym, ◌∙◌, subst, arith, append_assoc}
use Rattle.wp_outside.specs.Disk.{Moment, IsImage, synced, added, after_sync, IfKnown, Each, Goes, Looks, images}

-- a disk that was synced has one image
pub image_of_synced : (bytes image : List ℕ) → IsImage (synced bytes) image → image ≡ bytes
image_of_synced [] [] h = refl
image_of_synced [] (b ∷ image) h = absurd (omega (arith, h.1))
image_of_synced (x ∷ bytes) [] h = absurd h.0
image_of_synced (x ∷ bytes) (b ∷ image) h = λ i. h.0.0 i ∷ image_of_synced bytes image (h.0.1, omega (arith, h.1)) i

-- after a sync a crash leaves what a read gives
pub synced_image : (moments : List Moment) (image : List ℕ) → images (added after_sync moments) image → IfKnown moments (λ m. image ≡ m.reads)
synced_image [] image left = elim left [ ]
synced_image (m ∷ past) image left = image_of_synced m.reads image left

-- ---- moments, one after another

each_append : (P : Moment → Type 0) (xs ys : List Moment) → Each P xs → Each P ys → Each P (xs ++ ys)
each_append P [] ys p q = q
each_append P (x ∷ xs) ys p q = (p.0, each_append P xs ys p.1 q)

goes_on_from : (P : Moment → Type 0) (m : Moment) (past more new : List Moment) → Each P more → Goes P (more ++ m ∷ past) new → Goes P (m ∷ past) new
goes_on_from P m past [] new each second = second
goes_on_from P m past (x ∷ xs) new each second =
    (second.0 ++ x ∷ xs, second.1 ∙ sym (append_assoc second.0 (x ∷ xs) (m ∷ past)), each_append P second.0 (x ∷ xs) second.2 each)

pub goes_on : (P : Moment → Type 0) (old mid new : List Moment) → Goes P old mid → Goes P mid new → Goes P old new
goes_on P [] mid new first second = subst (λ (l : List Moment). Goes P l new) first second
goes_on P (m ∷ past) mid new first second =
    goes_on_from P m past first.0 new first.2 (subst (λ (l : List Moment). Goes P l new) first.1 second)

goes_nowhere : (P : Moment → Type 0) (ms : List Moment) → Goes P ms ms
goes_nowhere P [] = refl
goes_nowhere P (m ∷ past) = ([], refl, tt)

-- one look after another
pub looks_on : (old mid new : List Moment) (a b c : Bool) → Looks old mid a b → Looks mid new b c → Looks old new a c
looks_on old mid new a b c one two = record {
  passes = goes_on (λ m. ⊤) old mid new one.passes two.passes;
  unchanged = λ alone. two.unchanged (one.alone ∙ alone) ∙ one.unchanged alone;
  alone = two.alone ∙ one.alone;
}

-- no look, or one that leaves all as it was
pub looks_same : (old new : List Moment) (a b : Bool) → new ≡ old → b ≡ a → Looks old new a b
looks_same old new a b same alone = record {
  passes = subst (λ (ms : List Moment). Goes (λ m. ⊤) old ms) (sym same) (goes_nowhere (λ m. ⊤) old);
  unchanged = λ _. same;
  alone = alone;
}
