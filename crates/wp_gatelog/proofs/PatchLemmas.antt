-- Texts that are put together of what a device shows.
use Rattle.std.specs.Prelude.{⊤}
use Rattle.std.proofs.Common.{◌≡◌, ℕ, ◌+◌, List, [], ◌∷◌, ◌++◌, length, take, drop, refl, sym, ◌∙◌, ap, subst, arith, length-append, length-drop}
use Rattle.std.proofs.lemmas.List.{append-nil, append_assoc, take-append-drop, take-take, take_at, take_all, drop_at, drop-drop}
use Rattle.wp_outside.specs.Disk.{Moment, IfKnown, Goes}
use Rattle.wp_gatelog.specs.Patched.{Shows, EndsAt, Patch, IsPatched}

-- ---- one moment

take_over : (xs ys rest : List ℕ) → take (length (xs ++ ys)) (xs ++ rest) ≡ xs ++ take (length ys) rest
take_over [] ys rest = refl
take_over (x ∷ xs) ys rest = ap (λ (l : List ℕ). x ∷ l) (take_over xs ys rest)

module _ (at : ℕ) (xs ys : List ℕ) (m : Moment) where
  pub shows_more : Shows at xs m → Shows (at + length xs) ys m → Shows at (xs ++ ys) m
  shows_more one two =
      let all : List ℕ = drop at m.reads in
      let more : List ℕ = drop (length xs) all in
      let split : all ≡ xs ++ more = sym (take-append-drop (length xs) all) ∙ ap (λ (l : List ℕ). l ++ more) one in
      ap (λ (l : List ℕ). take (length (xs ++ ys)) l) split ∙ take_over xs ys more
      ∙ ap (λ (l : List ℕ). xs ++ l) (ap (λ (l : List ℕ). take (length ys) l) (drop-drop (length xs) at m.reads) ∙ two)

  pub shows_front : Shows at (xs ++ ys) m → Shows at xs m
  shows_front both =
      sym (take-take (length xs) (length (xs ++ ys)) (drop at m.reads) (omega (arith, length-append xs ys)))
      ∙ ap (λ (l : List ℕ). take (length xs) l) both ∙ take_at xs ys (length xs) refl

  pub shows_rest : Shows at (xs ++ ys) m → Shows (at + length xs) ys m
  shows_rest both =
      let all : List ℕ = drop at m.reads in
      let more : List ℕ = drop (length (xs ++ ys)) all in
      let split : all ≡ xs ++ (ys ++ more) = sym (take-append-drop (length (xs ++ ys)) all) ∙ ap (λ (l : List ℕ). l ++ more) both ∙ append_assoc xs ys more in
      ap (λ (l : List ℕ). take (length ys) l) (sym (drop-drop (length xs) at m.reads) ∙ ap (λ (l : List ℕ). drop (length xs) l) split ∙ drop_at xs (ys ++ more) (length xs) refl)
      ∙ take_at ys more (length ys) refl

-- what is shown is a front of all that is there, and all of it where the device ends behind it
pub shows_split : (at : ℕ) (text : List ℕ) (m : Moment) → Shows at text m → drop at m.reads ≡ text ++ drop (length text) (drop at m.reads)
shows_split at text m shown =
    sym (take-append-drop (length text) (drop at m.reads)) ∙ ap (λ (l : List ℕ). l ++ drop (length text) (drop at m.reads)) shown

pub shows_all : (at : ℕ) (text : List ℕ) (m : Moment) → Shows at text m → EndsAt at text m → drop at m.reads ≡ text
shows_all at text m shown ends =
    sym (take_all (length text) (drop at m.reads) (omega (arith, ends, length-drop at m.reads))) ∙ shown

-- ---- moment after moment

pub patch_piece : (at : ℕ) (old more : List Moment) (text piece : List ℕ) → Patch at old more text → IfKnown (more ++ old) (Shows (at + length text) piece) → Patch at old more (text ++ piece)
patch_piece at [] [] text piece patch shown = tt
patch_piece at (m ∷ past) [] text piece patch shown = shows_more at text piece m patch shown
patch_piece at old (m ∷ more) text piece patch shown =
    let below : List ℕ = patch.0 in
    let upper : List ℕ = patch.1 in
    let place : at + length text ≡ (at + length below) + length upper = omega (arith, ap length patch.2, length-append below upper) in (
      below,
      upper ++ piece,
      ap (λ (l : List ℕ). l ++ piece) patch.2 ∙ append_assoc below upper piece,
      patch.3,
      shows_more (at + length below) upper piece m patch.4 (subst (λ (n : ℕ). Shows n piece m) place shown),
    )

-- a further piece at the newest moment
pub patched_piece : (at : ℕ) (old new : List Moment) (text piece : List ℕ) → IsPatched at old new text → IfKnown new (Shows (at + length text) piece) → IsPatched at old new (text ++ piece)
patched_piece at old new text piece patched shown = record {
  more = patched.more;
  came = patched.came;
  patch = patch_piece at old patched.more text piece patched.patch (subst (λ (ms : List Moment). IfKnown ms (Shows (at + length text) piece)) patched.came shown);
}

patch_later : (at : ℕ) (old more later : List Moment) (text : List ℕ) → Patch at old more text → Patch at old (later ++ more) text
patch_later at old more [] text patch = patch
patch_later at old more (m ∷ later) text patch = (text, [], sym (append-nil text), patch_later at old more later text patch, refl)

-- moments that come while nothing is read
pub patched_later : (at : ℕ) (old mid new : List Moment) (text : List ℕ) → Goes (λ m. ⊤) mid new → IsPatched at old mid text → IsPatched at old new text
patched_later at old [] new text goes patched = record { more = patched.more; came = goes ∙ patched.came; patch = patched.patch }
patched_later at old (m ∷ past) new text goes patched = record {
  more = goes.0 ++ patched.more;
  came = goes.1 ∙ ap (λ (ms : List Moment). goes.0 ++ ms) patched.came ∙ sym (append_assoc goes.0 patched.more old);
  patch = patch_later at old patched.more goes.0 text patched.patch;
}

-- where no moment came, the text stands there
pub patched_alone : (at : ℕ) (m : Moment) (past new : List Moment) (text : List ℕ) → new ≡ m ∷ past → IsPatched at (m ∷ past) new text → Shows at text m
patched_alone at m past new text same patched = by patched.more (sym same ∙ patched.came) patched.patch
  where
    by : (more : List Moment) → m ∷ past ≡ more ++ m ∷ past → Patch at (m ∷ past) more text → Shows at text m
    by [] is patch = patch
    by (x ∷ xs) is patch = absurd (omega (arith, ap length is, length-append (x ∷ xs) (m ∷ past)))
