-- Entries and the records that spell them, one record after the other.
use Rattle.std.proofs.Common.{◌≡◌, ℕ, ◌+◌, ◌<◌, ◌≤◌, List, [], ◌∷◌, ◌++◌, length, refl, sym, ap, subst, ◌∙◌, append_assoc, arith, length-append}
use Rattle.std.proofs.lemmas.List.{append-nil}
use Rattle.wp_model.specs.declared.entry.Entry.{Entry}
use Rattle.wp_model.specs.Legal.{log_end}
use Rattle.wp_fields.specs.declared.format.Format.{Format}
use Rattle.wp_fields.specs.declared.format.Format.TheVariants.{One, Two}
use Rattle.wp_entry.specs.Record.{IsRecord, last_number, record_bytes}
use Rattle.wp_wal.specs.Spelling.{AreEntries}

-- ---- numbers

-- each version has fewer numbers than a history may have
pub last_below : (format : Format) → last_number format < log_end
last_below One = omega arith
last_below Two = omega arith

-- so have entries that records spell
pub AreEntries-fit : (format : Format) (first : ℕ) (records : List (List ℕ)) (entries : List Entry) → AreEntries format first records entries → first ≤ last_number format + 1 → first + length entries ≤ last_number format + 1
AreEntries-fit format first [] entries is low = omega (arith, ap (λ (xs : List Entry). length xs) is, low)
AreEntries-fit format first (r ∷ records) entries (front, rest, parts, is, bytes, more) low =
    let here = is.form.numbered in
    let later = AreEntries-fit format (first + length front) records rest more here in
    omega (arith, later, ap (λ (xs : List Entry). length xs) parts, length-append front rest)

-- ---- one record more

pub AreEntries-push_at : (format : Format) (first : ℕ) (records : List (List ℕ)) (entries added : List Entry) → AreEntries format first records entries → IsRecord format (first + length entries) added → AreEntries format first (records ++ record_bytes format (first + length entries) added ∷ []) (entries ++ added)
AreEntries-push_at format first [] entries added is one =
    let here : first + length entries ≡ first = rw is (omega arith) in
    (added, [], ap (λ (xs : List Entry). xs ++ added) is ∙ sym (append-nil added), subst (λ (n : ℕ). IsRecord format n added) here one, ap (λ (n : ℕ). record_bytes format n added) here, refl)
AreEntries-push_at format first (r ∷ records) entries added (front, rest, parts, is, bytes, more) one =
    let far : first + length entries ≡ (first + length front) + length rest = omega (arith, ap (λ (xs : List Entry). length xs) parts, length-append front rest) in (
      front,
      rest ++ added,
      ap (λ (xs : List Entry). xs ++ added) parts ∙ append_assoc front rest added,
      is,
      bytes,
      subst (λ (n : ℕ). AreEntries format (first + length front) (records ++ record_bytes format n added ∷ []) (rest ++ added)) (sym far) (AreEntries-push_at format (first + length front) records rest added more (subst (λ (n : ℕ). IsRecord format n added) far one)),
    )

-- ---- records that begin others

-- records of different entries have different spellings
abbrev pub SpellingsDiffer : Type 0
SpellingsDiffer = (format : Format) (first : ℕ) (one other : List Entry) → IsRecord format first one → IsRecord format first other → record_bytes format first one ≡ record_bytes format first other → one ≡ other

pub AreEntries-first : SpellingsDiffer → (format : Format) (first : ℕ) (records others : List (List ℕ)) (history longer : List Entry) → AreEntries format first records history → AreEntries format first (records ++ others) longer → (more : List Entry) × (longer ≡ history ++ more)
AreEntries-first differ format first [] others history longer none all = (longer, ap (λ (xs : List Entry). xs ++ longer) (sym none))
AreEntries-first differ format first (r ∷ records) others history longer (front, rest, parts, is, bytes, more) (other_front, other_rest, other_parts, other_is, other_bytes, other_more) =
    let same : other_front ≡ front = differ format first other_front front other_is is (sym other_bytes ∙ bytes) in
    let following = AreEntries-first differ format (first + length front) records others rest other_rest more (subst (λ (xs : List Entry). AreEntries format (first + length xs) (records ++ others) other_rest) same other_more) in (
      following.0,
      other_parts ∙ ap (λ (xs : List Entry). xs ++ other_rest) same ∙ ap (λ (xs : List Entry). front ++ xs) following.1 ∙ sym (append_assoc front rest following.0)
          ∙ ap (λ (xs : List Entry). xs ++ following.0) (sym parts),
    )
