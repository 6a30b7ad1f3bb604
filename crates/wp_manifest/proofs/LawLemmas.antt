-- Bytes are a manifest, or are refused, in one way.
use Rattle.std.proofs.Common.{◌≡◌, ℕ, zero, suc, ◌<◌, List, [], ◌∷◌, length, take, map, Some, refl, sym, subst, ◌∙◌, inl, inr, arith}
use Rattle.std.specs.Prelude.{slice_get}
use Rattle.std.proofs.lemmas.Bool.{cases_order}
use Rattle.wp_outside.specs.Disk.{Each}
use Rattle.wp_fields.specs.declared.format.Format.{Format}
use Rattle.wp_fields.specs.declared.format.Format.TheVariants.{One}
use Rattle.wp_gatelog.specs.Damage.{IsBadHead, IsCut}
use Rattle.wp_gatelog.specs.Spelling.{Stamp, IsUpTo, Spells}
use Rattle.wp_manifest.specs.Edit.{Edit, IsEdit, IsSpelling, edit_bytes}
use Rattle.wp_manifest.specs.Opening.{IsBadEdit}
use Rattle.wp_manifest.specs.Reading.{IsBadAmong}
use Rattle.wp_manifest.specs.Spelling.{MAGIC, head_stamp, AreEdits, IsManifestOf}
use Rattle.wp_manifest.proofs.EditLemmas.{one_edit}

-- ---- what a gate log's laws say

abbrev pub SpellOneList : Type 0
SpellOneList = (bytes magic : List ℕ) (stamp other : Stamp) (records others : List (List ℕ)) → Spells bytes magic stamp records → Spells bytes magic other others → records ≡ others

abbrev pub AreSpelledOrCut : Type 0
AreSpelledOrCut = (bytes magic : List ℕ) (newest : Format) (stamp : Stamp) (index : ℕ) (records : List (List ℕ)) → Spells bytes magic stamp records → IsCut magic newest index bytes → ⊥

abbrev pub AreCutOnce : Type 0
AreCutOnce = (bytes magic : List ℕ) (newest : Format) (index other : ℕ) → IsCut magic newest index bytes → IsCut magic newest other bytes → index ≡ other

abbrev pub AreSpelledOrBad : Type 0
AreSpelledOrBad = (bytes magic : List ℕ) (newest : Format) (stamp : Stamp) (records : List (List ℕ)) → length magic ≡ 4 → IsUpTo newest stamp.format → Spells bytes magic stamp records → IsBadHead magic newest bytes → ⊥

abbrev pub AreCutOrBad : Type 0
AreCutOrBad = (bytes magic : List ℕ) (newest : Format) (index : ℕ) → length magic ≡ 4 → IsCut magic newest index bytes → IsBadHead magic newest bytes → ⊥

-- ---- edits

same_edits : (edits others : List Edit) → Each IsEdit edits → Each IsEdit others → map edit_bytes edits ≡ map edit_bytes others → edits ≡ others
same_edits [] [] are too same = refl
same_edits [] (other ∷ others) are too same = absurd cc
same_edits (edit ∷ edits) [] are too same = absurd cc
same_edits (edit ∷ edits) (other ∷ others) are too same =
    let first : edit_bytes edit ≡ edit_bytes other = cc in
    let rest : map edit_bytes edits ≡ map edit_bytes others = cc in
    let one = one_edit edit other are.0 too.0 first in
    let more = same_edits edits others are.1 too.1 rest in
    rw (one, more) refl

pub one_manifest : SpellOneList → (bytes : List ℕ) (id other : ℕ) (edits others : List Edit) → IsManifestOf id edits bytes → IsManifestOf other others bytes → edits ≡ others
one_manifest lists bytes id other edits others (records, spells, are) (records_too, spells_too, are_too) =
    let same : records ≡ records_too = lists bytes MAGIC (head_stamp id) (head_stamp other) records records_too spells spells_too in
    same_edits edits others are.are are_too.are (sym are.spelled ∙ same ∙ are_too.spelled)

-- an edit is among edits where the record is
edit_there : (edits : List Edit) (index : ℕ) (bytes : List ℕ) → Each IsEdit edits → slice_get (map edit_bytes edits) index ≡ Some bytes → (edit : Edit) × IsSpelling bytes edit
edit_there [] index bytes are there = absurd cc
edit_there (edit ∷ edits) zero bytes are there = let same : edit_bytes edit ≡ bytes = cc in (edit, record { is = are.0; spelling = sym same })
edit_there (edit ∷ edits) (suc index) bytes are there = edit_there edits index bytes are.1 there

-- where all records are edits, none is bad
none_bad : (records : List (List ℕ)) (index : ℕ) (edits : List Edit) → AreEdits records edits → IsBadAmong records index → ⊥
none_bad records index edits are bad =
    let found = edit_there edits index bad.bytes are.are (subst (λ (rs : List (List ℕ)). slice_get rs index ≡ Some bad.bytes) are.spelled bad.there) in
    bad.wrong found.0 found.1

pub manifest_not_bad : SpellOneList → AreSpelledOrCut → (bytes : List ℕ) (id index : ℕ) (edits : List Edit) → IsManifestOf id edits bytes → IsBadEdit index bytes → ⊥
manifest_not_bad lists whole bytes id index edits (records, spells, are) (inl cut) = whole bytes MAGIC One (head_stamp id) index records spells cut
manifest_not_bad lists whole bytes id index edits (records, spells, are) (inr (other, others, too, bad)) =
    none_bad records index edits are (subst (λ (rs : List (List ℕ)). IsBadAmong rs index) (lists bytes MAGIC (head_stamp other) (head_stamp id) others records too spells) bad)

pub manifest_not_bad_head : AreSpelledOrBad → (bytes : List ℕ) (id : ℕ) (edits : List Edit) → IsManifestOf id edits bytes → IsBadHead MAGIC One bytes → ⊥
manifest_not_bad_head spelled bytes id edits (records, spells, are) bad = spelled bytes MAGIC One (head_stamp id) records refl (omega arith) spells bad

pub bad_head_not_bad_edit : AreSpelledOrBad → AreCutOrBad → (bytes : List ℕ) (index : ℕ) → IsBadHead MAGIC One bytes → IsBadEdit index bytes → ⊥
bad_head_not_bad_edit spelled cut bytes index bad (inl is_cut) = cut bytes MAGIC One index refl is_cut bad
bad_head_not_bad_edit spelled cut bytes index bad (inr (id, records, spells, among)) = spelled bytes MAGIC One (head_stamp id) records refl (omega arith) spells bad

-- ---- one bad edit

get_front : (xs : List (List ℕ)) (i j : ℕ) → i < j → slice_get (take j xs) i ≡ slice_get xs i
get_front xs i zero lt = absurd (omega (arith, lt))
get_front [] i (suc j) lt = refl
get_front (x ∷ xs) zero (suc j) lt = refl
get_front (x ∷ xs) (suc i) (suc j) lt = get_front xs i j (omega (arith, lt))

not_before : (records : List (List ℕ)) (i j : ℕ) → i < j → IsBadAmong records i → IsBadAmong records j → ⊥
not_before records i j lt one other =
    let there = get_front records i j lt ∙ one.there in
    let found = edit_there other.edits i one.bytes other.before.are (subst (λ (rs : List (List ℕ)). slice_get rs i ≡ Some one.bytes) other.before.spelled there) in
    one.wrong found.0 found.1

one_place : (records : List (List ℕ)) (i j : ℕ) → IsBadAmong records i → IsBadAmong records j → i ≡ j
one_place records i j one other =
    elim (cases_order i j) [
      | inl same ↦ same
      | inr apart ↦ elim apart [
        | inl lt ↦ absurd (not_before records i j lt one other)
        | inr gt ↦ absurd (not_before records j i gt other one)
      ]
    ]

pub one_bad_edit : SpellOneList → AreSpelledOrCut → AreCutOnce → (bytes : List ℕ) (index other : ℕ) → IsBadEdit index bytes → IsBadEdit other bytes → index ≡ other
one_bad_edit lists whole cuts bytes index other (inl cut) (inl also) = cuts bytes MAGIC One index other cut also
one_bad_edit lists whole cuts bytes index other (inl cut) (inr (id, records, spells, bad)) = absurd (whole bytes MAGIC One (head_stamp id) index records spells cut)
one_bad_edit lists whole cuts bytes index other (inr (id, records, spells, bad)) (inl cut) = absurd (whole bytes MAGIC One (head_stamp id) other records spells cut)
one_bad_edit lists whole cuts bytes index other (inr (id, records, spells, bad)) (inr (its, others, too, worse)) =
    one_place records index other bad (subst (λ (rs : List (List ℕ)). IsBadAmong rs other) (lists bytes MAGIC (head_stamp its) (head_stamp id) others records too spells) worse)
