-- Bytes are a log, or have a bad head, or have a cut record, and in one way.
use Rattle.std.proofs.Common.{◌≡◌, ◌≢◌, inl, inr, ℕ, zero, suc, ◌<◌, ◌≤◌, ◌^◌, List, [], ◌∷◌, ◌++◌, length, take, drop, get_or, refl, sym, ◌∙◌, ap, subst, arith, length-append}
use Rattle.std.proofs.lemmas.List.{append_assoc, append_cancel_left, take_at, get_or_at}
use Rattle.std.proofs.lemmas.Nat.{from_be_bytes-to_be_bytes_4}
use Rattle.std.specs.Int.{w32, to_be_bytes, from_be_bytes}
use Rattle.wp_fields.specs.declared.format.Format.{Format}
use Rattle.wp_fields.specs.Format.{format_byte}
use Rattle.wp_gatelog.specs.Damage.{IsBadHead, IsBadHeadAt, IsCut}
use Rattle.wp_gatelog.specs.Spelling.{Gated, Stamp, identity, all_gated, records_of, IsUnmade, IsUnmadeAt, HasLog, Spells, SpellsAt, IsUpTo}
use Rattle.wp_gatelog.proofs.HeadLemmas.{length-identity, one_version}
use Rattle.wp_gatelog.proofs.ParseLemmas.{same_log, SameLog}

-- ---- a log and what ends it

pub made : (head : ℕ) (tail bytes : List ℕ) → 0 < length tail → head ≢ 0 → bytes ≡ head ∷ tail → IsUnmade bytes → ⊥
made head [] bytes some opened is unmade = omega arith
made head (b ∷ tail) bytes some opened is unmade = opened (subst IsUnmade is unmade)

has_log_made : (magic : List ℕ) (stamp : Stamp) (head : ℕ) (gated : List Gated) (bytes : List ℕ) → HasLog magic stamp head gated bytes → IsUnmade bytes → ⊥
has_log_made magic stamp head gated bytes has_log =
    made head ((identity magic stamp ++ all_gated gated) ++ 0 ∷ has_log.rest) bytes (omega (arith, length-append (identity magic stamp ++ all_gated gated) (0 ∷ has_log.rest))) has_log.head_open has_log.spelling

cut_made : (magic : List ℕ) (newest : Format) (index : ℕ) (bytes : List ℕ) → (cut : IsCut magic newest index bytes) → IsUnmade bytes → ⊥
cut_made magic newest index bytes cut =
    made cut.head ((identity magic cut.stamp ++ all_gated cut.gated) ++ cut.gate ∷ cut.rest) bytes (omega (arith, length-append (identity magic cut.stamp ++ all_gated cut.gated) (cut.gate ∷ cut.rest))) cut.head_open cut.spelling

same_stands : (magic bytes : List ℕ) (stamp other : Stamp) (h k : ℕ) (gs hs : List Gated) (a : HasLog magic stamp h gs bytes) (b : HasLog magic other k hs bytes) → SameLog magic stamp other h k gs hs (0 ∷ a.rest) (0 ∷ b.rest)
same_stands magic bytes stamp other h k gs hs a b =
    same_log magic stamp other h k gs hs (0 ∷ a.rest) (0 ∷ b.rest) a.gates_open b.gates_open (inl refl) (inl refl) (sym a.spelling ∙ b.spelling)

pub one_list : (bytes magic : List ℕ) (stamp other : Stamp) (records others : List (List ℕ)) → Spells bytes magic stamp records → Spells bytes magic other others → records ≡ others
one_list bytes magic stamp other records others (inl a) (inl b) = a.1 ∙ sym b.1
one_list bytes magic stamp other records others (inl a) (inr b) = absurd (has_log_made magic other b.0 b.1 bytes b.2 a.0)
one_list bytes magic stamp other records others (inr a) (inl b) = absurd (has_log_made magic stamp a.0 a.1 bytes a.2 b.0)
one_list bytes magic stamp other records others (inr a) (inr b) =
    a.3 ∙ ap records_of (same_stands magic bytes stamp other a.0 b.0 a.1 b.1 a.2 b.2).gated ∙ sym b.3

-- one head says one thing
same_tail : (magic : List ℕ) (stamp other : Stamp) → identity magic stamp ≡ identity magic other → format_byte stamp.format ∷ to_be_bytes w32 stamp.id ≡ format_byte other.format ∷ to_be_bytes w32 other.id
unfolding identity
same_tail magic stamp other is = append_cancel_left magic (format_byte stamp.format ∷ to_be_bytes w32 stamp.id) (format_byte other.format ∷ to_be_bytes w32 other.id) is

pub same_format : (magic : List ℕ) (stamp other : Stamp) → identity magic stamp ≡ identity magic other → stamp.format ≡ other.format
same_format magic stamp other is = one_version stamp.format other.format (ap (λ (l : List ℕ). get_or l 0 0) (same_tail magic stamp other is))

same_id : (magic : List ℕ) (stamp other : Stamp) → stamp.id < 2 ^ 32 → other.id < 2 ^ 32 → identity magic stamp ≡ identity magic other → stamp.id ≡ other.id
same_id magic stamp other fits others is =
    sym (from_be_bytes-to_be_bytes_4 stamp.id fits) ∙ ap (λ (l : List ℕ). from_be_bytes w32 (drop 1 l)) (same_tail magic stamp other is) ∙ from_be_bytes-to_be_bytes_4 other.id others

pub one_format : (bytes magic : List ℕ) (stamp other : Stamp) (records others : List (List ℕ)) → records ≢ [] → Spells bytes magic stamp records → Spells bytes magic other others → stamp.format ≡ other.format
one_format bytes magic stamp other records others some (inl a) b = absurd (some a.1)
one_format bytes magic stamp other records others some (inr a) (inl b) = absurd (has_log_made magic stamp a.0 a.1 bytes a.2 b.0)
one_format bytes magic stamp other records others some (inr a) (inr b) =
    same_format magic stamp other (same_stands magic bytes stamp other a.0 b.0 a.1 b.1 a.2 b.2).named

pub one_id : (bytes magic : List ℕ) (stamp other : Stamp) (records others : List (List ℕ)) → (IsUnmade bytes → ⊥) → stamp.id < 2 ^ 32 → other.id < 2 ^ 32 → Spells bytes magic stamp records → Spells bytes magic other others → stamp.id ≡ other.id
one_id bytes magic stamp other records others is_made fits fits_other (inl a) b = absurd (is_made a.0)
one_id bytes magic stamp other records others is_made fits fits_other (inr a) (inl b) = absurd (is_made b.0)
one_id bytes magic stamp other records others is_made fits fits_other (inr a) (inr b) =
    same_id magic stamp other fits fits_other (same_stands magic bytes stamp other a.0 b.0 a.1 b.1 a.2 b.2).named

pub one_index : (bytes magic : List ℕ) (newest : Format) (index other : ℕ) → IsCut magic newest index bytes → IsCut magic newest other bytes → index ≡ other
one_index bytes magic newest index other a b =
    let same = same_log magic a.stamp b.stamp a.head b.head a.gated b.gated (a.gate ∷ a.rest) (b.gate ∷ b.rest) a.gates_open b.gates_open (inr a.short) (inr b.short) (sym a.spelling ∙ b.spelling) in
    sym a.before ∙ ap length same.gated ∙ b.before

pub spelled_or_cut : (bytes magic : List ℕ) (newest : Format) (stamp : Stamp) (index : ℕ) (records : List (List ℕ)) → Spells bytes magic stamp records → IsCut magic newest index bytes → ⊥
spelled_or_cut bytes magic newest stamp index records (inl a) b = cut_made magic newest index bytes b a.0
spelled_or_cut bytes magic newest stamp index records (inr a) b =
    let same = same_log magic stamp b.stamp a.0 b.head a.1 b.gated (0 ∷ a.2.rest) (b.gate ∷ b.rest) a.2.gates_open b.gates_open (inl refl) (inr b.short) (sym a.2.spelling ∙ b.spelling) in
    let shut : b.gate ≡ 0 = cc same.rest in
    b.gate_open shut

-- ---- a head

-- what is at the places of the head's fields
pub record HasFields (magic : List ℕ) (format : Format) (bytes : List ℕ) : Type 0 where
  pub size : 11 ≤ length bytes
  pub magic_is : take 4 (drop 1 bytes) ≡ magic
  pub version : get_or bytes 5 0 ≡ format_byte format

fields_split : (magic : List ℕ) (stamp : Stamp) (rest tail : List ℕ) → (identity magic stamp ++ rest) ++ tail ≡ magic ++ format_byte stamp.format ∷ ((to_be_bytes w32 stamp.id ++ rest) ++ tail)
unfolding identity
fields_split magic stamp rest tail =
    ap (λ (l : List ℕ). l ++ tail) (append_assoc magic (format_byte stamp.format ∷ to_be_bytes w32 stamp.id) rest) ∙ append_assoc magic (format_byte stamp.format ∷ (to_be_bytes w32 stamp.id ++ rest)) tail

fields_of : (magic : List ℕ) (stamp : Stamp) (head : ℕ) (rest tail bytes : List ℕ) → length magic ≡ 4 → 0 < length tail → bytes ≡ head ∷ ((identity magic stamp ++ rest) ++ tail) → HasFields magic stamp.format bytes
fields_of magic stamp head rest tail bytes four some is =
    let split : bytes ≡ head ∷ (magic ++ format_byte stamp.format ∷ ((to_be_bytes w32 stamp.id ++ rest) ++ tail)) = is ∙ ap (λ (l : List ℕ). head ∷ l) (fields_split magic stamp rest tail) in
    record {
      size = omega (arith, ap length is, length-append (identity magic stamp ++ rest) tail, length-append (identity magic stamp) rest, length-identity magic stamp four);
      magic_is = ap (λ (l : List ℕ). take 4 (drop 1 l)) split ∙ take_at magic (format_byte stamp.format ∷ ((to_be_bytes w32 stamp.id ++ rest) ++ tail)) 4 four;
      version = ap (λ (l : List ℕ). get_or l 5 0) split ∙ get_or_at (head ∷ magic) (format_byte stamp.format) ((to_be_bytes w32 stamp.id ++ rest) ++ tail) 0 5 (omega arith);
    }

fields_not_bad : (magic : List ℕ) (newest format : Format) (bytes : List ℕ) → IsUpTo newest format → HasFields magic format bytes → IsBadHead magic newest bytes → ⊥
fields_not_bad magic newest format bytes up fields bad = elim bad.wrong [
  | inl short ↦ omega (arith, short, fields.size)
  | inr w ↦ elim w [ inl other ↦ other fields.magic_is | inr none ↦ none format up fields.version ]
]

pub spelled_or_bad : (bytes magic : List ℕ) (newest : Format) (stamp : Stamp) (records : List (List ℕ)) → length magic ≡ 4 → IsUpTo newest stamp.format → Spells bytes magic stamp records → IsBadHead magic newest bytes → ⊥
spelled_or_bad bytes magic newest stamp records four up (inl a) bad = bad.made a.0
spelled_or_bad bytes magic newest stamp records four up (inr a) bad = fields_not_bad magic newest stamp.format bytes up (fields_of magic stamp a.0 (all_gated a.1) (0 ∷ a.2.rest) bytes four (omega arith) a.2.spelling) bad

pub cut_or_bad : (bytes magic : List ℕ) (newest : Format) (index : ℕ) → length magic ≡ 4 → IsCut magic newest index bytes → IsBadHead magic newest bytes → ⊥
cut_or_bad bytes magic newest index four cut bad =
    fields_not_bad magic newest cut.stamp.format bytes cut.readable (fields_of magic cut.stamp cut.head (all_gated cut.gated) (cut.gate ∷ cut.rest) bytes four (omega arith) cut.spelling) bad

-- ---- at a place

-- above place 0 a log is there
pub spelled_from : (place : ℕ) (bytes magic : List ℕ) (stamp : Stamp) (records : List (List ℕ)) → SpellsAt place bytes magic stamp records → Spells (drop place bytes) magic stamp records
spelled_from zero bytes magic stamp records spelled = spelled
spelled_from (suc place) bytes magic stamp records (inl none) = absurd none.0
spelled_from (suc place) bytes magic stamp records (inr log) = inr log

pub one_list_at : (place : ℕ) (bytes magic : List ℕ) (stamp other : Stamp) (records others : List (List ℕ)) → SpellsAt place bytes magic stamp records → SpellsAt place bytes magic other others → records ≡ others
one_list_at place bytes magic stamp other records others a b =
    one_list (drop place bytes) magic stamp other records others (spelled_from place bytes magic stamp records a) (spelled_from place bytes magic other others b)

pub one_format_at : (place : ℕ) (bytes magic : List ℕ) (stamp other : Stamp) (records others : List (List ℕ)) → records ≢ [] → SpellsAt place bytes magic stamp records → SpellsAt place bytes magic other others → stamp.format ≡ other.format
one_format_at place bytes magic stamp other records others some a b =
    one_format (drop place bytes) magic stamp other records others some (spelled_from place bytes magic stamp records a) (spelled_from place bytes magic other others b)

pub one_id_at : (place : ℕ) (bytes magic : List ℕ) (stamp other : Stamp) (records others : List (List ℕ)) → (IsUnmadeAt place bytes → ⊥) → stamp.id < 2 ^ 32 → other.id < 2 ^ 32
    → SpellsAt place bytes magic stamp records → SpellsAt place bytes magic other others → stamp.id ≡ other.id
one_id_at place bytes magic stamp other records others made fits fits_other (inl a) b = absurd (made a.0)
one_id_at place bytes magic stamp other records others made fits fits_other (inr a) (inl b) = absurd (made b.0)
one_id_at place bytes magic stamp other records others made fits fits_other (inr a) (inr b) =
    one_id (drop place bytes) magic stamp other records others (has_log_made magic stamp a.0 a.1 (drop place bytes) a.2) fits fits_other (inr a) (inr b)

pub spelled_or_cut_at : (place : ℕ) (bytes magic : List ℕ) (newest : Format) (stamp : Stamp) (index : ℕ) (records : List (List ℕ)) → SpellsAt place bytes magic stamp records → IsCut magic newest index (drop place bytes) → ⊥
spelled_or_cut_at place bytes magic newest stamp index records spelled =
    spelled_or_cut (drop place bytes) magic newest stamp index records (spelled_from place bytes magic stamp records spelled)

pub spelled_or_bad_at : (place : ℕ) (bytes magic : List ℕ) (newest : Format) (stamp : Stamp) (records : List (List ℕ)) → length magic ≡ 4 → IsUpTo newest stamp.format → SpellsAt place bytes magic stamp records → IsBadHeadAt place magic newest bytes → ⊥
spelled_or_bad_at zero bytes magic newest stamp records four up spelled bad = spelled_or_bad bytes magic newest stamp records four up spelled bad
spelled_or_bad_at (suc place) bytes magic newest stamp records four up (inl none) bad = absurd none.0
spelled_or_bad_at (suc place) bytes magic newest stamp records four up (inr log) (inl unmade) = has_log_made magic stamp log.0 log.1 (drop (suc place) bytes) log.2 unmade
spelled_or_bad_at (suc place) bytes magic newest stamp records four up (inr log) (inr bad) = spelled_or_bad (drop (suc place) bytes) magic newest stamp records four up (inr log) bad

pub cut_or_bad_at : (place : ℕ) (bytes magic : List ℕ) (newest : Format) (index : ℕ) → length magic ≡ 4 → IsCut magic newest index (drop place bytes) → IsBadHeadAt place magic newest bytes → ⊥
cut_or_bad_at zero bytes magic newest index four cut bad = cut_or_bad bytes magic newest index four cut bad
cut_or_bad_at (suc place) bytes magic newest index four cut (inl unmade) = cut_made magic newest index (drop (suc place) bytes) cut unmade
cut_or_bad_at (suc place) bytes magic newest index four cut (inr bad) = cut_or_bad (drop (suc place) bytes) magic newest index four cut bad
