-- The head of a log.
use Rattle.std.proofs.Common.{◌≡◌, ◌⊎◌, inl, inr, ℕ, ◌<◌, min, List, [], ◌∷◌, ◌++◌, length, take, drop, get_or, Option, None, Some, refl, sym, ◌∙◌, ap, subst, arith, length-append, length-take, length-drop}
use Rattle.std.proofs.lemmas.Bool.{cases_lt}
use Rattle.std.proofs.lemmas.List.{append_assoc, take-append-drop, take_min, take-take, drop-take, get_or-take}
use Rattle.std.proofs.lemmas.Option.{none-some}
use Rattle.std.specs.Int.{w32, to_be_bytes}
use Rattle.wp_outside.specs.Disk.{IsRead}
use Rattle.wp_fields.specs.declared.format.Format.{Format}
use Rattle.wp_fields.specs.declared.format.Format.TheVariants.{One, Two}
use Rattle.wp_fields.specs.Format.{format_byte, format_of}
use Rattle.wp_fields.proofs.FieldLemmas.{byte_of_format}
use Rattle.wp_gatelog.specs.declared.head.Head.{Head}
use Rattle.wp_gatelog.specs.declared.head.Head.TheVariants.{Unmade, Bad, Made}
use Rattle.wp_gatelog.specs.Damage.{IsNoVersion}
use Rattle.wp_gatelog.specs.Heads.{IsHead}
use Rattle.wp_gatelog.specs.Spelling.{Stamp, stamped, identity, IsUnmade, IsUpTo}

pub length-identity : (magic : List ℕ) (stamp : Stamp) → length magic ≡ 4 → length (identity magic stamp) ≡ 9
unfolding identity
length-identity magic stamp four = omega (arith, four, length-append magic (format_byte stamp.format ∷ to_be_bytes w32 stamp.id))

-- the fields, one after another
pub identity_spelled : (magic bytes rest rest2 rest3 rest4 : List ℕ) (format : Format) (id next : ℕ) → bytes ≡ magic ++ rest → rest ≡ format_byte format ∷ rest2 → rest2 ≡ to_be_bytes w32 id ++ rest3 → rest3 ≡ next ∷ rest4
    → bytes ≡ identity magic (stamped format id) ++ next ∷ rest4
unfolding identity
identity_spelled magic bytes rest rest2 rest3 rest4 format id next e1 e2 e3 e4 =
    e1 ∙ ap (λ (l : List ℕ). magic ++ l) (e2 ∙ ap (λ (l : List ℕ). format_byte format ∷ l) (e3 ∙ ap (λ (l : List ℕ). to_be_bytes w32 id ++ l) e4))
    ∙ sym (append_assoc magic (format_byte format ∷ to_be_bytes w32 id) (next ∷ rest4))

four_bytes : (xs : List ℕ) → length xs ≡ 4 → get_or xs 0 0 ∷ get_or xs 1 0 ∷ get_or xs 2 0 ∷ get_or xs 3 0 ∷ [] ≡ xs
four_bytes [] e = absurd (omega arith)
four_bytes (a ∷ []) e = absurd (omega arith)
four_bytes (a ∷ b ∷ []) e = absurd (omega arith)
four_bytes (a ∷ b ∷ c ∷ []) e = absurd (omega arith)
four_bytes (a ∷ b ∷ c ∷ d ∷ []) e = refl
four_bytes (a ∷ b ∷ c ∷ d ∷ x ∷ xs) e = absurd (omega arith)

pub identity_written : (magic number : List ℕ) (format : Format) (id version : ℕ) → length magic ≡ 4 → number ≡ to_be_bytes w32 id → version ≡ format_byte format
    → get_or magic 0 0 ∷ get_or magic 1 0 ∷ get_or magic 2 0 ∷ get_or magic 3 0 ∷ version ∷ get_or number 0 0 ∷ get_or number 1 0 ∷ get_or number 2 0 ∷ get_or number 3 0 ∷ 0 ∷ [] ≡ identity magic (stamped format id) ++ 0 ∷ []
unfolding identity
identity_written magic number format id version four is named =
    let length_number : length number ≡ 4 = ap length is in
    ap (λ (l : List ℕ). get_or magic 0 0 ∷ get_or magic 1 0 ∷ get_or magic 2 0 ∷ get_or magic 3 0 ∷ version ∷ (l ++ 0 ∷ [])) (four_bytes number length_number ∙ is)
    ∙ ap (λ (v : ℕ). get_or magic 0 0 ∷ get_or magic 1 0 ∷ get_or magic 2 0 ∷ get_or magic 3 0 ∷ v ∷ (to_be_bytes w32 id ++ 0 ∷ [])) named
    ∙ ap (λ (l : List ℕ). l ++ (format_byte format ∷ to_be_bytes w32 id ++ 0 ∷ [])) (four_bytes magic four)
    ∙ sym (append_assoc magic (format_byte format ∷ to_be_bytes w32 id) (0 ∷ []))

-- ---- versions

none_is_named : (format : Format) → None ≡ format_of (format_byte format) → ⊥
none_is_named One is = none-some One is
none_is_named Two is = none-some Two is

-- a byte that names none
pub none_named : (newest : Format) (byte : ℕ) → format_of byte ≡ None → IsNoVersion newest byte
none_named newest byte none format up is = none_is_named format (sym none ∙ ap format_of is)

-- a byte that names a later one
pub later_named : (newest format : Format) (byte : ℕ) → format_of byte ≡ Some format → format_byte newest < format_byte format → IsNoVersion newest byte
later_named newest format byte named late other up is = absurd (omega (arith, byte_of_format byte format named, late, up, is))

pub named_or_none : (newest : Format) (byte : ℕ) → ((format : Format) × IsUpTo newest format × (byte ≡ format_byte format)) ⊎ IsNoVersion newest byte
named_or_none newest byte = by (format_of byte) refl
  where
    by : (found : Option Format) → format_of byte ≡ found → ((format : Format) × IsUpTo newest format × (byte ≡ format_byte format)) ⊎ IsNoVersion newest byte
    by None is = inr (none_named newest byte is)
    by (Some format) is = elim (cases_lt (format_byte newest) (format_byte format)) [
      | inl late ↦ inr (later_named newest format byte is late)
      | inr up ↦ inl (format, up, byte_of_format byte format is)
    ]

pub one_version : (format other : Format) → format_byte format ≡ format_byte other → format ≡ other
one_version One One is = refl
one_version One Two is = absurd (omega arith)
one_version Two One is = absurd (omega arith)
one_version Two Two is = refl

-- what the first eleven bytes show of a head

unmade_from_front : (bytes : List ℕ) → IsUnmade (take 11 bytes) → IsUnmade bytes
unmade_from_front [] h = tt
unmade_from_front (gate ∷ []) h = tt
unmade_from_front (gate ∷ byte ∷ bytes) h = h

unmade_to_front : (bytes : List ℕ) → IsUnmade bytes → IsUnmade (take 11 bytes)
unmade_to_front [] h = tt
unmade_to_front (gate ∷ []) h = tt
unmade_to_front (gate ∷ byte ∷ bytes) h = h

magic_from_front : (bytes : List ℕ) → take 4 (drop 1 (take 11 bytes)) ≡ take 4 (drop 1 bytes)
magic_from_front bytes = ap (λ (l : List ℕ). take 4 l) (drop-take 1 10 bytes) ∙ take-take 4 10 (drop 1 bytes) (omega arith)

head_from_front : (magic : List ℕ) (newest : Format) (bytes : List ℕ) (head : Head) → IsHead magic newest (take 11 bytes) head → IsHead magic newest bytes head
head_from_front magic newest bytes Unmade h = unmade_from_front bytes h
head_from_front magic newest bytes Bad h = record {
  made = (λ unmade. h.made (unmade_to_front bytes unmade));
  wrong = elim h.wrong [
    | inl short ↦ inl (omega (arith, length-take 11 bytes))
    | inr w ↦ inr (elim w [
      | inl other ↦ inl (λ e. other (magic_from_front bytes ∙ e))
      | inr none ↦ inr (λ format up e. none format up (get_or-take 11 bytes 5 0 (omega arith) ∙ e))
    ])
  ];
}
head_from_front magic newest bytes (Made gate format id first) h = (
  h.0 ++ drop 11 bytes,
  h.1,
  sym (take-append-drop 11 bytes) ∙ ap (λ (l : List ℕ). l ++ drop 11 bytes) h.2 ∙ ap (λ (l : List ℕ). gate ∷ l) (append_assoc (identity magic (stamped format id)) (first ∷ h.0) (drop 11 bytes)),
)

-- a read of eleven bytes shows the head
pub head_read : (magic : List ℕ) (newest : Format) (buf reads : List ℕ) (place n : ℕ) (head : Head) → length buf ≡ 11 → IsHead magic newest (take n buf) head → IsRead reads place buf n → IsHead magic newest (drop place reads) head
head_read magic newest buf reads place n head eleven h read =
    let bytes : List ℕ = drop place reads in
    let count : n ≡ min 11 (length bytes) = omega (arith, read.count, eleven, length-drop place reads) in
    let front : take n buf ≡ take 11 bytes = read.bytes ∙ ap (λ (k : ℕ). take k bytes) count ∙ take_min 11 bytes in
    head_from_front magic newest bytes head (subst (λ (l : List ℕ). IsHead magic newest l head) front h)
