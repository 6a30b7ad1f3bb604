-- Any bytes are a log, or have a bad head, or have a cut record.
use Rattle.std.proofs.Common.{◌≡◌, ◌≢◌, ◌⊎◌, inl, inr, ℕ, zero, suc, ◌+◌, ◌-◌, ◌<◌, ◌≤◌, ◌^◌, List, [], ◌∷◌, ◌++◌, length, take, drop, get_or, refl, sym, ◌∙◌, ap, arith, length-take, length-drop}
use Rattle.std.proofs.lemmas.Bool.{cases_eq, cases_lt}
use Rattle.std.proofs.lemmas.List.{append_assoc, take-append-drop, drop-drop, drop_more, length-take-le, get_or-drop, get_or-take, get_or_past}
use Rattle.std.proofs.lemmas.Nat.{be_bytes_4, be_bytes_8}
use Rattle.std.specs.Int.{w32, w64, to_be_bytes, from_be_bytes}
use Rattle.wp_outside.specs.Disk.{Each}
use Rattle.wp_fields.specs.declared.format.Format.{Format}
use Rattle.wp_fields.specs.Format.{format_byte}
use Rattle.wp_gatelog.specs.Damage.{IsBadHead, IsBadHeadAt, IsCut, IsShort, stated_length}
use Rattle.wp_gatelog.specs.Spelling.{Gated, Stamp, IsOpen, framed, identity, all_gated, log_of, records_of, IsUnmade, Spells, SpellsAt, stamped, IsUpTo}
use Rattle.wp_gatelog.proofs.HeadLemmas.{identity_spelled, named_or_none}

abbrev AreBytes : List ℕ → Type 0
AreBytes bytes = (i : ℕ) → get_or bytes i 0 < 256

drop_bytes : (n : ℕ) (bytes : List ℕ) → AreBytes bytes → AreBytes (drop n bytes)
drop_bytes n bytes small i = rw (get_or-drop n bytes i 0) (small (n + i))

take_bytes : (n : ℕ) (bytes : List ℕ) → n ≤ length bytes → AreBytes bytes → (i : ℕ) → get_or (take n bytes) i 0 < 256
take_bytes n bytes within small i = elim (cases_lt i n) [
  | inl below ↦ rw (get_or-take n bytes i 0 below) (small i)
  | inr past ↦ rw (get_or_past (take n bytes) i 0 (omega (arith, length-take n bytes))) (omega arith)
]

-- ---- the records

-- a closed gate, or an open one without a whole record after it
abbrev Ends : List ℕ → Type 0
Ends tail = ((following : List ℕ) × (tail ≡ 0 ∷ following)) ⊎ ((gate : ℕ) × (following : List ℕ) × (gate ≢ 0) × IsShort following × (tail ≡ gate ∷ following))

record Reads (bytes : List ℕ) : Type 0 where
  gated : List Gated
  tail : List ℕ
  gates_open : Each IsOpen gated
  spelling : bytes ≡ all_gated gated ++ tail
  ends : Ends tail

stated_length_fits : (following : List ℕ) → 8 ≤ length following → AreBytes following → stated_length following < 2 ^ 64
unfolding stated_length
stated_length_fits following within small =
    let b = take_bytes 8 following within small in
    omega (arith, b 0, b 1, b 2, b 3, b 4, b 5, b 6, b 7)

number_spelled : (following : List ℕ) → 8 ≤ length following → AreBytes following → to_be_bytes w64 (stated_length following) ≡ take 8 following
unfolding stated_length
number_spelled following within small = be_bytes_8 (take 8 following) (from_be_bytes w64 (take 8 following)) (length-take-le 8 following within) (take_bytes 8 following within small) refl

whole_split : (following : List ℕ) → 9 + stated_length following ≤ length following → AreBytes following
    → (length (take (stated_length following) (drop 8 following)) ≡ stated_length following) × (following ≡ framed (take (stated_length following) (drop 8 following)) ++ drop (stated_length following) (drop 8 following))
unfolding framed
whole_split following whole small =
    let len : ℕ = stated_length following in
    let found : List ℕ = take len (drop 8 following) in
    let rest : List ℕ = drop len (drop 8 following) in
    let size : length found ≡ len = length-take-le len (drop 8 following) (omega (arith, whole, length-drop 8 following)) in
    let number : to_be_bytes w64 (length found) ≡ take 8 following = ap (to_be_bytes w64) size ∙ number_spelled following (omega (arith, whole)) small in (
      size,
      sym (take-append-drop 8 following) ∙ ap (λ (l : List ℕ). take 8 following ++ l) (sym (take-append-drop len (drop 8 following)))
          ∙ ap (λ (l : List ℕ). l ++ (found ++ rest)) (sym number) ∙ sym (append_assoc (to_be_bytes w64 (length found)) found rest),
    )

reads_more : (gate : ℕ) (found rest following : List ℕ) → IsOpen (record { gate = gate; bytes = found }) → following ≡ framed found ++ rest → Reads rest → Reads (gate ∷ following)
reads_more gate found rest following opened is reads = record {
  gated = record { gate = gate; bytes = found } ∷ reads.gated;
  tail = reads.tail;
  gates_open = (opened, reads.gates_open);
  spelling = ap (λ (l : List ℕ). gate ∷ l) (is ∙ ap (λ (l : List ℕ). framed found ++ l) reads.spelling ∙ sym (append_assoc (framed found) (all_gated reads.gated) reads.tail));
  ends = reads.ends;
}

reads_some : (n : ℕ) (bytes : List ℕ) → length bytes ≤ n → 0 < length bytes → AreBytes bytes → Reads bytes
reads_some zero bytes within some small = absurd (omega arith)
reads_some (suc n) [] within some small = absurd (omega arith)
reads_some (suc n) (gate ∷ following) within some small = elim (cases_eq gate 0) [
  | inl shut ↦ record { gated = []; tail = gate ∷ following; gates_open = tt; spelling = refl; ends = inl (following, λ i. shut i ∷ following) }
  | inr opens ↦ elim (cases_lt (length following) (9 + stated_length following)) [
    | inl short ↦ record { gated = []; tail = gate ∷ following; gates_open = tt; spelling = refl; ends = inr (gate, following, opens, short, refl) }
    | inr whole ↦
        let bytes : AreBytes following = λ i. small (suc i) in
        let split = whole_split following whole bytes in
        let rest : List ℕ = drop (stated_length following) (drop 8 following) in
        let size : length rest ≡ length following - 8 - stated_length following = length-drop (stated_length following) (drop 8 following) ∙ ap (λ (k : ℕ). k - stated_length following) (length-drop 8 following) in
        let fits = stated_length_fits following (omega (arith, whole)) bytes in
        reads_more gate (take (stated_length following) (drop 8 following)) rest following (record { gate = opens; length_fits = omega (arith, split.0, fits) }) split.1
        (reads_some n rest (omega (arith, size, whole, within)) (omega (arith, size, whole)) (drop_bytes (stated_length following) (drop 8 following) (drop_bytes 8 following bytes)))
  ]
]

-- ---- the head

same_list : (xs ys : List ℕ) → (xs ≡ ys) ⊎ (xs ≢ ys)
same_list [] [] = inl refl
same_list [] (y ∷ ys) = inr (λ e. cc e)
same_list (x ∷ xs) [] = inr (λ e. cc e)
same_list (x ∷ xs) (y ∷ ys) = elim (cases_eq x y) [
  | inl head ↦ elim (same_list xs ys) [
    | inl tail ↦ inl (λ i. head i ∷ tail i)
    | inr other ↦ inr (λ e. other (ap (λ (l : List ℕ). drop 1 l) e))
  ]
  | inr other ↦ inr (λ e. other (cc e))
]

-- what any bytes are
abbrev pub Reading : List ℕ → List ℕ → Format → Type 0
Reading bytes magic newest = ((stamp : Stamp) × (records : List (List ℕ)) × IsUpTo newest stamp.format × Spells bytes magic stamp records) ⊎ IsBadHead magic newest bytes ⊎ ((index : ℕ) × IsCut magic newest index bytes)

module _ (magic : List ℕ) (newest : Format) (bytes : List ℕ) (head : ℕ) (opened : head ≢ 0) where
  read_after : (stamp : Stamp) (following : List ℕ) → IsUpTo newest stamp.format → bytes ≡ head ∷ (identity magic stamp ++ following) → Reads following → Reading bytes magic newest
  read_after stamp following up is reads =
      let log : bytes ≡ log_of magic stamp head reads.gated ++ reads.tail =
      is ∙ ap (λ (l : List ℕ). head ∷ (identity magic stamp ++ l)) reads.spelling ∙ ap (λ (l : List ℕ). head ∷ l) (sym (append_assoc (identity magic stamp) (all_gated reads.gated) reads.tail)) in
      elim reads.ends [
        | inl w ↦ inl (
          stamp,
          records_of reads.gated,
          up,
          inr (
            head,
            reads.gated,
            record { rest = w.0; spelling = log ∙ ap (λ (l : List ℕ). log_of magic stamp head reads.gated ++ l) w.1; head_open = opened; gates_open = reads.gates_open },
            refl,
          ),
        )
        | inr w ↦ inr (inr (
          length reads.gated,
          record {
            stamp = stamp;
            readable = up;
            head = head;
            gated = reads.gated;
            gate = w.0;
            rest = w.1;
            spelling = log ∙ ap (λ (l : List ℕ). log_of magic stamp head reads.gated ++ l) w.4;
            head_open = opened;
            gates_open = reads.gates_open;
            before = refl;
            gate_open = w.2;
            short = w.3;
          },
        ))
      ]

  read_made : (format : Format) (tail : List ℕ) → IsUpTo newest format → bytes ≡ head ∷ tail → 11 ≤ length bytes → take 4 (drop 1 bytes) ≡ magic → get_or bytes 5 0 ≡ format_byte format → AreBytes bytes → Reading bytes magic newest
  read_made format tail up is size magic_is version small =
      let id : ℕ = from_be_bytes w32 (take 4 (drop 6 bytes)) in
      let number : to_be_bytes w32 id ≡ take 4 (drop 6 bytes) =
      be_bytes_4 (take 4 (drop 6 bytes)) id (length-take-le 4 (drop 6 bytes) (omega (arith, size, length-drop 6 bytes)))
      (take_bytes 4 (drop 6 bytes) (omega (arith, size, length-drop 6 bytes)) (drop_bytes 6 bytes small)) refl in
      let first : drop 1 bytes ≡ magic ++ drop 5 bytes =
      sym (take-append-drop 4 (drop 1 bytes)) ∙ ap (λ (l : List ℕ). l ++ drop 4 (drop 1 bytes)) magic_is ∙ ap (λ (l : List ℕ). magic ++ l) (drop-drop 4 1 bytes) in
      let second : drop 5 bytes ≡ format_byte format ∷ drop 6 bytes = drop_more bytes 5 0 (omega (arith, size)) ∙ ap (λ (v : ℕ). v ∷ drop 6 bytes) version in
      let third : drop 6 bytes ≡ to_be_bytes w32 id ++ drop 10 bytes =
      sym (take-append-drop 4 (drop 6 bytes)) ∙ ap (λ (l : List ℕ). l ++ drop 4 (drop 6 bytes)) (sym number) ∙ ap (λ (l : List ℕ). to_be_bytes w32 id ++ l) (drop-drop 4 6 bytes) in
      let fourth = drop_more bytes 10 0 (omega (arith, size)) in
      let following = identity_spelled magic (drop 1 bytes) (drop 5 bytes) (drop 6 bytes) (drop 10 bytes) (drop 11 bytes) format id (get_or bytes 10 0) first second third fourth in
      let whole : bytes ≡ head ∷ (identity magic (stamped format id) ++ drop 10 bytes) =
      is ∙ ap (λ (l : List ℕ). head ∷ l) (sym (ap (λ (l : List ℕ). drop 1 l) is) ∙ following ∙ ap (λ (l : List ℕ). identity magic (stamped format id) ++ l) (sym fourth)) in
      read_after (stamped format id) (drop 10 bytes) up whole (reads_some (length (drop 10 bytes)) (drop 10 bytes) (omega arith) (omega (arith, size, length-drop 10 bytes)) (drop_bytes 10 bytes small))

  read_head : (tail : List ℕ) → bytes ≡ head ∷ tail → (IsUnmade bytes → ⊥) → AreBytes bytes → Reading bytes magic newest
  read_head tail is is_made small = elim (cases_lt (length bytes) 11) [
    | inl short ↦ inr (inl (record { made = is_made; wrong = inl short }))
    | inr size ↦ elim (same_list (take 4 (drop 1 bytes)) magic) [
      | inr other ↦ inr (inl (record { made = is_made; wrong = inr (inl other) }))
      | inl magic_is ↦ elim (named_or_none newest (get_or bytes 5 0)) [
        | inr none ↦ inr (inl (record { made = is_made; wrong = inr (inr none) }))
        | inl named ↦ read_made named.0 tail named.1 is size magic_is named.2 small
      ]
    ]
  ]

pub some_reading : (bytes magic : List ℕ) (newest : Format) → length magic ≡ 4 → ((i : ℕ) → get_or bytes i 0 < 256) → Reading bytes magic newest
some_reading [] magic newest four small = inl (stamped newest 0, [], omega arith, inl (tt, refl))
some_reading (gate ∷ []) magic newest four small = inl (stamped newest 0, [], omega arith, inl (tt, refl))
some_reading (gate ∷ byte ∷ bytes) magic newest four small = elim (cases_eq gate 0) [
  | inl shut ↦ inl (stamped newest 0, [], omega arith, inl (shut, refl))
  | inr opened ↦ read_head magic newest (gate ∷ byte ∷ bytes) gate opened (byte ∷ bytes) refl opened small
]

-- ---- at a place

abbrev pub ReadingAt : ℕ → List ℕ → List ℕ → Format → Type 0
ReadingAt place bytes magic newest =
    ((stamp : Stamp) × (records : List (List ℕ)) × IsUpTo newest stamp.format × SpellsAt place bytes magic stamp records)
    ⊎ IsBadHeadAt place magic newest bytes
    ⊎ ((index : ℕ) × IsCut magic newest index (drop place bytes))

pub some_reading_at : (place : ℕ) (bytes magic : List ℕ) (newest : Format) → length magic ≡ 4 → ((i : ℕ) → get_or bytes i 0 < 256) → ReadingAt place bytes magic newest
some_reading_at zero bytes magic newest four small = some_reading bytes magic newest four small
some_reading_at (suc place) bytes magic newest four small = elim (some_reading (drop (suc place) bytes) magic newest four (drop_bytes (suc place) bytes small)) [
  | inl w ↦ elim w.3 [
    | inl none ↦ inr (inl (inl none.0))
    | inr log ↦ inl (w.0, w.1, w.2, inr log)
  ]
  | inr other ↦ elim other [
    | inl bad ↦ inr (inl (inr bad))
    | inr cut ↦ inr (inr cut)
  ]
]
