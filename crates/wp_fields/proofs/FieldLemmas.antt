-- A field that is read is the field that was written, and what was written is read again.
use Rattle.std.proofs.Common.{◌≡◌, ℕ, zero, suc, ◌+◌, ◌^◌, ◌<◌, ◌≤◌, Bool, true, false, cond, ltb, List, [], ◌∷◌, ◌++◌, length, get_or, take, drop, Some, Result, Ok, Err, refl, sym, ap, ◌∙◌, append_assoc, arith, inl, inr}
use Rattle.std.specs.Int.{Width, w16, w32, w64, byte_len, from_be_bytes, to_be_bytes}
use Rattle.std.proofs.lemmas.Bool.{cases_lt, ltb-false, ltb-true, lt-ltb, le-ltb}
use Rattle.std.proofs.lemmas.List.{take_at, drop_at, take-append-drop, length-append, length-take-le, get_or-drop, get_or-take, get_or_past}
use Rattle.std.proofs.lemmas.Nat.{be_bytes_2, be_bytes_4, be_bytes_8, from_be_bytes-to_be_bytes_2, from_be_bytes-to_be_bytes_4, from_be_bytes-to_be_bytes_8}
use Rattle.wp_fields.specs.Format.{format_byte, format_of, number_width, number_end}
use Rattle.wp_fields.specs.declared.format.Format.{Format}
use Rattle.wp_fields.specs.declared.format.Format.TheVariants.{One, Two}
use Rattle.wp_fields.specs.Reading.{byte_at, number_at, piece_at}
use Rattle.wp_fields.proofs.Results.{chosen, ok_is, err_is, ok_or_err}

-- ---- tests of what was read

-- a test that refuses where it holds, and one that refuses where it does not
pub refusal_missed : {X E : Type 0} (b : Bool) (fault : E) (read : Result X E) (x : X) → cond b (Err fault) read ≡ Ok x → (b ≡ false) × (read ≡ Ok x)
refusal_missed true fault read x e = absurd cc
refusal_missed false fault read x e = (refl, e)

pub test_met : {X E : Type 0} (b : Bool) (fault : E) (read : Result X E) (x : X) → cond b read (Err fault) ≡ Ok x → (b ≡ true) × (read ≡ Ok x)
test_met true fault read x e = (refl, e)
test_met false fault read x e = absurd cc

-- ---- versions of formats

-- a byte names no version but its own
pub byte_of_format : (byte : ℕ) (format : Format) → format_of byte ≡ Some format → byte ≡ format_byte format
byte_of_format zero format e = absurd cc
byte_of_format (suc zero) format e = let same : One ≡ format = cc in ap format_byte same
byte_of_format (suc (suc zero)) format e = let same : Two ≡ format = cc in ap format_byte same
byte_of_format (suc (suc (suc n))) format e = absurd cc

pub format_again : (format : Format) → format_of (format_byte format) ≡ Some format
format_again One = refl
format_again Two = refl

-- ---- texts at the front

abbrev pub AreBytes : List ℕ → Type 0
AreBytes bytes = (i : ℕ) → get_or bytes i 0 < 256

-- The bytes are the text and the rest, which are bytes too.
pub record Begins (bytes text rest : List ℕ) : Type 0 where
  pub parts : bytes ≡ text ++ rest
  pub rest_bytes : AreBytes rest

pub Begins-then : (a x b y c : List ℕ) → Begins a x b → Begins b y c → Begins a (x ++ y) c
Begins-then a x b y c first second = record { parts = first.parts ∙ ap (λ (t : List ℕ). x ++ t) second.parts ∙ sym (append_assoc x y c); rest_bytes = second.rest_bytes }

pub Begins-byte : (byte : ℕ) (rest : List ℕ) → AreBytes (byte ∷ rest) → Begins (byte ∷ rest) (byte ∷ []) rest
Begins-byte byte rest h = record { parts = refl; rest_bytes = λ i. h (suc i) }

AreBytes-take : (n : ℕ) (bytes : List ℕ) → AreBytes bytes → n ≤ length bytes → AreBytes (take n bytes)
AreBytes-take n bytes h long i =
    elim (cases_lt i n) [
      | inl lt ↦ rw (get_or-take n bytes i 0 lt) (h i)
      | inr le ↦ rw (get_or_past (take n bytes) i 0 (omega (arith, length-take-le n bytes long))) (omega arith)
    ]

pub Begins-piece : (n : ℕ) (bytes : List ℕ) → AreBytes bytes → Begins bytes (take n bytes) (drop n bytes)
Begins-piece n bytes h = record { parts = sym (take-append-drop n bytes); rest_bytes = λ i. rw get_or-drop (h (n + i)) }

pub byte_takes : {E : Type 0} (short : E) (bytes : List ℕ) (x : ℕ × List ℕ) → AreBytes bytes → byte_at short bytes ≡ Ok x → Begins bytes (x.0 ∷ []) x.1
byte_takes short [] x h e = absurd cc
byte_takes {E} short (byte ∷ rest) x h e = rw (← ok_is {E = E} (byte, rest) x e) (Begins-byte byte rest h)

pub byte_fails : {E : Type 0} (short : E) (bytes : List ℕ) (fault : E) → byte_at short bytes ≡ Err fault → (bytes ≡ []) × (short ≡ fault)
byte_fails short [] fault e = (refl, err_is {A = ℕ × List ℕ} short fault e)
byte_fails short (byte ∷ rest) fault e = absurd cc

-- ---- pieces

pub piece_takes : {E : Type 0} (short : E) (len : ℕ) (bytes : List ℕ) (x : List ℕ × List ℕ) → piece_at short len bytes ≡ Ok x → (len ≤ length bytes) × ((take len bytes, drop len bytes) ≡ x)
piece_takes {E} short len bytes x e =
    let t = refusal_missed (ltb (length bytes) len) short (Ok (take len bytes, drop len bytes)) x e in
    (ltb-false _ _ t.0, ok_is {E = E} (take len bytes, drop len bytes) x t.1)

pub piece_fails : {E : Type 0} (short : E) (len : ℕ) (bytes : List ℕ) (fault : E) → piece_at short len bytes ≡ Err fault → (length bytes < len) × (short ≡ fault)
piece_fails {E} short len bytes fault e =
    elim (chosen (ltb (length bytes) len) (Err short) (Ok (take len bytes, drop len bytes)) (Err fault) e) [
      | inl there ↦ (ltb-true _ _ there.0, err_is {A = List ℕ × List ℕ} short fault there.1)
      | inr there ↦ absurd (ok_or_err (take len bytes, drop len bytes) fault there.1)
    ]

pub piece_there : {E : Type 0} (short : E) (len : ℕ) (bytes : List ℕ) → len ≤ length bytes → piece_at short len bytes ≡ Ok (take len bytes, drop len bytes)
piece_there short len bytes le = rw (le-ltb _ _ le) refl

pub piece_short : {E : Type 0} (short : E) (len : ℕ) (bytes : List ℕ) → length bytes < len → piece_at short len bytes ≡ Err short
piece_short short len bytes lt = rw (lt-ltb _ _ lt) refl

-- ---- numbers

-- Numbers below the limit and fields of that width give one another back.
pub record AreFields (w : Width) (limit : ℕ) : Type 0 where
  pub len : (n : ℕ) → length (to_be_bytes w n) ≡ byte_len w
  pub spelled : (bytes : List ℕ) → length bytes ≡ byte_len w → AreBytes bytes → to_be_bytes w (from_be_bytes w bytes) ≡ bytes
  pub read : (n : ℕ) → n < limit → from_be_bytes w (to_be_bytes w n) ≡ n
  pub below : (bytes : List ℕ) → AreBytes bytes → from_be_bytes w bytes < limit

pub fields_16 : AreFields w16 (2 ^ 16)
fields_16 = record {
  len = λ n. refl;
  spelled = λ bytes len h. be_bytes_2 bytes _ len h refl;
  read = λ n lt. from_be_bytes-to_be_bytes_2 n lt;
  below = λ bytes h. omega (arith, h 0, h 1);
}

pub fields_32 : AreFields w32 (2 ^ 32)
fields_32 = record {
  len = λ n. refl;
  spelled = λ bytes len h. be_bytes_4 bytes _ len h refl;
  read = λ n lt. from_be_bytes-to_be_bytes_4 n lt;
  below = λ bytes h. omega (arith, h 0, h 1, h 2, h 3);
}

pub fields_64 : AreFields w64 (2 ^ 64)
fields_64 = record {
  len = λ n. refl;
  spelled = λ bytes len h. be_bytes_8 bytes _ len h refl;
  read = λ n lt. from_be_bytes-to_be_bytes_8 n lt;
  below = λ bytes h. omega (arith, h 0, h 1, h 2, h 3, h 4, h 5, h 6, h 7);
}

-- the numbers of entries, in each version of a format
pub fields_of : (format : Format) → AreFields (number_width format) (number_end format)
fields_of One = fields_32
fields_of Two = fields_64

pub number_takes : {E : Type 0} (short : E) (w : Width) (limit : ℕ) → AreFields w limit → (bytes : List ℕ) (x : ℕ × List ℕ) → AreBytes bytes → number_at short w bytes ≡ Ok x → Begins bytes (to_be_bytes w x.0) x.1 × (x.0 < limit)
number_takes {E} short w limit laws bytes x h e =
    let n = byte_len w in
    let t = refusal_missed (ltb (length bytes) n) short (Ok (from_be_bytes w (take n bytes), drop n bytes)) x e in
    let long : n ≤ length bytes = ltb-false _ _ t.0 in
    let front : AreBytes (take n bytes) = AreBytes-take n bytes h long in
    let spelled : to_be_bytes w (from_be_bytes w (take n bytes)) ≡ take n bytes = laws.spelled (take n bytes) (length-take-le n bytes long) front in
    let found : Begins bytes (to_be_bytes w (from_be_bytes w (take n bytes))) (drop n bytes) × (from_be_bytes w (take n bytes) < limit) = (rw spelled (Begins-piece n bytes h), laws.below (take n bytes) front) in
    rw (← ok_is {E = E} (from_be_bytes w (take n bytes), drop n bytes) x t.1) found

pub number_fails : {E : Type 0} (short : E) (w : Width) (bytes : List ℕ) (fault : E) → number_at short w bytes ≡ Err fault → (length bytes < byte_len w) × (short ≡ fault)
number_fails {E} short w bytes fault e =
    let n = byte_len w in
    elim (chosen (ltb (length bytes) n) (Err short) (Ok (from_be_bytes w (take n bytes), drop n bytes)) (Err fault) e) [
      | inl there ↦ (ltb-true _ _ there.0, err_is {A = ℕ × List ℕ} short fault there.1)
      | inr there ↦ absurd (ok_or_err (from_be_bytes w (take n bytes), drop n bytes) fault there.1)
    ]

pub number_again : {E : Type 0} (short : E) (w : Width) (limit : ℕ) → AreFields w limit → (n : ℕ) (rest : List ℕ) → n < limit → number_at short w (to_be_bytes w n ++ rest) ≡ Ok (n, rest)
number_again short w limit laws n rest lt =
    let len = laws.len n in
    let long : ltb (length (to_be_bytes w n ++ rest)) (byte_len w) ≡ false = le-ltb _ _ (omega (arith, length-append (to_be_bytes w n) rest)) in
    rw (long, take_at (to_be_bytes w n) rest (byte_len w) len, drop_at (to_be_bytes w n) rest (byte_len w) len, laws.read n lt) refl

pub number_short : {E : Type 0} (short : E) (w : Width) (bytes : List ℕ) → length bytes < byte_len w → number_at short w bytes ≡ Err short
number_short short w bytes lt = rw (lt-ltb _ _ lt) refl
