-- A frame has its record.
use Rattle.std.proofs.Common.{◌≡◌, ℕ, zero, suc, ◌+◌, ◌-◌, ◌≤◌, List, [], ◌∷◌, ◌++◌, length, take, drop, refl, sym, ap, ◌∙◌, arith, length-append, length-drop}
use Rattle.std.proofs.lemmas.List.{append_assoc, take_at, length-take-le, take-append-le, drop-append-le}
use Rattle.std.specs.Int.{w64, to_be_bytes}
use Rattle.wp_gatelog.specs.Spelling.{framed, framed_in, frame_of}
use Rattle.wp_gatelog.proofs.FrontLemmas.{take_front}

pub length-frame_of : (bytes : List ℕ) → length (frame_of bytes) ≡ length bytes + 9
unfolding framed
length-frame_of bytes = omega (arith, length-append bytes (0 ∷ []))

pub framed_in-frame_of : (bytes : List ℕ) → framed_in (frame_of bytes) ≡ bytes
unfolding framed
framed_in-frame_of bytes =
    let len : length (frame_of bytes) - 9 ≡ length bytes = omega (arith, length-frame_of bytes) in
    rw len (take_at bytes (0 ∷ []) (length bytes) refl)

-- what is written for a record is its frame
pub frame_of-framed_in : (written bytes : List ℕ) → written ≡ frame_of bytes → written ≡ frame_of (framed_in written)
frame_of-framed_in written bytes is = rw is (ap frame_of (sym (framed_in-frame_of bytes)))

pub framed_in-written : (written bytes : List ℕ) → written ≡ frame_of bytes → framed_in written ≡ bytes
framed_in-written written bytes is = ap framed_in is ∙ framed_in-frame_of bytes

-- the length is written over the room before the bytes, and the closed gate after them
frame_written : (room written : List ℕ) (len : ℕ) → 8 ≤ length room → len ≡ length room - 8 → written ≡ (to_be_bytes w64 len ++ drop 8 room) ++ 0 ∷ [] → written ≡ frame_of (drop 8 room)
unfolding framed
frame_written room written len fits is shown =
    shown ∙ ap (λ (n : ℕ). (to_be_bytes w64 n ++ drop 8 room) ++ 0 ∷ []) (is ∙ sym (length-drop 8 room))

-- the same, where the buffer is lent for the length to be written
pub frame_filled : (room lent filled written : List ℕ) (len n : ℕ) → 8 ≤ length room → len ≡ length room - 8 → lent ≡ room → filled ≡ to_be_bytes w64 len ++ drop 8 lent → n ≡ length room
    → written ≡ take n (filled ++ drop (length filled) room) ++ 0 ∷ [] → written ≡ frame_of (drop 8 room)
frame_filled room lent filled written len n fits len_is same is whole shown =
    let front : filled ≡ to_be_bytes w64 len ++ drop 8 room = is ∙ ap (λ (l : List ℕ). to_be_bytes w64 len ++ drop 8 l) same in
    let size : length filled ≡ length room = omega (arith, ap length front, length-append (to_be_bytes w64 len) (drop 8 room), length-drop 8 room, fits) in
    frame_written room written len fits len_is (shown ∙ ap (λ (l : List ℕ). l ++ 0 ∷ []) (take_at filled (drop (length filled) room) n (omega (arith, size, whole)) ∙ front))

-- ---- a number is written over eight of the record's bytes

-- a front, and what is behind it from a place on
drop_front : (front before : List ℕ) (len from : ℕ) → len ≡ length front + from → drop len (front ++ before) ≡ drop from before
drop_front [] before len from is = ap (λ (k : ℕ). drop k before) (omega (arith, is))
drop_front (x ∷ front) before zero from is = absurd (omega (arith, is))
drop_front (x ∷ front) before (suc len) from is = drop_front front before len from (omega (arith, is))

abbrev put_over : ℕ → List ℕ → List ℕ → List ℕ
put_over at number bytes = take at bytes ++ (number ++ drop (at + 8) bytes)

length-put_over : (at : ℕ) (number bytes : List ℕ) → length number ≡ 8 → at + 8 ≤ length bytes → length (put_over at number bytes) ≡ length bytes
length-put_over at number bytes eight within =
    omega (arith, length-append (take at bytes) (number ++ drop (at + 8) bytes), length-append number (drop (at + 8) bytes), length-take-le at bytes (omega arith), length-drop (at + 8) bytes)

-- over a frame the number is written behind the length
frame_over : (at from : ℕ) (number bytes : List ℕ) → length number ≡ 8 → at + 8 ≤ length bytes → from ≡ 8 + at → put_over from number (frame_of bytes) ≡ frame_of (put_over at number bytes)
unfolding framed
frame_over at from number bytes eight within is =
    let len : List ℕ = to_be_bytes w64 (length bytes) in
    let all : frame_of bytes ≡ len ++ (bytes ++ 0 ∷ []) = append_assoc len bytes (0 ∷ []) in
    let before : take from (frame_of bytes) ≡ len ++ take at bytes =
    ap (λ (l : List ℕ). take from l) all ∙ take_front len (bytes ++ 0 ∷ []) from at (omega (arith, is)) ∙ ap (λ (l : List ℕ). len ++ l) (take-append-le at bytes (0 ∷ []) (omega arith)) in
    let behind : drop (from + 8) (frame_of bytes) ≡ drop (at + 8) bytes ++ 0 ∷ [] =
    ap (λ (l : List ℕ). drop (from + 8) l) all ∙ drop_front len (bytes ++ 0 ∷ []) (from + 8) (at + 8) (omega (arith, is)) ∙ drop-append-le (at + 8) bytes (0 ∷ []) within in
    rw (before, behind, length-put_over at number bytes eight within) (simp append_assoc)

-- the same, where the frame is lent for the number to be written
pub frame_put : (written lent filled out bytes number : List ℕ) (at from n : ℕ) → length number ≡ 8 → at + 8 ≤ length bytes → from ≡ 8 + at → written ≡ frame_of bytes → lent ≡ written → filled ≡ put_over from number lent → n ≡ length written
    → out ≡ take n (filled ++ drop (length filled) written) → out ≡ frame_of (put_over at number bytes)
frame_put written lent filled out bytes number at from n eight within is frame same put whole shown =
    let over : filled ≡ frame_of (put_over at number bytes) = put ∙ ap (λ (l : List ℕ). put_over from number l) (same ∙ frame) ∙ frame_over at from number bytes eight within is in
    let size : length filled ≡ n = omega (arith, ap length over, length-frame_of (put_over at number bytes), length-put_over at number bytes eight within, ap length frame, length-frame_of bytes, whole) in
    shown ∙ take_at filled (drop (length filled) written) n size ∙ over
