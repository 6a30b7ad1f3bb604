-- Writing over bytes, step by step.
use Rattle.std.proofs.Common.{◌≡◌, ℕ, zero, suc, ◌+◌, ◌-◌, ◌<◌, ◌≤◌, max, List, [], ◌∷◌, ◌++◌, length, take, drop, sym, ◌∙◌, ap, refl, arith, length-append}
use Rattle.std.proofs.Math.ListN.{replicate}
use Rattle.std.proofs.lemmas.List.{length-replicate, drop_all, append-nil, take_at}
use borrow.Rule.Slice.PartMut.{put_mid}
use Rattle.wp_outside.specs.Disk.{Moment, put, hide_at, after_write}

-- a write of some bytes
pub after_write-some : (at : ℕ) (bytes : List ℕ) (m : Moment) → 0 < length bytes → after_write at bytes m ≡ record {
  reads = put at bytes m.reads;
  sure = hide_at at (length bytes) m.sure;
  longest = max m.longest (at + length bytes);
}
after_write-some at [] m some = absurd (omega arith)
after_write-some at (b ∷ bytes) m some = refl

-- within the old bytes it takes the place of as many
pub put_within : (at n : ℕ) (piece old : List ℕ) → n ≡ length piece → at ≤ length old → put_mid at n old piece ≡ put at piece old
put_within zero n piece old e fits = ap (λ k. piece ++ drop k old) e
put_within (suc at) n piece [] e fits = absurd (let none : length {A = ℕ} [] ≡ 0 = refl in omega arith)
put_within (suc at) n piece (b ∷ old) e fits = ap (λ xs. b ∷ xs) (put_within at n piece old e (omega arith))

-- zeros after the old bytes, up to the end of the write, make no difference
pub put_padded : (at : ℕ) (piece old : List ℕ) (n : ℕ) → length old + n ≡ at + length piece → put at piece (old ++ replicate n 0) ≡ put at piece old
put_padded zero piece old n end =
    let long : length (old ++ replicate n 0) ≤ length piece = omega (arith, length-append old (replicate n 0), length-replicate {A = ℕ} n 0) in
    let short : length old ≤ length piece = omega arith in
    ap (λ xs. piece ++ xs) (drop_all (length piece) (old ++ replicate n 0) long ∙ sym (drop_all (length piece) old short))
put_padded (suc at) piece [] zero end = refl
put_padded (suc at) piece [] (suc n) end =
    let none : length {A = ℕ} [] ≡ 0 = refl in
    ap (λ xs. 0 ∷ xs) (put_padded at piece [] n (omega arith))
put_padded (suc at) piece (b ∷ old) n end = ap (λ xs. b ∷ xs) (put_padded at piece old n (omega arith))

put_filled : (at : ℕ) (piece old : List ℕ) (n : ℕ) → n ≡ at + length piece - length old → put at piece (old ++ replicate n 0) ≡ put at piece old
put_filled at piece old zero e = ap (λ xs. put at piece xs) (append-nil old)
put_filled at piece old (suc n) e = put_padded at piece old (suc n) (omega arith)

-- the old bytes, filled up to the end of the write, with the piece over them
pub overwritten : (at len : ℕ) (piece old filled new : List ℕ) (m : Moment) → 0 < length piece → m.reads ≡ old
    → filled ≡ old ++ replicate (at + length piece - length old) 0 → new ≡ put at piece filled → length new ≡ len
    → (after_write at piece m).reads ≡ take len (new ++ drop (length new) filled)
overwritten at len piece old filled new m some reads fill over same =
    ap (λ (k : Moment). k.reads) (after_write-some at piece m some)
    ∙ ap (λ xs. put at piece xs) reads
    ∙ sym (put_filled at piece old (at + length piece - length old) refl)
    ∙ ap (λ xs. put at piece xs) (sym fill)
    ∙ sym over
    ∙ sym (take_at new (drop (length new) filled) len same)
