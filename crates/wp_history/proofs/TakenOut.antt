-- Numbers of which the first are out, with one more taken out.
use Rattle.std.proofs.Common.{◌≡◌, ℕ, suc, ◌+◌, ◌-◌, ◌<◌, List, ◌++◌, length, take, drop, sym, ap, ◌∙◌, length-take-le, arith}
use Rattle.std.specs.List.{remove}
use Rattle.std.proofs.Math.Seq.{drop-append-add}
use Rattle.std.proofs.lemmas.List.{append_assoc, drop_at, length-append, length-drop, take_at, take-append-drop, take-take}
use Rattle.std.proofs.lemmas.List.Edits.{remove-append_right}
use borrow.Rule.Slice.PartMut.{mid_of, post_of}

module _ (xs : List ℕ) (a i : ℕ) (within : a + i < length xs) where
  abbrev ys : List ℕ
  ys = drop a xs

  abbrev mid : List ℕ
  mid = take (i + 1) ys

  some : i < length ys
  some = let it = length-drop a xs in omega (arith, it, within)

  front : length (take a xs) ≡ a
  front = length-take-le a xs (omega (arith, within))

  size : length mid ≡ i + 1
  size = length-take-le (i + 1) ys (omega (arith, some))

  -- by those behind it
  pub later_out : drop a (remove xs (a + i)) ≡ remove ys i
  later_out =
      ap (λ (l : List ℕ). drop a (remove l (a + i))) (sym (take-append-drop a xs))
      ∙ ap (drop a) (remove-append_right (take a xs) ys a (a + i) front (omega arith))
      ∙ drop_at (take a xs) (remove ys (a + i - a)) a front
      ∙ ap (remove ys) (let e : a + i - a ≡ i = omega arith in e)

  -- by those before it, behind which it was put first
  abbrev turned : ℕ → List ℕ
  turned m = take a xs ++ ((drop m mid ++ take m mid) ++ drop (i + 1) ys)

  length_turned : length (turned i) ≡ length xs
  length_turned =
      let whole = length-append (take a xs) ((drop i mid ++ take i mid) ++ drop (i + 1) ys) in
      let rest = length-append (drop i mid ++ take i mid) (drop (i + 1) ys) in
      let part = length-append (drop i mid) (take i mid) in
      let one = length-drop i mid in
      let others = length-take-le i mid (omega (arith, size)) in
      let behind = length-drop (i + 1) ys in
      let all = length-drop a xs in
      omega (arith, whole, rest, part, one, others, behind, all, front, size, within)

  up : i + 1 ≡ suc i
  up = omega arith

  left_over : drop (a + 1) (turned i) ≡ remove ys i
  left_over =
      ap (λ (n : ℕ). drop n (turned i)) (let e : a + 1 ≡ length (take a xs) + 1 = omega (arith, front) in e)
      ∙ drop-append-add (take a xs) ((drop i mid ++ take i mid) ++ drop (i + 1) ys) 1
      ∙ ap (drop 1) (append_assoc (drop i mid) (take i mid) (drop (i + 1) ys))
      ∙ drop_at (drop i mid) (take i mid ++ drop (i + 1) ys) 1 (let one = length-drop i mid in omega (arith, one, size))
      ∙ (λ j. take-take i (i + 1) ys (omega arith) j ++ drop (up j) ys)

  pub first_out : (held part : List ℕ) (n k : ℕ) → held ≡ xs → n ≡ length xs → k ≡ i + 1
      → part ≡ drop (length (mid_of a k held) - 1) (mid_of a k held) ++ take (length (mid_of a k held) - 1) (mid_of a k held)
      → drop (a + 1) (take n ((take a held ++ (part ++ post_of a k held)) ++ drop (length (take a held ++ (part ++ post_of a k held))) xs)) ≡ remove ys i
  first_out held part n k held-is n-is k-is part-is =
      let now : take a held ++ (part ++ post_of a k held) ≡ turned i =
      ap (λ (p : List ℕ). take a held ++ (p ++ post_of a k held)) part-is
      ∙ (λ j. take a (held-is j) ++ ((drop (length (mid_of a (k-is j) (held-is j)) - 1) (mid_of a (k-is j) (held-is j)) ++ take (length (mid_of a (k-is j) (held-is j)) - 1) (mid_of a (k-is j) (held-is j))) ++ post_of a (k-is j) (held-is j)))
      ∙ ap turned (let e : length mid - 1 ≡ i = omega (arith, size) in e) in
      (λ j. drop (a + 1) (take (n-is j) (now j ++ drop (length (now j)) xs))) ∙ ap (drop (a + 1)) (take_at (turned i) (drop (length (turned i)) xs) (length xs) length_turned) ∙ left_over
