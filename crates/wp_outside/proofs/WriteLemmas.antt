-- What a sink has taken of a text, piece by piece.
use Rattle.std.proofs.Common.{◌≡◌, ℕ, List, ◌++◌, Option, Some, None, sym, ap, ◌∙◌, append_assoc, take, drop, length, ◌≤◌, ◌-◌}
use Rattle.std.proofs.lemmas.List.{take_rest, take-append-drop}
use Rattle.std.specs.Io.KnownBytes.{Appends}
use Rattle.wp_outside.specs.Sink.{AppendsPrefix}

-- the text but for its rest was taken
pub record Wrote (old new : Option (List ℕ)) (text rest : List ℕ) : Type 0 where
  pub done : List ℕ
  pub parts : text ≡ done ++ rest
  pub taken : Appends old new done

Appends-join : (old mid new : Option (List ℕ)) (a b : List ℕ) → Appends old mid a → Appends mid new b → Appends old new (a ++ b)
Appends-join None mid new a b p q = tt
Appends-join (Some xs) None new a b p q = absurd p
Appends-join (Some xs) (Some ys) None a b p q = absurd q
Appends-join (Some xs) (Some ys) (Some zs) a b p q = q ∙ ap (λ (v : List ℕ). v ++ b) p ∙ append_assoc xs a b

pub wrote_more : (old mid new : Option (List ℕ)) (text rest : List ℕ) (n : ℕ) → Wrote old mid text rest → n ≤ length rest → Appends mid new (take n rest) → Wrote old new text (take (length rest - n) (drop n rest))
wrote_more old mid new text rest n so_far le more = rw take_rest (record {
  done = so_far.done ++ take n rest;
  parts = so_far.parts ∙ ap (λ (v : List ℕ). so_far.done ++ v) (sym (take-append-drop n rest)) ∙ sym (append_assoc so_far.done (take n rest) (drop n rest));
  taken = Appends-join old mid new so_far.done (take n rest) so_far.taken more;
})

pub wrote_prefix : (old mid new : Option (List ℕ)) (text rest : List ℕ) → Wrote old mid text rest → AppendsPrefix mid new rest → AppendsPrefix old new text
wrote_prefix old mid new text rest so_far (front, back, parts, taken) =
    (so_far.done ++ front, back, so_far.parts ∙ ap (λ (v : List ℕ). so_far.done ++ v) parts ∙ sym (append_assoc so_far.done front back), Appends-join old mid new so_far.done front so_far.taken taken)
