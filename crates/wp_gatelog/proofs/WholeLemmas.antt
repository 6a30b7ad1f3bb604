-- A whole log, put together record after record.
use Rattle.std.proofs.Common.{◌≡◌, ℕ, ◌-◌, ◌<◌, ◌^◌, List, [], ◌∷◌, ◌++◌, length, take, refl, sym, ◌∙◌, ap, arith, length-append}
use Rattle.std.proofs.lemmas.List.{append_assoc, take_at}
use Rattle.wp_gatelog.specs.Beside.{IsWholeLog}
use Rattle.wp_gatelog.specs.Spelling.{Stamp, frame_of, framed, identity, log_of}
use Rattle.wp_gatelog.proofs.AppendLemmas.{acknowledged_more, log_longer}
use Rattle.wp_gatelog.proofs.MakeLemmas.{log_of_none}

-- a head and a closed gate behind it
pub whole_none : (magic : List ℕ) (stamp : Stamp) (bytes : List ℕ) → bytes ≡ 1 ∷ (identity magic stamp ++ 0 ∷ []) → IsWholeLog magic stamp [] bytes
whole_none magic stamp bytes is = record {
  gated = [];
  acknowledged = record { gates_open = tt; last = refl; same = refl };
  spelling = is ∙ sym (log_of_none magic stamp 1 []);
}

-- the gate that ends it is opened, and the frame follows
pub whole_more : (magic : List ℕ) (stamp : Stamp) (records : List (List ℕ)) (old bytes longer : List ℕ) (n : ℕ) → length bytes < 2 ^ 64 → IsWholeLog magic stamp records old → n ≡ length old - 1
    → longer ≡ (take n old ++ 1 ∷ []) ++ frame_of bytes → IsWholeLog magic stamp (records ++ bytes ∷ []) longer
whole_more magic stamp records old bytes longer n fits whole size is =
    let log : List ℕ = log_of magic stamp 1 whole.gated in
    let at : length log ≡ n = omega (arith, size, ap length whole.spelling, length-append log (0 ∷ [])) in
    let kept : take n old ≡ log = ap (λ (l : List ℕ). take n l) whole.spelling ∙ take_at log (0 ∷ []) n at in
    let opened : longer ≡ log ++ 1 ∷ (framed bytes ++ 0 ∷ []) =
    is ∙ ap (λ (l : List ℕ). (l ++ 1 ∷ []) ++ frame_of bytes) kept ∙ append_assoc log (1 ∷ []) (frame_of bytes) in
    record {
      gated = whole.gated ++ record { gate = 1; bytes = bytes } ∷ [];
      acknowledged = acknowledged_more whole.gated records bytes fits whole.acknowledged;
      spelling = log_longer magic stamp 1 whole.gated 1 bytes [] longer opened;
    }
