-- What was taken from a source is all that it held, or as much as may be taken.
use Rattle.std.proofs.Common.{◌≡◌, ℕ, ◌≤◌, List, ◌++◌, Option, Some, None, length, sym, ap, ◌∙◌}
use Rattle.std.specs.Io.KnownBytes.{Consumes, IsAtEnd, Keeps}
use Rattle.std.proofs.lemmas.List.{append-nil, take-append-le, take_all}
use Rattle.wp_outside.specs.Whole.{AreBytesRead}

pub takes_to_end : (most : ℕ) (old mid new : Option (List ℕ)) (bytes : List ℕ) → Consumes old mid bytes → length bytes ≤ most → IsAtEnd mid × Keeps mid new → AreBytesRead most old new bytes
takes_to_end most None mid new bytes taken few ended = record { whole = tt; consumed = tt }
takes_to_end most (Some all) None new bytes taken few ended = absurd taken
takes_to_end most (Some all) (Some rest) None bytes taken few ended = absurd ended.1
takes_to_end most (Some all) (Some rest) (Some left) bytes taken few ended =
    let is : all ≡ bytes = taken ∙ ap (λ (v : List ℕ). bytes ++ v) ended.0 ∙ append-nil bytes in
    record {
      whole = rw is (sym (take_all most bytes few));
      consumed = taken ∙ ap (λ (v : List ℕ). bytes ++ v) (sym ended.1);
    }

pub takes_most : (most : ℕ) (old new : Option (List ℕ)) (bytes : List ℕ) → Consumes old new bytes → length bytes ≤ most → most ≤ length bytes → AreBytesRead most old new bytes
takes_most most None new bytes taken few full = record { whole = tt; consumed = tt }
takes_most most (Some all) None bytes taken few full = absurd taken
takes_most most (Some all) (Some left) bytes taken few full = record {
  whole = rw (taken, take-append-le most bytes left full) (sym (take_all most bytes few));
  consumed = taken;
}
