-- What is found among the undecided prepares is one of them.
use Rattle.std.proofs.Common.{◌≡◌, ℕ, Bool, true, List, [], ◌∷◌, length, Some, inl, inr}
use Rattle.std.specs.Prelude.{IfSome}
use Rattle.std.specs.List.{filter, find, range_with_len}
use Rattle.std.specs.Str.{bytes_eq}
use Rattle.std.proofs.lemmas.Bool.{cases_Bool}
use Rattle.wp_model.specs.declared.entry.Entry.{Entry}
use Rattle.wp_model.specs.History.{is_undecided, batch_at, name_at, is_changed, named, holder_of}

found_passes : (keeps test : ℕ → Bool) (numbers : List ℕ) → IfSome (find test (filter keeps numbers)) (λ p. (keeps p ≡ true) × (test p ≡ true))
found_passes keeps test [] = tt
found_passes keeps test (n ∷ numbers) =
    elim (cases_Bool (keeps n)) [
      | inl retained ↦ rw retained (elim (cases_Bool (test n)) [
        | inl passes ↦ rw passes (retained, passes)
        | inr fails ↦ rw fails (found_passes keeps test numbers)
      ])
      | inr dropped ↦ rw dropped (found_passes keeps test numbers)
    ]

-- who holds a key is undecided, and changes it
pub found_holder : (history : List Entry) (key : List ℕ) (p : ℕ) → holder_of history key ≡ Some p → (is_undecided history p ≡ true) × (is_changed (batch_at history p) key ≡ true)
found_holder history key p is =
    let found : IfSome (holder_of history key) (λ q. (is_undecided history q ≡ true) × (is_changed (batch_at history q) key ≡ true)) = found_passes (is_undecided history) (λ q. is_changed (batch_at history q) key) (range_with_len 1 (length history)) in
    rw is at found

-- who has a name is undecided
pub found_named : (history : List Entry) (name : List ℕ) (p : ℕ) → named history name ≡ Some p → (is_undecided history p ≡ true) × (bytes_eq (name_at history p) name ≡ true)
found_named history name p is =
    let found : IfSome (named history name) (λ q. (is_undecided history q ≡ true) × (bytes_eq (name_at history q) name ≡ true)) = found_passes (is_undecided history) (λ q. bytes_eq (name_at history q) name) (range_with_len 1 (length history)) in
    rw is at found

pub named_is_undecided : (history : List Entry) (name : List ℕ) (p : ℕ) → named history name ≡ Some p → is_undecided history p ≡ true
named_is_undecided history name p is = (found_named history name p is).0
