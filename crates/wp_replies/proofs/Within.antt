-- Snapshots whose numbers are within the history.
use Rattle.std.proofs.Common.{ℕ, ◌≤◌, Bool, List, [], ◌∷◌, ◌++◌, arith, inl, inr}
use Rattle.std.specs.Prelude.{IfSome}
use Rattle.std.specs.List.{filter}
use Rattle.std.specs.Str.{bytes_eq}
use Rattle.std.proofs.lemmas.Bool.{cases_Bool}
use Rattle.wp_replies.specs.declared.client.LabelledSnapshot.{LabelledSnapshot}
use Rattle.wp_replies.specs.Client.{AreWithin, number_of}

pub within_same : (n : ℕ) (front back : List LabelledSnapshot) → AreWithin n front → AreWithin n back → AreWithin n (front ++ back)
within_same n [] back f b = b
within_same n (s ∷ front) back f b = (f.0, within_same n front back f.1 b)

pub within_filter : (n : ℕ) (keeps : LabelledSnapshot → Bool) (snapshots : List LabelledSnapshot) → AreWithin n snapshots → AreWithin n (filter keeps snapshots)
within_filter n keeps [] w = tt
within_filter n keeps (s ∷ snapshots) w =
    elim (cases_Bool (keeps s)) [
      | inl kept ↦ rw kept (w.0, within_filter n keeps snapshots w.1)
      | inr dropped ↦ rw dropped (within_filter n keeps snapshots w.1)
    ]

pub within_more : (n m : ℕ) (snapshots : List LabelledSnapshot) → n ≤ m → AreWithin n snapshots → AreWithin m snapshots
within_more n m [] le w = tt
within_more n m (s ∷ snapshots) le w = (omega (arith, w.0), within_more n m snapshots le w.1)

pub number_within : (n : ℕ) (snapshots : List LabelledSnapshot) (label : List ℕ) → AreWithin n snapshots → IfSome (number_of snapshots label) (λ m. m ≤ n)
number_within n [] label w = tt
number_within n (s ∷ snapshots) label w =
    elim (cases_Bool (bytes_eq s.label label)) [
      | inl same ↦ rw same w.0
      | inr other ↦ rw other (number_within n snapshots label w.1)
    ]
