-- How transactions are stored.
use Rattle.std.specs.Prelude.{◌≡◌, ℕ, List, ◌⊎◌, refl}
use Rattle.std.proofs.Common.{inl, inr}
use Rattle.std.specs.Coded.{Coded, code_by, coded×, coded⊎, coded_ℕ, coded_list}
use Rattle.std.specs.FinSet as set
use Rattle.std.specs.FinMap as map
use Rattle.wp_model.specs.declared.change.Change.{Change}
use Rattle.wp_model.specs.declared.change.Change.TheVariants.{Put, Del}
use Rattle.wp_model.specs.Batch.{key_cmp}
use Rattle.wp_core.specs.World.{Transaction, Transactions}

abbrev pub change_side : Change → (List ℕ × List ℕ) ⊎ List ℕ
change_side (Put key value) = inl (key, value)
change_side (Del key) = inr key

abbrev pub change_from_side : (List ℕ × List ℕ) ⊎ List ℕ → Change
change_from_side (inl p) = Put p.0 p.1
change_from_side (inr key) = Del key

abbrev pub change_from_side_of : (change : Change) → change_from_side (change_side change) ≡ change
change_from_side_of (Put key value) = refl
change_from_side_of (Del key) = refl

abbrev pub change_code : Coded Change
change_code = code_by ((List ℕ × List ℕ) ⊎ List ℕ) (coded⊎ (coded× (coded_list coded_ℕ) (coded_list coded_ℕ)) (coded_list coded_ℕ)) change_side change_from_side change_from_side_of

abbrev pub transaction_code : Coded Transaction
transaction_code =
    code_by (List Change × set.FinSet key_cmp) (coded× (coded_list change_code) (set.code (coded_list coded_ℕ))) (λ t. (t.batch, t.locked)) (λ p. record { batch = p.0; locked = p.1 }) (λ _. refl)

abbrev pub transactions_code : Coded Transactions
transactions_code = map.code (coded_list coded_ℕ) transaction_code
