-- Who holds a key.
use Rattle.std.specs.Prelude.{◌≡◌, ℕ, Bool, false, List, ◌⊎◌, refl}
use Rattle.std.proofs.Common.{inl, inr}
use Rattle.std.specs.Str.{bytes_eq}
use Rattle.std.specs.Coded.{Coded, code_by, coded⊎, coded_ℕ, coded_list}
use Rattle.wp_model.specs.declared.holder.Holder.{Holder}
use Rattle.wp_model.specs.declared.holder.Holder.TheVariants.{Txn, Client}

-- whether both are the same transaction or the same client
abbrev pub is_same : Holder → Holder → Bool
is_same (Txn name) (Txn other) = bytes_eq name other
is_same (Txn name) (Client other) = false
is_same (Client name) (Txn other) = false
is_same (Client name) (Client other) = bytes_eq name other

-- whether both are the same transaction
abbrev pub is_same_txn : Holder → Holder → Bool
is_same_txn (Txn name) other = is_same (Txn name) other
is_same_txn (Client name) other = false

-- a holder is stored as its name on one of two sides
abbrev pub side_of : Holder → List ℕ ⊎ List ℕ
side_of (Txn name) = inl name
side_of (Client name) = inr name

abbrev pub holder_from_side : List ℕ ⊎ List ℕ → Holder
holder_from_side (inl name) = Txn name
holder_from_side (inr name) = Client name

abbrev pub holder_from_side_of : (holder : Holder) → holder_from_side (side_of holder) ≡ holder
holder_from_side_of (Txn name) = refl
holder_from_side_of (Client name) = refl

abbrev pub holder_code : Coded Holder
holder_code = code_by (List ℕ ⊎ List ℕ) (coded⊎ (coded_list coded_ℕ) (coded_list coded_ℕ)) side_of holder_from_side holder_from_side_of
