-- What a store has under its keys, as a map whose keys and values are borrowed from where they are.
use Rattle.std.specs.Prelude.{◌≡◌, ℕ, List, Option, unwrap_or, if◌then◌else◌}
use Rattle.std.specs.Borrow.{Bor}
use Rattle.std.specs.Option.{option_copied}
use Rattle.std.specs.Str.{bytes_eq}
use Rattle.std.specs.BTreeMap.{BTreeMap, IsOrdered, get_by}
use Rattle.wp_model.specs.declared.change.Change.{Change}
use Rattle.wp_model.specs.Batch.{key_cmp, change_to}

abbrev pub Store : Type 0
Store = BTreeMap (Bor (List ℕ)) (Bor (List ℕ))

-- what such a map has under the key
abbrev pub under : {X : Type 0} → BTreeMap (Bor (List ℕ)) X → List ℕ → Option X
under store key = get_by (λ k. key_cmp key k.now) store

-- the map has just these values
pub record IsStore (values : List ℕ → Option (List ℕ)) (store : Store) : Type 0 where
  pub ordered : IsOrdered (λ k q. key_cmp k.now q.now) store
  pub each : (key : List ℕ) → option_copied (under store key) ≡ values key

-- the value is left under the key, or nothing
abbrev pub Leaves : List ℕ → Option (List ℕ) → Store → Store → Type 0
Leaves key value old new = (values : List ℕ → Option (List ℕ)) → IsStore values old → IsStore (λ other. if bytes_eq key other then value else values other) new

-- what the changes say of keys is left under them
abbrev pub LeavesChanges : List Change → Store → Store → Type 0
LeavesChanges changes old new = (values : List ℕ → Option (List ℕ)) → IsStore values old → IsStore (λ key. unwrap_or (change_to changes key) (values key)) new
