-- Who has the names and the keys of prepares.
use Rattle.std.specs.Prelude.{◌≡◌, ℕ, ◌==◌, Bool, true, not, List, [], ◌∷◌, ◌++◌, Option, None, Some, slice_get, if◌then◌else◌}
use Rattle.std.specs.BTreeMap.{BTreeMap}
use Rattle.std.specs.List.{filter, find, list_any}
use Rattle.std.specs.Option.{option_map}
use Rattle.std.specs.Str.{bytes_eq}
use Rattle.wp_model.specs.declared.carried.Carried.{Carried}
use Rattle.wp_model.specs.declared.change.Change.{Change}
use Rattle.wp_model.specs.Batch.{key_of}
use Rattle.wp_model.specs.History.{is_changed}
use Rattle.wp_history.specs.declared.holders.Holders.{Holders}
use Rattle.wp_history.specs.declared.holders.HoldersError.{HoldersError}
use Rattle.wp_history.specs.declared.holders.HoldersError.TheVariants.{Memory, Collision}
use Rattle.wp_history.specs.History.{IsStore}
use Rattle.wp_history.specs.Outline.{collides, collision_of}

-- the number of the first prepare of that name
abbrev pub name_holder : List Carried → List ℕ → Option ℕ
name_holder prepares name = option_map (λ x. x.number) (find (λ x. bytes_eq x.name name) prepares)

-- the number of the first one that changes the key
abbrev pub key_holder : List Carried → List ℕ → Option ℕ
key_holder prepares key = option_map (λ x. x.number) (find (λ x. is_changed x.batch key) prepares)

-- no two of the prepares have a name or a key together, and under each of these is the number of its prepare
pub record Holds (prepares : List Carried) (holders : Holders) : Type 0 where
  pub apart : collision_of prepares ≡ None
  pub names : IsStore (name_holder prepares) holders.names
  pub keys : IsStore (key_holder prepares) holders.keys

-- these values, with this one under the key of each of the changes, or with none there
abbrev pub marked : Option ℕ → List Change → (List ℕ → Option ℕ) → List ℕ → Option ℕ
marked value [] values = values
marked value (change ∷ changes) values = marked value changes (λ key. if bytes_eq (key_of change) key then value else values key)

abbrev pub Marks : Option ℕ → List Change → BTreeMap (List ℕ) ℕ → BTreeMap (List ℕ) ℕ → Type 0
Marks value changes old new = (values : List ℕ → Option ℕ) → IsStore values old → IsStore (marked value changes values) new

-- it has no name and no key of those prepares, or it has; where it has none the holders are those with it
pub record Takes (prepares : List Carried) (x : Carried) (free : Bool) (holders : Holders) : Type 0 where
  pub apart : free ≡ not (list_any (collides x) prepares)
  pub holds : free ≡ true → Holds (prepares ++ x ∷ []) holders

-- why nobody has what the prepares have: the first that has a name or a key of one before it; of memory it says nothing
abbrev pub IsCollision : List Carried → HoldersError → Type 0
IsCollision prepares Memory = Unit {0}
IsCollision prepares (Collision number) = collision_of prepares ≡ Some number

-- ---- one prepare less

-- the prepares but for the one with this number
abbrev pub without : List Carried → ℕ → List Carried
without prepares p = filter (λ x. not (x.number == p)) prepares

-- one of them has this number, this name and this batch, and no other has the number
pub record IsAmong (prepares : List Carried) (p : ℕ) (name : List ℕ) (batch : List Change) : Type 0 where
  pub place : ℕ
  pub there : slice_get prepares place ≡ Some (record { number = p; name = name; batch = batch })
  pub alone : (i : ℕ) (x : Carried) → slice_get prepares i ≡ Some x → x.number ≡ p → x ≡ record { number = p; name = name; batch = batch }
