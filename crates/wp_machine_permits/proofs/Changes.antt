-- Changes: what is so of the key of each is so of each key that they change.
use Rattle.std.proofs.Common.{◌≡◌, ℕ, Bool, true, false, cond, List, [], ◌∷◌, Option, Some, None, is_some, refl, sym, ap, ◌∙◌, subst}
use Rattle.std.specs.Str.{bytes_eq}
use Rattle.std.specs.FinMap as finite
use Rattle.wp_model.specs.declared.change.Change.{Change}
use Rattle.wp_model.specs.declared.version.Version.{Version}
use Rattle.wp_model.specs.declared.holder.Holder.TheVariants.{Txn}
use Rattle.wp_model.specs.Batch.{key_of, value_of, change_to}
use Rattle.wp_model.specs.Versions.{version_at}
use Rattle.wp_model.specs.LockState.{LockState}
use Rattle.wp_machine_permits.specs.Each.{Each}
use Rattle.wp_machine_permits.specs.VersionLists.{HasChanges}
use Rattle.wp_machine_permits.specs.Holding.{AreHeldFor}
use Rattle.wp_cover.proofs.Order.{same_key, key_itself}

module _ (P : List ℕ → Type 0) where
  pub changed_at : (changes : List Change) → Each (λ (change : Change). P (key_of change)) changes → (key : List ℕ) (value : Option (List ℕ)) → change_to changes key ≡ Some value → P key
  changed_at [] each key value is = absurd cc
  changed_at (change ∷ changes) each key value is = by (bytes_eq (key_of change) key) refl is (changed_at changes each.1 key value)
    where
      by : (b : Bool) → bytes_eq (key_of change) key ≡ b → cond b (Some (value_of change)) (change_to changes key) ≡ Some value → (change_to changes key ≡ Some value → P key) → P key
      by false here is rest = rest is
      by true here is rest = subst P (same_key (key_of change) key here) each.0

  pub at_changed : (changes : List Change) → ((key : List ℕ) (value : Option (List ℕ)) → change_to changes key ≡ Some value → P key) → Each (λ (change : Change). P (key_of change)) changes
  at_changed [] every = tt
  at_changed (change ∷ changes) every = (every (key_of change) (value_of change) (ap (λ b. cond b (Some (value_of change)) (change_to changes (key_of change))) (key_itself (key_of change))), at_changed changes (λ key value e. behind key value (bytes_eq (key_of change) key) refl e))
    where
      behind : (key : List ℕ) (value : Option (List ℕ)) (b : Bool) → bytes_eq (key_of change) key ≡ b → change_to changes key ≡ Some value → P key
      behind key value false here e = every key value (ap (λ b. cond b (Some (value_of change)) (change_to changes key)) here ∙ e)
      behind key value true here e = every key (value_of change) (ap (λ b. cond b (Some (value_of change)) (change_to changes key)) here)

-- ---- versions of changes

abbrev pub AreThere : List Version → ℕ → List Change → List Change → Type 0
AreThere versions n batch changes = Each (λ (change : Change). version_at versions (key_of change) n ≡ change_to batch (key_of change)) changes

pub has_there : (versions : List Version) (n : ℕ) (batch : List Change) → AreThere versions n batch batch → HasChanges versions n batch
has_there versions n batch each key value is = changed_at (λ k. version_at versions k n ≡ change_to batch k) batch each key value is ∙ is

pub there_has : (versions : List Version) (n : ℕ) (batch : List Change) → HasChanges versions n batch → AreThere versions n batch batch
there_has versions n batch has = at_changed (λ k. version_at versions k n ≡ change_to batch k) batch (λ key value is. has key value is ∙ sym is)

-- ---- keys that are held

abbrev pub EachHeldFor : LockState → List ℕ → List Change → Type 0
EachHeldFor locks name changes = Each (λ (change : Change). finite.get locks.keys (key_of change) ≡ Some (Txn name)) changes

pub held_from : (locks : LockState) (name : List ℕ) (changes : List Change) → EachHeldFor locks name changes → AreHeldFor locks changes name
held_from locks name changes each key changed = by (change_to changes key) refl
  where
    by : (c : Option (Option (List ℕ))) → change_to changes key ≡ c → finite.get locks.keys key ≡ Some (Txn name)
    by None e = let no : is_some (change_to changes key) ≡ false = ap is_some e in absurd cc
    by (Some value) e = changed_at (λ k. finite.get locks.keys k ≡ Some (Txn name)) changes each key value e

pub from_held : (locks : LockState) (name : List ℕ) (changes : List Change) → AreHeldFor locks changes name → EachHeldFor locks name changes
from_held locks name changes held = at_changed (λ k. finite.get locks.keys k ≡ Some (Txn name)) changes (λ key value is. held key (ap is_some is))
