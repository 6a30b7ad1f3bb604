-- What is so of each of some keys.
use Rattle.std.proofs.Common.{◌≡◌, ℕ, Bool, true, false, ◌||◌, List, [], ◌∷◌, Option, Some, is_some, refl, sym, ap, ◌∙◌, subst}
use Rattle.std.specs.FinSet as set
use Rattle.std.specs.FinMap as finite
use Rattle.std.specs.FinMap.{contains_key-keys}
use Rattle.std.specs.Option.{option_map_or}
use Rattle.std.specs.Str.{bytes_eq}
use Rattle.std.proofs.lemmas.Cmp.{nat_list_cmp_total}
use Rattle.std.proofs.lemmas.Slice.Eq.{bytes_eq-Decides}
use Rattle.wp_model.specs.Holder.{is_same}
use Rattle.wp_model.specs.declared.holder.Holder.{Holder}
use Rattle.wp_model.specs.declared.holder.Holder.TheVariants.{Txn}
use Rattle.wp_model.specs.LockState.{LockState, is_among_keys}
use Rattle.wp_core.specs.Changes.{is_held_by, keys_of_holder}
use Rattle.wp_core.specs.Sound.Views.{AreKeysOf}
use Rattle.wp_machine.proofs.NameMaps.{set_of, contains_filtered}
use Rattle.wp_machine_permits.specs.Each.{Each}
use Rattle.wp_machine_permits.proofs.LiveNumbers.{each_locked}

-- what is so of each is so of one that is among them
each_among : (P : List ℕ → Type 0) (keys : List (List ℕ)) → Each P keys → (key : List ℕ) → is_among_keys keys key ≡ true → P key
each_among P [] each key has = absurd cc
each_among P (first ∷ others) each key has = by (bytes_eq first key) refl has (each_among P others each.1 key)
  where
    by : (b : Bool) → bytes_eq first key ≡ b → (b || is_among_keys others key) ≡ true → (is_among_keys others key ≡ true → P key) → P key
    by true same is rest = subst P ((bytes_eq-Decides first key).0 same) each.0
    by false other is rest = rest is

-- a key that is held for the name is one of its keys
held_listed : (l : LockState) (name key : List ℕ) → finite.get l.keys key ≡ Some (Txn name) → set.contains (keys_of_holder l (Txn name)) key ≡ true
held_listed l name key has =
    let there : set.contains (set_of (finite.keys l.keys)) key ≡ true = set.contains-from_list nat_list_cmp_total (finite.keys l.keys) key ∙ sym (contains_key-keys l.keys key) ∙ ap is_some has in
    let its : is_held_by l (Txn name) key ≡ true = ap (λ (o : Option Holder). option_map_or (is_same (Txn name)) o false) has ∙ (bytes_eq-Decides name name).1 refl in
    contains_filtered (is_held_by l (Txn name)) (finite.keys l.keys) key ∙ rw (there, its) refl

-- just these are held for the name, where each of those found is one of these, and each of these is held for it
pub just_these : (l : LockState) (name : List ℕ) (keys found : List (List ℕ)) → set_of found ≡ keys_of_holder l (Txn name) → Each (λ key. is_among_keys keys key ≡ true) found → Each (λ key. finite.get l.keys key ≡ Some (Txn name)) keys → AreKeysOf l.keys name keys
just_these l name keys found is among held = record {
  among = λ key has. each_locked (λ k. is_among_keys keys k ≡ true) found among key (ap (λ s. set.contains s key) is ∙ held_listed l name key has);
  are_held = λ key has. each_among (λ k. finite.get l.keys k ≡ Some (Txn name)) keys held key has;
}
