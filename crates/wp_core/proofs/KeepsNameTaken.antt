-- Taking the name of an undecided prepare keeps every part of a sound world.
use Rattle.std.proofs.Common.{◌≡◌, ◌⊎◌, ⊎_elim, ◌<◌, ◌&&◌, ℕ, Bool, true, false, true≢false, List, length, inl, inr, refl, sym, subst, ap, ◌∙◌, arith, Option, Some, None, is_some}
use Rattle.std.proofs.Math.Seq.{take-length}
use mathlib.Core.Option.{some}
use lib.ListN.{get_elem?}
use Rattle.std.specs.List.{list_any, filter}
use Rattle.std.specs.Option.{option_map_or}
use Rattle.std.specs.Ordering.{eq_by_cmp}
use Rattle.std.specs.FinSet as words
use Rattle.std.specs.FinSet.{contains-from_list}
use Rattle.std.specs.FinMap as finite
use Rattle.std.specs.FinMap.{contains_key-keys}
use Rattle.std.proofs.lemmas.Cmp.{nat_list_cmp_total}
use Rattle.std.proofs.lemmas.Map.Views.{any-filter_same}
use Rattle.std.proofs.lemmas.Slice.Eq.{bytes_eq-Decides}
use Rattle.wp_model.specs.Batch.{key_cmp}
use Rattle.wp_model.specs.declared.entry.Entry.{Entry}
use Rattle.wp_model.specs.History.{is_changed, batch_at, named}
use Rattle.wp_model.specs.Holder.{is_same}
use Rattle.wp_model.specs.declared.holder.Holder.{Holder}
use Rattle.wp_model.specs.declared.holder.Holder.TheVariants.{Txn, Client}
use Rattle.wp_model.specs.LockState.{LockState}
use Rattle.wp_model.proofs.Words.{same_word}
use Rattle.wp_core.specs.Views.{took}
use Rattle.wp_core.specs.World.{Transaction, Actor, World}
use Rattle.wp_core.specs.Steps.{take_name}
use Rattle.wp_core.specs.Changes.{is_held_by, keys_of_holder}
use Rattle.wp_core.specs.Effects.{done}
use Rattle.wp_core.specs.Needs.{Needs}
use Rattle.wp_core.specs.Notes.{forgets}
use Rattle.wp_core.specs.Sound.Locks.{owner_of, HasKeyAt, PrepareHas, WasLockedFor}
use Rattle.wp_core.specs.IsSound.{IsSound, participants}
use Rattle.wp_core.proofs.KeepsSeen.{shorter}
use Rattle.wp_core.proofs.LocksChange.{locks_change}
use Rattle.wp_core.proofs.GainsTransaction.{Gains, p, t, gained_parts}
use Rattle.wp_model.proofs.Tests.{both}

-- ---- the keys that are held for a name

held_by : (name : List ℕ) (o : Option Holder) → option_map_or (is_same (Txn name)) o false ≡ true → o ≡ Some (Txn name)
held_by name None h = absurd (true≢false (sym h))
held_by name (Some (Txn n)) h = ap (λ (z : List ℕ). Some (Txn z)) (sym ((bytes_eq-Decides name n).0 h))
held_by name (Some (Client c)) h = absurd (true≢false (sym h))

module _ (l : LockState) (name : List ℕ) where
  in_set : (k : List ℕ) → words.contains (keys_of_holder l (Txn name)) k ≡ (is_held_by l (Txn name) k && list_any (eq_by_cmp key_cmp k) (finite.keys l.keys))
  in_set k = contains-from_list nat_list_cmp_total (filter (is_held_by l (Txn name)) (finite.keys l.keys)) k
      ∙ any-filter_same (eq_by_cmp key_cmp k) (is_held_by l (Txn name)) (is_held_by l (Txn name) k) (λ q same. ap (is_held_by l (Txn name)) (sym (same_word k q same))) (finite.keys l.keys)

  pub held_in_set : (k : List ℕ) → words.contains (keys_of_holder l (Txn name)) k ≡ true → finite.get l.keys k ≡ Some (Txn name)
  held_in_set k h = held_by name (finite.get l.keys k) (both (is_held_by l (Txn name) k) (list_any (eq_by_cmp key_cmp k) (finite.keys l.keys)) (sym (in_set k) ∙ h)).0

  pub in_set_if_held : (k : List ℕ) → finite.get l.keys k ≡ Some (Txn name) → words.contains (keys_of_holder l (Txn name)) k ≡ true
  in_set_if_held k h =
      let one : is_held_by l (Txn name) k ≡ true = ap (λ (o : Option Holder). option_map_or (is_same (Txn name)) o false) h ∙ (bytes_eq-Decides name name).1 refl in
      let there : list_any (eq_by_cmp key_cmp k) (finite.keys l.keys) ≡ true = sym (contains_key-keys l.keys k) ∙ ap is_some h in
      in_set k ∙ ap (λ (b : Bool). b && list_any (eq_by_cmp key_cmp k) (finite.keys l.keys)) one ∙ there

-- ---- the step

abbrev taken_transaction : World → List ℕ → ℕ → Transaction
taken_transaction w name q = record { batch = batch_at w.writes.history q; locked = keys_of_holder w.locks (Txn name) }

taken_one : (w : World) (name : List ℕ) (q : ℕ) → finite.get w.locks.names name ≡ Some None → IsSound w → Gains w name (taken_transaction w name q) (took name)
taken_one w name q left s = record {
  nobody = λ c h. let f : Some None ≡ Some (Some c) = sym left ∙ h in absurd cc;
  keys = λ k h. held_in_set w.locks name k h;
  known = λ k h. in_set_if_held w.locks name k h;
  begins = inr refl;
  came = λ k h. (refl, has_or_locked k (held_in_set w.locks name k h) (named w.writes.history name) refl);
}
  where
    prepare_has : (k : List ℕ) (p : ℕ) → named w.writes.history name ≡ Some p → is_changed (batch_at w.writes.history p) k ≡ true → PrepareHas w.opened w.writes.history name k
    prepare_has k p is changed =
        let now = subst (λ (h : List Entry). (q : ℕ) × (named h name ≡ Some q) × HasKeyAt h q (Some k)) (sym (take-length w.writes.history)) (p, is, changed) in
        (length w.writes.history, (shorter w.writes.history w.opened s.history.grown, omega arith, now))

    -- a key that is held for it is the undecided prepare's, or somebody locked it
    has_or_locked : (k : List ℕ) → finite.get w.locks.keys k ≡ Some (Txn name) → (o : Option ℕ) → named w.writes.history name ≡ o → PrepareHas w.opened w.writes.history name k ⊎ WasLockedFor (participants owner_of w) name k
    has_or_locked k held None is = absurd (true≢false (sym (s.locks.names_left name left) ∙ ap is_some is))
    has_or_locked k held (Some p) is = ⊎_elim
        (λ (changed : is_changed (batch_at w.writes.history p) k ≡ true). inl (prepare_has k p is changed))
        (λ (was : (length w.opened < p) × WasLockedFor (participants owner_of w) name k). inr was.1) (s.locks.beyond k name p is held)

pub takes_name : (w : World) (by : ℕ) (a : Actor) (name : List ℕ) (q : ℕ) → get_elem? w.actors by ≡ some a → Needs w by a (take_name name q) → IsSound w
    → IsSound (done w by (forgets w.writes.history (length w.cache) (take_name name q) a) (take_name name q))
takes_name w by a name q at needs s =
    let d = taken_one w name q needs.1 s in let x = taken_transaction w name q in
    locks_change w by a (take_name name q) (p w by a name x (took name) (take_name name q) at d s) (t w by a name x (took name) (take_name name q) at d s) at needs.0
    (gained_parts w by a name x (took name) (take_name name q) at d s) s
