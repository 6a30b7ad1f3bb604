-- What a step on one of the maps makes of it.
use Rattle.std.proofs.Common.{◌≡◌, ℕ, ◌+◌, ◌<◌, true, List, [], ◌∷◌, ◌++◌, length, map, take, get_or, Option, Some, None, is_some, refl, sym, ap, subst, ◌∙◌}
use Rattle.std.specs.FinMap as finite
use Rattle.std.proofs.lemmas.Bool.{false≢true}
use Rattle.std.proofs.lemmas.List.{map-append, take_more}
use Rattle.std.proofs.lemmas.List.Sums.{fold-append}
use Rattle.std.proofs.lemmas.Map.Text.{is_eq-slice_cmp}
use Rattle.wp_model.specs.Batch.{key_cmp, key_of}
use Rattle.wp_model.specs.declared.change.Change.{Change}
use Rattle.wp_model.specs.declared.holder.Holder.{Holder}
use Rattle.wp_model.specs.declared.holder.Holder.TheVariants.{Txn, Client}
use Rattle.wp_locks.specs.declared.error.LockError.TheVariants.{Unknown, InUse}
use Rattle.wp_model.specs.Holder.{is_same_txn}
use Rattle.wp_locks.specs.Locks.{RefusesTake, names_left, keys_without}
use Rattle.wp_model.specs.LockState.{LockState, Keys}
use Rattle.wp_locks.proofs.Maps.{value_at, map_of, get-map_of, map_of_inserted, map_of_removed, UpdatedAt, insert_same}
use Rattle.wp_model.proofs.Words.{same_word}

-- ---- names

pub left_live : (es ns : List (List ℕ × Option (List ℕ))) (k : List ℕ) (o : Option (List ℕ)) → Some o ≡ value_at es k → UpdatedAt es ns k (Some None) → map_of ns ≡ names_left (map_of es) k
left_live es ns k o found updated = rw (get-map_of es k, ← found) (map_of_inserted es ns k None updated)

pub left_nobody : (es : List (List ℕ × Option (List ℕ))) (k : List ℕ) → None ≡ value_at es k → map_of es ≡ names_left (map_of es) k
left_nobody es k found = rw (get-map_of es k, ← found) refl

pub looked_at : (es ns : List (List ℕ × Option (List ℕ))) (k : List ℕ) (o : Option (List ℕ)) → Some o ≡ value_at es k → UpdatedAt es ns k (Some o) → map_of ns ≡ map_of es
looked_at es ns k o found updated = map_of_inserted es ns k o updated ∙ insert_same (map_of es) k o (get-map_of es k ∙ sym found)

pub refuses_unknown : (found : Option (Option (List ℕ))) (name : List ℕ) → found ≡ None → RefusesTake found name (Unknown name)
refuses_unknown found name is = subst (λ o. RefusesTake o name (Unknown name)) (sym is) refl

pub refuses_used : (found : Option (Option (List ℕ))) (client : Option (List ℕ)) (name : List ℕ) → found ≡ Some client → is_some client ≡ true → RefusesTake found name (InUse name)
refuses_used found None name is used = absurd (false≢true used)
refuses_used found (Some client) name is used = subst (λ o. RefusesTake o name (InUse name)) (sym is) refl

-- ---- keys

same_txn : (a b : Holder) → is_same_txn a b ≡ true → a ≡ b
same_txn (Txn a) (Txn b) h = ap Txn (same_word a b (is_eq-slice_cmp a b ∙ h))
same_txn (Txn a) (Client b) h = absurd cc
same_txn (Client a) b h = absurd cc

-- a transaction that locks its own key once more changes nothing
pub locked_again : (keys : finite.FinMap key_cmp Holder) (k : List ℕ) (other holder : Holder) → finite.get keys k ≡ Some other → is_same_txn other holder ≡ true → keys ≡ finite.insert keys k holder
locked_again keys k other holder found same = sym (insert_same keys k holder (found ∙ ap Some (same_txn other holder same)))

-- one change more, and its key is free too
pub freed_one : (es ns : List (List ℕ × Holder)) (keys : Keys) (changes : List Change) (i : ℕ) (change : Change) → i < length changes → change ≡ get_or changes i change → map_of es ≡ keys_without keys (map key_of (take i changes)) → UpdatedAt es ns (key_of change) None
    → map_of ns ≡ keys_without keys (map key_of (take (i + 1) changes))
freed_one es ns keys changes i change within is so_far updated =
    map_of_removed es ns (key_of change) updated
    ∙ ap (λ (ks : Keys). finite.remove ks (key_of change)) so_far
    ∙ sym (fold-append (λ (left : Keys) (key : List ℕ). finite.remove left key) keys (map key_of (take i changes)) (key_of change ∷ []))
    ∙ ap (keys_without keys) (sym (map-append key_of (take i changes) (change ∷ [])) ∙ ap (map key_of) (ap (λ (x : Change). take i changes ++ x ∷ []) is ∙ sym (take_more changes i change within)))

-- likewise one key more
pub freed_key : (es ns : List (List ℕ × Holder)) (keys : Keys) (freed : List (List ℕ)) (i : ℕ) (key : List ℕ) → i < length freed → key ≡ get_or freed i key → map_of es ≡ keys_without keys (take i freed) → UpdatedAt es ns key None
    → map_of ns ≡ keys_without keys (take (i + 1) freed)
freed_key es ns keys freed i key within is so_far updated =
    map_of_removed es ns key updated
    ∙ ap (λ (ks : Keys). finite.remove ks key) so_far
    ∙ sym (fold-append (λ (left : Keys) (k : List ℕ). finite.remove left k) keys (take i freed) (key ∷ []))
    ∙ ap (keys_without keys) (ap (λ (x : List ℕ). take i freed ++ x ∷ []) is ∙ sym (take_more freed i key within))

-- the state with other keys that equal its own
pub with_keys : (t : LockState) (keys : Keys) → t.keys ≡ keys → t ≡ record t { keys = keys }
with_keys t keys is = ap (λ ks. record t { keys = ks }) is
