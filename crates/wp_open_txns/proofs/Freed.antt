-- The locks once a transaction's name is free, with each of its keys.
use Rattle.std.proofs.Common.{◌≡◌, ℕ, Bool, true, false, true≢false, cond, not, ◌||◌, List, [], ◌∷◌, map, refl, sym, ap, ◌∙◌, Option, Some, None, is_some}
use Rattle.std.specs.Prelude.{unwrap_or, if◌then◌else◌}
use Rattle.std.specs.FinSet as set
use Rattle.std.specs.FinMap as finite
use Rattle.std.specs.FinMap.{nat_cmp-IsAntisymmetric, slice_cmp-IsAntisymmetric}
use Rattle.std.specs.Option.{option_map_or}
use Rattle.std.specs.Str.{bytes_eq}
use Rattle.std.proofs.lemmas.Cmp.{nat_list_cmp_total}
use Rattle.std.proofs.lemmas.Map.Lookups.{exact_bytes}
use Rattle.std.proofs.lemmas.Slice.Eq.{bytes_eq-Decides}
use Rattle.wp_model.specs.Batch.{key_of, value_of, change_to}
use Rattle.wp_model.specs.History.{is_changed}
use Rattle.wp_model.specs.Holder.{is_same}
use Rattle.wp_model.specs.LockState.{LockState, Keys, is_among_keys}
use Rattle.wp_model.specs.declared.change.Change.{Change}
use Rattle.wp_model.specs.declared.holder.Holder.{Holder}
use Rattle.wp_model.specs.declared.holder.Holder.TheVariants.{Txn, Client}
use Rattle.wp_locks.specs.Locks.{keys_without}
use Rattle.wp_core.specs.Changes.{is_held_by, without_transaction}
use Rattle.wp_core.specs.World.{Transaction, Participant}
use Rattle.wp_model.proofs.Keyed.{at_removed, else_removed, txn_is}
use Rattle.wp_shared.specs.Seats.{SeatState}
use Rattle.wp_open_txns.specs.Actors.{no_changes, transaction_in}
use Rattle.wp_open_txns.specs.Calls.{IsFreeName}
use Rattle.wp_open_txns.specs.Txn.{has_key, HasLocked}

-- ---- the keys of a transaction

-- the seat, which is the participant that it was, locked just these keys, and the locks have just those for it
pub just_locked : (old s : SeatState) (t : LockState) (name : List ℕ) (batch : List Change) (locked : List (List ℕ)) → s.knows.participant ≡ old.knows.participant → HasLocked old name batch locked
    → ((key : List ℕ) → is_held_by t (Txn name) key ≡ set.contains (transaction_in s.knows.participant name).locked key) → (key : List ℕ) → is_held_by t (Txn name) key ≡ has_key batch locked key
just_locked old s t name batch locked same h held key =
    held key
    ∙ ap (λ (p : Participant). set.contains (transaction_in p name).locked key) same
    ∙ ap (λ (o : Option Transaction). set.contains (unwrap_or o no_changes).locked key) h.has
    ∙ h.keys key

neither : {X : Type 0} (b : Bool) (o : Option X) → o ≡ None → cond b None o ≡ None
neither true o none = refl
neither false o none = none

-- a key that the changes change is free, and any other is as it was
at_without : (changes : List Change) (keys : Keys) (q : List ℕ) → finite.get (keys_without keys (map key_of changes)) q ≡ cond (is_changed changes q) None (finite.get keys q)
at_without [] keys q = refl
at_without (change ∷ changes) keys q = at_without changes (finite.remove keys (key_of change)) q ∙ by (bytes_eq (key_of change) q) refl
  where
    rest : Option Holder → Option Holder
    rest o = cond (is_changed changes q) None o

    by : (t : Bool) → bytes_eq (key_of change) q ≡ t → rest (finite.get (finite.remove keys (key_of change)) q) ≡ cond (is_some (if t then Some (value_of change) else change_to changes q)) None (finite.get keys q)
    by true same = neither (is_changed changes q) (finite.get (finite.remove keys (key_of change)) q) (at_removed keys (key_of change) q (sym ((bytes_eq-Decides (key_of change) q).0 same)))
    by false apart = ap rest (else_removed keys (key_of change) q (λ e. true≢false (sym ((bytes_eq-Decides (key_of change) q).1 (sym e)) ∙ apart)))

-- likewise a key that is among these
at_without_keys : (freed : List (List ℕ)) (keys : Keys) (q : List ℕ) → finite.get (keys_without keys freed) q ≡ cond (is_among_keys freed q) None (finite.get keys q)
at_without_keys [] keys q = refl
at_without_keys (key ∷ others) keys q = at_without_keys others (finite.remove keys key) q ∙ by (bytes_eq key q) refl
  where
    rest : Option Holder → Option Holder
    rest o = cond (is_among_keys others q) None o

    by : (t : Bool) → bytes_eq key q ≡ t → rest (finite.get (finite.remove keys key) q) ≡ cond (t || is_among_keys others q) None (finite.get keys q)
    by true same = neither (is_among_keys others q) (finite.get (finite.remove keys key) q) (at_removed keys key q (sym ((bytes_eq-Decides key q).0 same)))
    by false apart = ap rest (else_removed keys key q (λ e. true≢false (sym ((bytes_eq-Decides key q).1 (sym e)) ∙ apart)))

-- one after the other
one_by_one : (a b : Bool) (o : Option Holder) → cond a None (cond b None o) ≡ cond (b || a) None o
one_by_one true true o = refl
one_by_one true false o = refl
one_by_one false true o = refl
one_by_one false false o = refl

-- ---- the locks

turned : (b : Bool) (o : Option Holder) → cond b None o ≡ cond (not b) o None
turned true o = refl
turned false o = refl

at_retained : (t : LockState) (name q : List ℕ) → finite.get (without_transaction t name).keys q ≡ cond (not (is_held_by t (Txn name) q)) (finite.get t.keys q) None
at_retained t name q = let held : List ℕ → Bool = λ key. not (is_held_by t (Txn name) key) in finite.get-retain_keys t.keys held q (λ x e. ap held (sym (exact_bytes q x e)))

-- without the name and the keys of the transaction they are without the transaction
pub freed_tables : (t l m u : LockState) (name : List ℕ) (batch : List Change) (locked : List (List ℕ)) → l ≡ record t { names = finite.remove t.names name } → m ≡ record l { keys = keys_without l.keys (map key_of batch) }
    → u ≡ record m { keys = keys_without m.keys locked } → ((key : List ℕ) → is_held_by t (Txn name) key ≡ has_key batch locked key) → u ≡ without_transaction t name
freed_tables t l m u name batch locked named freed rest just =
    let left : Keys = keys_without (keys_without t.keys (map key_of batch)) locked in
    let keys : left ≡ (without_transaction t name).keys = finite.same_map nat_list_cmp_total (slice_cmp-IsAntisymmetric nat_cmp-IsAntisymmetric) left (without_transaction t name).keys (λ q.
    at_without_keys locked (keys_without t.keys (map key_of batch)) q ∙ ap (λ (o : Option Holder). cond (is_among_keys locked q) None o) (at_without batch t.keys q)
    ∙ one_by_one (is_among_keys locked q) (is_changed batch q) (finite.get t.keys q)
    ∙ ap (λ (b : Bool). cond b None (finite.get t.keys q)) (sym (just q)) ∙ turned (is_held_by t (Txn name) q) (finite.get t.keys q) ∙ sym (at_retained t name q)) in
    rest ∙ ap (λ (x : LockState). record x { keys = keys_without x.keys locked }) (freed ∙ ap (λ (x : LockState). record x { keys = keys_without x.keys (map key_of batch) }) named)
    ∙ ap (λ (ks : Keys). record t { names = finite.remove t.names name; keys = ks }) keys

-- it holds no key any more
no_key : (name : List ℕ) (o : Option Holder) → cond (not (option_map_or (is_same (Txn name)) o false)) o None ≡ Some (Txn name) → ⊥
no_key name None e = absurd cc
no_key name (Some (Client client)) e = absurd cc
no_key name (Some (Txn other)) e = by (bytes_eq name other) refl e
  where
    by : (t : Bool) → bytes_eq name other ≡ t → cond (not t) (Some (Txn other)) None ≡ Some (Txn name) → ⊥
    by true same f = absurd cc
    by false apart f = true≢false (sym ((bytes_eq-Decides name other).1 (sym (txn_is other name f))) ∙ apart)

pub free_name : (t m : LockState) (name : List ℕ) → m ≡ without_transaction t name → IsFreeName name m
free_name t m name is = (
  ap (λ (x : LockState). finite.get x.names name) is ∙ at_removed t.names name name refl,
  λ key e. no_key name (finite.get t.keys key) (sym (at_retained t name key) ∙ ap (λ (x : LockState). finite.get x.keys key) (sym is) ∙ e),
)
