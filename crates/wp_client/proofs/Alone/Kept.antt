-- What a client that is alone knows of the keys of prepared transactions, as it goes on.
use Rattle.std.proofs.Common.{◌≡◌, ◌⊎◌, ⊎_elim, inl, inr, ℕ, suc, ◌<◌, ◌≤◌, Bool, true, false, true≢false, ◌||◌, List, [], ◌∷◌, ◌++◌, length, Some, refl, sym, subst, ap, ◌∙◌, append_assoc, append-nil, arith}
use Rattle.std.specs.List.{AllByRecursion}
use Rattle.std.specs.FinMap as finite
use Rattle.std.specs.FinSet as set
use Rattle.wp_model.specs.declared.change.Change.{Change}
use Rattle.wp_model.specs.declared.entry.Entry.{Entry}
use Rattle.wp_model.specs.declared.entry.Entry.TheVariants as entry
use Rattle.wp_model.specs.History.{entry_at, prepared_name, prepared_batch, is_changed, is_prepare, decides, is_undecided, name_at}
use Rattle.wp_history_laws.proofs.Growth.{length_next, legal_before}
use Rattle.wp_model.specs.Legal.{IsLegal}
use Rattle.wp_model.specs.LockState.{is_among_keys}
use Rattle.wp_core.specs.Lists.{IsIn}
use Rattle.wp_core.specs.Views.{locks_stay}
use Rattle.wp_core.specs.World.{Transaction, Transactions, Participant}
use Rattle.wp_core.proofs.PastsGrow.{in_front, in_last, in_either}
use Rattle.wp_core.proofs.HistoryGrows.{undecided_before_or_now, name_at_old, batch_at_grown}
use Rattle.wp_open_txns.proofs.Keys.{among_keys_in}
use Rattle.wp_open_txns.specs.Txn.{PreparedState, keys_in, HasPrepared}
use Rattle.wp_shared.specs.Calls.{Continues}
use Rattle.wp_shared.specs.Seats.{SharedState, SeatState}
use Rattle.wp_replies.specs.Txn.{Txn, Idle, Open, Prepared, LockedKeys}
use Rattle.wp_replies.specs.Due.{Store}
use Rattle.wp_client.specs.Alone.{IsPrepare, is_key_of, HasJust, LeftJust, KnowsKeys, AreLockedOf, AreLockedIn}

-- what was noted of keys that stay held is noted still
abbrev pub KeepsKeys : SeatState → SeatState → Type 0
KeepsKeys old new = (name : List ℕ) (p : ℕ) (keys : List (List ℕ)) → IsIn (locks_stay name p keys) old.knows.notes → IsIn (locks_stay name p keys) new.knows.notes

-- the client has prepared nothing
abbrev pub IsUnprepared : Txn → Type 0
IsUnprepared (Prepared p) = ⊥
IsUnprepared other = Unit {0}

pub not_prepared : (t : Txn) (n : ℕ) → IsUnprepared t → IsPrepare t n → ⊥
not_prepared Idle n none is = is
not_prepared (Open own) n none is = is
not_prepared (Prepared p) n none is = none

-- what is kept of keys that are told the same way
left_so : (s : SeatState) (name : List ℕ) (p : ℕ) (one other : List ℕ → Bool) → ((key : List ℕ) → one key ≡ other key) → LeftJust s name p one → LeftJust s name p other
left_so s name p one other same k = record { keys = k.keys; noted = k.noted; are = λ key. k.are key ∙ same key }

module _ {D : Type 0} (z : SharedState D) (old new : SeatState) (keeps : KeepsKeys old new) where
  left_still : (name : List ℕ) (p : ℕ) (is_key : List ℕ → Bool) → LeftJust old name p is_key → LeftJust new name p is_key
  left_still name p is_key k = record { keys = k.keys; noted = keeps name p k.keys k.noted; are = k.are }

  -- where the seat has the transactions that it had
  pub locked_still : (txn : Txn) (history : List Entry) (locked : List LockedKeys) → new.knows.participant.transactions ≡ old.knows.participant.transactions → AreLockedOf z old txn history locked → AreLockedOf z new txn history locked
  locked_still txn history locked same are = record {
    since = are.since;
    known = λ x there undecided. ⊎_elim
        (λ (k : IsPrepare txn x.number × HasJust old (name_at history x.number) (is_key_of history x)).
        inl (k.0, record { transaction = k.1.transaction; has = ap (λ (ts : Transactions). finite.get ts (name_at history x.number)) same ∙ k.1.has; keys = k.1.keys }))
        (λ (k : LeftJust old (name_at history x.number) x.number (is_key_of history x)). inr (left_still (name_at history x.number) x.number (is_key_of history x) k))
        (are.known x there undecided);
    all = are.all;
  }

  -- where the client had prepared nothing, all are left
  pub locked_unprepared : (was now : Txn) (history : List Entry) (locked : List LockedKeys) → IsUnprepared was → AreLockedOf z old was history locked → AreLockedOf z new now history locked
  locked_unprepared was now history locked none are = record {
    since = are.since;
    known = λ x there undecided. ⊎_elim
        (λ (k : IsPrepare was x.number × HasJust old (name_at history x.number) (is_key_of history x)). absurd (not_prepared was x.number none k.0))
        (λ (k : LeftJust old (name_at history x.number) x.number (is_key_of history x)). inr (left_still (name_at history x.number) x.number (is_key_of history x) k))
        (are.known x there undecided);
    all = are.all;
  }

  -- the prepared transaction is left: the seat noted its keys
  pub locked_left : (t : PreparedState) (now : Txn) (history : List Entry) (locked : List LockedKeys) → HasPrepared old t → name_at history t.number ≡ t.name → IsIn (locks_stay t.name t.number (keys_in t.batch t.locked)) new.knows.notes → AreLockedOf z old (Prepared t.number) history locked → AreLockedOf z new now history locked
  locked_left t now history locked has named noted are = record {
    since = are.since;
    known = λ x there undecided. ⊎_elim
        (λ (k : (t.number ≡ x.number) × HasJust old (name_at history x.number) (is_key_of history x)). inr (just x k.0 k.1))
        (λ (k : LeftJust old (name_at history x.number) x.number (is_key_of history x)). inr (left_still (name_at history x.number) x.number (is_key_of history x) k))
        (are.known x there undecided);
    all = are.all;
  }
    where
      just : (x : LockedKeys) → t.number ≡ x.number → HasJust old (name_at history x.number) (is_key_of history x) → LeftJust new (name_at history x.number) x.number (is_key_of history x)
      just x same k =
          let name : name_at history x.number ≡ t.name = ap (name_at history) (sym same) ∙ named in
          let both : Some k.transaction ≡ Some has.transaction = sym k.has ∙ (ap (finite.get old.knows.participant.transactions) name ∙ has.has) in
          let one : k.transaction ≡ has.transaction = cc in record {
            keys = keys_in t.batch t.locked;
            noted = subst (λ (n : List ℕ). IsIn (locks_stay n x.number (keys_in t.batch t.locked)) new.knows.notes) (sym name) (subst (λ (p : ℕ). IsIn (locks_stay t.name p (keys_in t.batch t.locked)) new.knows.notes) same noted);
            are = λ key. among_keys_in t.batch t.locked key ∙ (sym (has.keys key) ∙ (ap (λ (x : Transaction). set.contains x.locked key) (sym one) ∙ k.keys key));
          }

-- the same where a call only went on
module _ {D : Type 0} (z : SharedState D) (old new : SeatState) (after : Participant) (goes : Continues z old new after) where
  loose : KeepsKeys old new
  loose name p keys = goes.notes (locks_stay name p keys) refl

  pub goes_still : after.transactions ≡ old.knows.participant.transactions → (txn : Txn) (store : Store) → AreLockedIn z old txn store → AreLockedIn z new txn store
  goes_still same txn store = locked_still z old new loose txn store.history store.locked (ap (λ (p : Participant). p.transactions) goes.participant ∙ same)

  pub goes_unprepared : (was now : Txn) (store : Store) → IsUnprepared was → AreLockedIn z old was store → AreLockedIn z new now store
  goes_unprepared was now store = locked_unprepared z old new loose was now store.history store.locked

-- ---- entries more

-- The locked keys are of prepares since the opening, of which each that is undecided was left, but such a one.
pub record AreLeftBut {D : Type 0} (z : SharedState D) (s : SeatState) (but : ℕ → Type 0) (history : List Entry) (locked : List LockedKeys) : Type 0 where
  pub since : (x : LockedKeys) → IsIn x locked → (length z.opened < x.number) × (x.number ≤ length history)
  pub left : (x : LockedKeys) → IsIn x locked → is_undecided history x.number ≡ true → but x.number ⊎ LeftJust s (name_at history x.number) x.number (is_key_of history x)
  pub all : (p : ℕ) → length z.opened < p → is_undecided history p ≡ true → (x : LockedKeys) × IsIn x locked × (x.number ≡ p)

-- so it is before the entries, but of the client's own
pub left_before : {D : Type 0} (z : SharedState D) (old new : SeatState) (was : Txn) (history : List Entry) (locked : List LockedKeys) → KeepsKeys old new → AreLockedOf z old was history locked → AreLeftBut z new (IsPrepare was) history locked
left_before z old new was history locked keeps are = record {
  since = are.since;
  left = λ x there undecided. ⊎_elim
      (λ (k : IsPrepare was x.number × HasJust old (name_at history x.number) (is_key_of history x)). inl k.0)
      (λ (k : LeftJust old (name_at history x.number) x.number (is_key_of history x)). inr (left_still z old new keeps (name_at history x.number) x.number (is_key_of history x) k))
      (are.known x there undecided);
  all = are.all;
}

-- and once that is decided, of all
pub left_after : {D : Type 0} (z : SharedState D) (s : SeatState) (now : Txn) (but : ℕ → Type 0) (history : List Entry) (locked : List LockedKeys) → ((p : ℕ) → but p → is_undecided history p ≡ true → ⊥) → AreLeftBut z s but history locked → AreLockedOf z s now history locked
left_after z s now but history locked gone are = record {
  since = are.since;
  known = λ x there undecided. ⊎_elim
      (λ (k : but x.number). absurd (gone x.number k undecided))
      (λ (k : LeftJust s (name_at history x.number) x.number (is_key_of history x)). inr k)
      (are.left x there undecided);
  all = are.all;
}

module _ {D : Type 0} (z : SharedState D) (s : SeatState) (history : List Entry) (made : Entry) (legal : IsLegal (history ++ made ∷ [])) where
  abbrev grown : List Entry
  grown = history ++ made ∷ []

  abbrev Undecided : ℕ → Type 0
  Undecided p = (p ≤ length history) × (is_undecided history p ≡ true) × (decides p made ≡ false)

  -- a prepare of the history has its name and its keys in the longer one
  left_grown : (x : LockedKeys) → x.number ≤ length history → LeftJust s (name_at history x.number) x.number (is_key_of history x) → LeftJust s (name_at grown x.number) x.number (is_key_of grown x)
  left_grown x low k =
      subst (λ (n : List ℕ). LeftJust s n x.number (is_key_of grown x)) (sym (name_at_old history made legal x.number low))
      (left_so s (name_at history x.number) x.number (is_key_of history x) (is_key_of grown x) (λ key. ap (λ (cs : List Change). is_changed cs key || is_among_keys x.keys key) (sym (batch_at_grown history made legal x.number low))) k)

  longer : (n : ℕ) → n ≤ length history → n ≤ length grown
  longer n low = let more = length_next history made in omega (arith, low, more)

  -- an entry that prepares nothing leaves those that were left
  pub left_written : (but : ℕ → Type 0) (locked : List LockedKeys) → is_prepare (Some made) ≡ false → AreLeftBut z s but history locked → AreLeftBut z s but grown locked
  left_written but locked plain are = record {
    since = λ x there. let k = are.since x there in (k.0, longer x.number k.1);
    left = λ x there undecided. ⊎_elim
        (λ (u : Undecided x.number). ⊎_elim
        (λ (k : but x.number). inl k)
        (λ (k : LeftJust s (name_at history x.number) x.number (is_key_of history x)). inr (left_grown x u.0 k))
        (are.left x there u.1))
        (λ (u : (x.number ≡ suc (length history)) × (is_prepare (Some made) ≡ true)). absurd (true≢false (sym u.1 ∙ plain)))
        (undecided_before_or_now history made legal x.number undecided);
    all = λ p behind undecided. ⊎_elim
        (λ (u : Undecided p). are.all p behind u.1)
        (λ (u : (p ≡ suc (length history)) × (is_prepare (Some made) ≡ true)). absurd (true≢false (sym u.1 ∙ plain)))
        (undecided_before_or_now history made legal p undecided);
  }

  -- what it decides is undecided no more
  pub decided : (p : ℕ) → decides p made ≡ true → is_prepare (Some made) ≡ false → is_undecided grown p ≡ true → ⊥
  decided p is plain undecided = ⊎_elim
      (λ (u : Undecided p). true≢false (sym is ∙ u.2))
      (λ (u : (p ≡ suc (length history)) × (is_prepare (Some made) ≡ true)). true≢false (sym u.1 ∙ plain))
      (undecided_before_or_now history made legal p undecided)

  -- the keys that a transaction keeps locked
  abbrev own_of : PreparedState → LockedKeys
  own_of t = record { number = t.number; keys = t.locked }

  -- a prepare keeps its locked keys
  pub left_prepared : (t : PreparedState) (locked : List LockedKeys) → t.number ≡ suc (length history) → length z.opened ≤ length history
      → entry_at grown t.number ≡ Some (entry.Prepare t.name t.batch) → HasPrepared s t → (but : ℕ → Type 0) → ((n : ℕ) → but n → ⊥) → AreLeftBut z s but history locked → AreLockedOf z s (Prepared t.number) grown (locked ++ record { number = t.number; keys = t.locked } ∷ [])
  left_prepared t locked number opened stands has but none are = record {
    since = λ x there. ⊎_elim
        (λ (k : IsIn x locked). let b = are.since x k in (b.0, longer x.number b.1))
        (λ (same : own_of t ≡ x). subst (λ (y : LockedKeys). (length z.opened < y.number) × (y.number ≤ length grown)) same (omega (arith, number, opened), (let more = length_next history made in omega (arith, number, more))))
        (in_either x (own_of t) locked there);
    known = λ x there undecided. ⊎_elim
        (λ (k : IsIn x locked). ⊎_elim
        (λ (u : Undecided x.number). inr (⊎_elim (λ (b : but x.number). absurd (none x.number b)) (λ (l : LeftJust s (name_at history x.number) x.number (is_key_of history x)). left_grown x u.0 l) (are.left x k u.1)))
        (λ (u : (x.number ≡ suc (length history)) × (is_prepare (Some made) ≡ true)). let low = (are.since x k).1 in let same = u.0 in absurd (omega (arith, low, same)))
        (undecided_before_or_now history made legal x.number undecided))
        (λ (same : own_of t ≡ x). subst (λ (y : LockedKeys). KnowsKeys s (Prepared t.number) grown y) same (inl (refl, just)))
        (in_either x (own_of t) locked there);
    all = λ p behind undecided. ⊎_elim
        (λ (u : Undecided p). let k = are.all p behind u.1 in (k.0, in_front k.0 locked (own_of t ∷ []) k.1, k.2))
        (λ (u : (p ≡ suc (length history)) × (is_prepare (Some made) ≡ true)). (own_of t, in_last (own_of t) locked, number ∙ sym u.0))
        (undecided_before_or_now history made legal p undecided);
  }
    where
      just : HasJust s (name_at grown t.number) (is_key_of grown (own_of t))
      just = record {
        transaction = has.transaction;
        has = ap (finite.get s.knows.participant.transactions) (ap prepared_name stands) ∙ has.has;
        keys = λ key. has.keys key ∙ ap (λ (cs : List Change). is_changed cs key || is_among_keys t.locked key) (sym (ap prepared_batch stands));
      }

-- ---- what the seat put

-- an entry that prepares nothing; the client's own prepare it decides
pub locked_written : {D : Type 0} (z : SharedState D) (old new : SeatState) (was now : Txn) (history : List Entry) (made : Entry) → IsLegal (history ++ made ∷ []) → (locked : List LockedKeys) → KeepsKeys old new → is_prepare (Some made) ≡ false
    → ((p : ℕ) → IsPrepare was p → decides p made ≡ true) → AreLockedOf z old was history locked → AreLockedOf z new now (history ++ made ∷ []) locked
locked_written z old new was now history made legal locked keeps plain own are =
    left_after z new now (IsPrepare was) (history ++ made ∷ []) locked (λ p is. decided z new history made legal p (own p is) plain) (left_written z new history made legal (IsPrepare was) locked plain (left_before z old new was history locked keeps are))

-- two entries, of which the last decides it
pub locked_rolled : {D : Type 0} (z : SharedState D) (old new : SeatState) (was now : Txn) (history : List Entry) (undo close : Entry) → IsLegal (history ++ undo ∷ close ∷ []) → (locked : List LockedKeys) → KeepsKeys old new → is_prepare (Some undo) ≡ false → is_prepare (Some close) ≡ false
    → ((p : ℕ) → IsPrepare was p → decides p close ≡ true) → AreLockedOf z old was history locked → AreLockedOf z new now (history ++ undo ∷ close ∷ []) locked
locked_rolled z old new was now history undo close legal locked keeps plain also own are =
    let both : (history ++ undo ∷ []) ++ close ∷ [] ≡ history ++ undo ∷ close ∷ [] = append_assoc history (undo ∷ []) (close ∷ []) in
    let whole = subst IsLegal (sym both) legal in let front = legal_before (history ++ undo ∷ []) (close ∷ []) whole in
    subst (λ (h : List Entry). AreLockedOf z new now h locked) both
    (left_after z new now (IsPrepare was) ((history ++ undo ∷ []) ++ close ∷ []) locked (λ p is. decided z new (history ++ undo ∷ []) close whole p (own p is) also)
    (left_written z new (history ++ undo ∷ []) close whole (IsPrepare was) locked also (left_written z new history undo front (IsPrepare was) locked plain (left_before z old new was history locked keeps are))))

-- entries that prepare nothing, where the client had prepared nothing
pub locked_each : {D : Type 0} (z : SharedState D) (s : SeatState) (history entries : List Entry) → IsLegal (history ++ entries) → (locked : List LockedKeys) → AllByRecursion (λ e. is_prepare (Some e) ≡ false) entries → AreLockedOf z s Idle history locked → AreLockedOf z s Idle (history ++ entries) locked
locked_each z s history [] legal locked plain are = subst (λ (h : List Entry). AreLockedOf z s Idle h locked) (sym (append-nil history)) are
locked_each z s history (made ∷ entries) legal locked plain are =
    let both : (history ++ made ∷ []) ++ entries ≡ history ++ made ∷ entries = append_assoc history (made ∷ []) entries in
    let whole = subst IsLegal (sym both) legal in let front = legal_before (history ++ made ∷ []) entries whole in
    subst (λ (h : List Entry). AreLockedOf z s Idle h locked) both
    (locked_each z s (history ++ made ∷ []) entries whole locked plain.1 (locked_written z s s Idle Idle history made front locked (λ name p keys there. there) plain.0 (λ p own. absurd own) are))
