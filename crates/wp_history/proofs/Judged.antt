-- What an undo restores, judged behind the first entries of an outline, and the list that is legal by it.
use Rattle.std.proofs.Common.{◌≡◌, ℕ, zero, suc, ◌+◌, ◌-◌, ◌<◌, ◌≤◌, Bool, true, List, [], ◌∷◌, ◌++◌, length, take, drop, Option, Some, None, sym, ap, ◌∙◌, subst, inl, inr, length-append, arith}
use Rattle.std.specs.Prelude.{slice_get}
use Rattle.std.specs.BTreeMap.{BTreeMap, IsOrdered, is_at}
use Rattle.std.specs.Map.{lookup}
use Rattle.std.proofs.lemmas.Bool.{cases_lt}
use Rattle.std.proofs.lemmas.List.{take-take, take_all, take-append-le, take-append-drop}
use Rattle.std.proofs.lemmas.Option.{same_Some, slice_get_within}
use Rattle.wp_model.specs.declared.change.Change.{Change}
use Rattle.wp_model.specs.declared.entry.Entry.{Entry}
use Rattle.wp_model.specs.declared.entry.Entry.TheVariants.{Write, Prepare, Commit, Undo, Close}
use Rattle.wp_model.specs.declared.version.Version.{Version}
use Rattle.wp_model.specs.Batch.{key_cmp}
use Rattle.wp_model.specs.History.{entry_at, prepared_batch, batch_at, is_prepare, is_undecided, newest, value_at}
use Rattle.wp_model.specs.Legal.{IsLegal, IsLegalNext, IsOrderlyNext, RestoresPrior, log_end}
use Rattle.wp_model.specs.Versions.{AreInOrder}
use Rattle.wp_model.proofs.Entries.{entry_at_old, undecided_within, undecided_prepared}
use Rattle.wp_history_laws.specs.Prepares.{prepare_of}
use Rattle.wp_history_laws.proofs.Growth.{legal_next}
use Rattle.wp_cuts.specs.Cut.{Cut, base_value, full_of}
use Rattle.wp_cuts.specs.LegalCut.{AreBelow, IsOrderlyCut, cut_front}
use Rattle.wp_cuts.proofs.FullLegal.{full_is_legal_by, orderly_front}
use Rattle.wp_cuts.proofs.FullList.{full_behind, full_long, full_value}
use Rattle.wp_cuts.proofs.Whole.{full_front}
use Rattle.wp_history.specs.History.{RoomyHistory, IsStore, HasBaseValues, IsKept}
use Rattle.wp_history.specs.Outline.{cut_in, full_with, RestoreUpTo, IsFirstWrong, IsIllegalFrom}

-- ---- the prepare that is undone

-- what is undecided behind the first n entries is a prepare of the whole list
there_too : (entries : List Entry) (n p : ℕ) → is_undecided (take n entries) p ≡ true → entry_at (take n entries) p ≡ entry_at entries p
there_too entries n p undecided_p =
    sym (entry_at_old (take n entries) (drop n entries) p (undecided_within (take n entries) p undecided_p).1) ∙ ap (λ (es : List Entry). entry_at es p) (take-append-drop n entries)

batch_in : (o : Option Entry) (name : List ℕ) (batch : List Change) → prepare_of o ≡ Some (name, batch) → prepared_batch o ≡ batch
batch_in None name batch is = absurd cc
batch_in (Some (Write b)) name batch is = absurd cc
batch_in (Some (Prepare n b)) name batch is = ap (λ (t : List ℕ × List Change). t.1) (same_Some (n, b) (name, batch) is)
batch_in (Some (Commit p)) name batch is = absurd cc
batch_in (Some (Undo p b)) name batch is = absurd cc
batch_in (Some (Close p)) name batch is = absurd cc

pub prepared_there : (entries : List Entry) (n p : ℕ) (name : List ℕ) (batch : List Change) → is_undecided (take n entries) p ≡ true → Some (name, batch) ≡ prepare_of (entry_at entries p) → batch_at (take n entries) p ≡ batch
prepared_there entries n p name batch undecided_p is = ap prepared_batch (there_too entries n p undecided_p) ∙ batch_in (entry_at entries p) name batch (sym is)

no_prepare : (o : Option Entry) → is_prepare o ≡ true → None ≡ prepare_of o → ⊥
no_prepare None is none = absurd cc
no_prepare (Some (Write b)) is none = absurd cc
no_prepare (Some (Prepare n b)) is none = absurd cc
no_prepare (Some (Commit p)) is none = absurd cc
no_prepare (Some (Undo p b)) is none = absurd cc
no_prepare (Some (Close p)) is none = absurd cc

pub never_gone : (entries : List Entry) (n p : ℕ) → is_undecided (take n entries) p ≡ true → None ≡ prepare_of (entry_at entries p) → ⊥
never_gone entries n p undecided_p none = no_prepare (entry_at entries p) (ap is_prepare (sym (there_too entries n p undecided_p)) ∙ undecided_prepared (take n entries) p undecided_p) none

-- ---- a list that is legal

record IsBefore (entries : List Entry) (k n : ℕ) (entry : Entry) : Type 0 where
  below : n < k
  there : slice_get entries n ≡ Some entry

before_of : (entries : List Entry) (k n : ℕ) (entry : Entry) → slice_get (take k entries) n ≡ Some entry → IsBefore entries k n entry
before_of [] zero n entry at = absurd cc
before_of [] (suc k) n entry at = absurd cc
before_of (first ∷ others) zero n entry at = absurd cc
before_of (first ∷ others) (suc k) zero entry at = record { below = omega arith; there = at }
before_of (first ∷ others) (suc k) (suc n) entry at = let it = before_of others k n entry at in record { below = let lt = it.below in omega (arith, lt); there = it.there }

module _ (c : Cut) (versions : List Version) (order : AreInOrder versions) (below : AreBelow c versions) (orderly : IsOrderlyCut c) where
  abbrev all : List Entry
  all = full_of c versions

  abbrev AllRestore : ℕ → Type 0
  AllRestore m = (n : ℕ) (entry : Entry) → c.base ≤ n → n < m → slice_get all n ≡ Some entry → RestoresPrior (take n all) entry

  at_behind : (n : ℕ) (entry : Entry) → slice_get c.entries n ≡ Some entry → slice_get all (c.base + n) ≡ Some entry
  at_behind n entry at =
      let place : suc (c.base + n) - 1 - c.base ≡ n = omega arith in
      full_behind c versions (suc (c.base + n)) (omega arith) ∙ ap (slice_get c.entries) place ∙ at

  pub legal_up_to : (m : ℕ) → c.base ≤ m → m ≤ length all → AllRestore m → IsLegal (take m all)
  legal_up_to m from within restore = subst IsLegal (sym (full_front c versions m from fits)) (full_is_legal_by (cut_front c (m - c.base)) versions order below (orderly_front c (m - c.base) orderly) restores)
    where
      fits : m ≤ c.base + length c.entries
      fits = let long = full_long c versions in omega (arith, long, within)

      restores : (n : ℕ) (entry : Entry) → slice_get (take (m - c.base) c.entries) n ≡ Some entry → RestoresPrior (full_of (cut_front (cut_front c (m - c.base)) n) versions) entry
      restores n entry at =
          let it = before_of c.entries (m - c.base) n entry at in
          let lt = it.below in
          let small = slice_get_within c.entries n entry it.there in
          let place : c.base + n - c.base ≡ n = omega arith in
          let front : take (c.base + n) all ≡ full_of (cut_front c n) versions = full_front c versions (c.base + n) (omega arith) (omega (arith, small)) ∙ ap (λ (k : ℕ). full_of (cut_front c k) versions) place in
          let same : take n (take (m - c.base) c.entries) ≡ take n c.entries = take-take n (m - c.base) c.entries (omega (arith, lt)) in
          subst (λ (h : List Entry). RestoresPrior h entry) (front ∙ ap (λ (es : List Entry). full_of (record c { entries = es }) versions) (sym same))
          (restore (c.base + n) entry (omega arith) (omega (arith, lt, from)) (at_behind n entry it.there))

pub entry_within : (entries : List Entry) (p : ℕ) (entry : Entry) → entry_at entries p ≡ Some entry → p ≤ length entries
entry_within entries zero entry at = absurd cc
entry_within entries (suc n) entry at = let lt = slice_get_within entries n entry at in omega (arith, lt)

-- ---- undo by undo

pub restore_to : (h : RoomyHistory) (m k : ℕ) → k ≤ m → RestoreUpTo h m → RestoreUpTo h k
restore_to h m k le before n entry from lt there = before n entry from (omega (arith, le, lt)) there

pub restore_none : (h : RoomyHistory) (m : ℕ) → m ≤ h.base → RestoreUpTo h m
restore_none h m le n entry from lt there = absurd (omega (arith, le, from, lt))

pub restore_more : (h : RoomyHistory) (m : ℕ) (here : Entry) → slice_get h.entries m ≡ Some here → RestoresPrior (take m h.entries) here → RestoreUpTo h m → RestoreUpTo h (m + 1)
restore_more h m here at restores before n entry from lt there = elim (cases_lt n m) [
  | inl below ↦ before n entry from below there
  | inr ge ↦
      let same : m ≡ n = omega (arith, ge, lt) in
      let its : here ≡ entry = same_Some here entry (sym at ∙ ap (slice_get h.entries) same ∙ there) in
      subst (λ (k : ℕ). RestoresPrior (take k h.entries) entry) same (subst (RestoresPrior (take m h.entries)) its restores)
]

pub wrong_at : (h : RoomyHistory) (n number : ℕ) (entry : Entry) → number ≡ n + 1 → h.base ≤ n → slice_get h.entries n ≡ Some entry → RestoreUpTo h n → (RestoresPrior (take n h.entries) entry → ⊥) → IsFirstWrong h number
wrong_at h n number entry is from at before wrong =
    let less : n ≡ number - 1 = omega (arith, is) in
    record {
      behind = omega (arith, from, is);
      before = subst (RestoreUpTo h) less before;
      entry = entry;
      there = subst (λ (m : ℕ). entry_at h.entries m ≡ Some entry) (let e : suc n ≡ number = omega (arith, is) in e) at;
      wrong = subst (λ (m : ℕ). RestoresPrior (take m h.entries) entry → ⊥) less wrong;
    }

-- ---- an outline with a store

module _ (o w : RoomyHistory) (versions : List Version) (store : BTreeMap (List ℕ) (List ℕ)) (is : w ≡ record o { entries = full_with o versions }) (orderly : IsOrderlyCut (cut_in o)) (order : AreInOrder versions) (below : AreBelow (cut_in o) versions) where
  base_is : w.base ≡ o.base
  base_is = ap (λ (h : RoomyHistory). h.base) is

  entries_are : w.entries ≡ full_with o versions
  entries_are = ap (λ (h : RoomyHistory). h.entries) is

  pub has_base_values : IsStore (base_value (cut_in o) versions) store → HasBaseValues w store
  has_base_values had = subst (λ (h : RoomyHistory). HasBaseValues h store) (sym is) (record { ordered = had.ordered; each = λ key. had.each key ∙ sym (full_value (cut_in o) versions key orderly.numbered order) })

  restored : (m : ℕ) → RestoreUpTo w m → AllRestore (cut_in o) versions order below orderly m
  restored m = subst (λ (h : RoomyHistory). RestoreUpTo h m → AllRestore (cut_in o) versions order below orderly m) (sym is) (λ restore. restore)

  pub is_kept : RestoreUpTo w (length w.entries) → HasBaseValues w store → IsKept w store
  is_kept restore stored =
      let all = full_with o versions in
      let long = full_long (cut_in o) versions in
      record {
        legal = subst IsLegal (sym entries_are) (subst IsLegal (take_all (length all) all (omega arith))
            (legal_up_to (cut_in o) versions order below orderly (length all) (omega (arith, long)) (omega arith) (restored (length all) (subst (λ (m : ℕ). RestoreUpTo w m) (ap length entries_are) restore))));
        within = omega (arith, long, base_is, ap length entries_are);
        stored = stored;
      }

  pub is_illegal : (number : ℕ) → IsFirstWrong w number → IsIllegalFrom (full_with o versions) number
  is_illegal number first =
      let behind = first.behind in
      let within = entry_within w.entries number first.entry first.there in
      let size = ap length entries_are in
      record {
        before = legal_up_to (cut_in o) versions order below orderly (number - 1) (omega (arith, behind, base_is)) (omega (arith, within, size)) (restored (number - 1) first.before);
        entry = first.entry;
        there = ap (λ (es : List Entry). entry_at es number) (sym entries_are) ∙ first.there;
        wrong = subst (λ (es : List Entry). RestoresPrior (take (number - 1) es) first.entry → ⊥) entries_are first.wrong;
      }

-- ---- how a history stays kept

module _ (old new : RoomyHistory) (store : BTreeMap (List ℕ) (List ℕ)) (same : new.base ≡ old.base) (kept : IsKept old store) where
  has_still : ((key : List ℕ) → value_at new.entries key old.base ≡ value_at old.entries key old.base) → HasBaseValues new store
  has_still values = record { ordered = kept.stored.ordered; each = λ key. kept.stored.each key ∙ sym (values key) ∙ ap (value_at new.entries key) (sym same) }

  pub kept_same : new.entries ≡ old.entries → IsKept new store
  kept_same are = record {
    legal = subst IsLegal (sym are) kept.legal;
    within = omega (arith, kept.within, same, ap length are);
    stored = has_still (λ key. ap (λ (es : List Entry). value_at es key old.base) are);
  }

  pub kept_pushed : (entry : Entry) → new.entries ≡ old.entries ++ entry ∷ [] → IsLegalNext old.entries entry → length old.entries + 1 < log_end → IsKept new store
  kept_pushed entry are after few = record {
    legal = subst IsLegal (sym are) (legal_next old.entries entry kept.legal after few);
    within = omega (arith, kept.within, same, ap length are, length-append old.entries (entry ∷ []));
    stored = has_still (λ key. ap (λ (es : List Entry). value_at es key old.base) are ∙ ap (λ (es : List Entry). newest es key) (take-append-le old.base old.entries (entry ∷ []) kept.within));
  }

pub kept_none : (h : RoomyHistory) (store : BTreeMap (List ℕ) (List ℕ)) → h.base ≡ 0 → h.entries ≡ [] → store.entries ≡ [] → IsOrdered key_cmp store → IsKept h store
kept_none h store zero_base none empty ordered = record {
  legal = subst IsLegal (sym none) (record { few = omega arith; each = λ n entry at. absurd cc });
  within = omega (arith, zero_base);
  stored = record {
    ordered = ordered;
    each = λ key. ap (λ (es : List (List ℕ × List ℕ)). lookup (is_at (key_cmp key)) es) empty ∙ (λ i. value_at (sym none i) key (sym zero_base i));
  };
}

-- what may follow all of them
pub legal_by_both : (entries : List Entry) (entry : Entry) (n : ℕ) (r : Bool) → n ≡ length entries → IsOrderlyNext entries entry → (r ≡ true → RestoresPrior (take n entries) entry) × (RestoresPrior (take n entries) entry → r ≡ true) → (r ≡ true → IsLegalNext entries entry) × (IsLegalNext entries entry → r ≡ true)
legal_by_both entries entry n r whole orderly restores =
    let all : take n entries ≡ entries = take_all n entries (omega (arith, whole)) in (
      λ yes. record { orderly = orderly; restores_prior = subst (λ (h : List Entry). RestoresPrior h entry) all (restores.0 yes) },
      λ legal. restores.1 (subst (λ (h : List Entry). RestoresPrior h entry) (sym all) legal.restores_prior),
    )

pub orderly_behind_all : (entries : List Entry) (entry : Entry) (n : ℕ) → n ≡ length entries → IsOrderlyNext entries entry → IsOrderlyNext (take n entries) entry
orderly_behind_all entries entry n whole = subst (λ (h : List Entry). IsOrderlyNext h entry) (sym (take_all n entries (omega (arith, whole))))
