-- Versions that are of a history, and versions that are there.
use Rattle.std.proofs.Common.{◌≡◌, ℕ, suc, ◌+◌, ◌-◌, ◌<◌, ◌≤◌, ◌++◌, ◌⊎◌, inl, inr, nat_le, get_or, drop, drop-cons, Bool, true, false, ◌||◌, cond, eqb, Less, List, [], ◌∷◌, length, Option, Some, None, refl, sym, ap, ◌∙◌, subst, arith}
use Rattle.std.specs.Prelude.{slice_get}
use Rattle.std.specs.Ordering.{is_lt}
use Rattle.std.specs.Bool.{Decides}
use Rattle.std.specs.Str.{bytes_eq}
use Rattle.std.specs.List.{filter, list_any, range_with_len}
use Rattle.std.proofs.lemmas.Bool.{and_parts, eqb-true, cases_lt}
use Rattle.std.proofs.lemmas.List.{drop_all}
use Rattle.std.proofs.lemmas.Cmp.{tied_itself, nat_list_cmp_total}
use Rattle.wp_model.specs.declared.batch.TheConstants.{MOST_KEYS}
use Rattle.wp_model.specs.declared.change.Change.{Change}
use Rattle.wp_model.specs.declared.entry.Entry.{Entry}
use Rattle.wp_model.specs.declared.entry.Entry.TheVariants.{Write, Prepare, Commit, Undo, Close}
use Rattle.wp_model.specs.declared.version.Version.{Version}
use Rattle.wp_model.specs.Batch.{key_cmp, key_of, value_of, change_to, are_ascending, is_batch}
use Rattle.wp_model.specs.History.{batch_at, is_undecided, undecided}
use Rattle.wp_model.specs.Legal.{undone_last}
use Rattle.wp_model.specs.Decision.{version_in, entry_version}
use Rattle.wp_model.specs.Versions.{AreInOrder, version_at}
use Rattle.wp_history_laws.specs.Growth.{undone_by}
use Rattle.wp_history_laws.proofs.Above.{undecided_version}
use Rattle.wp_history_laws.proofs.Undecided.{is_undecided_by_list}
use Rattle.wp_history_laws.proofs.Undone.{undone_at_last}
use Rattle.std.specs.Option.{option_or}
use Rattle.wp_model.specs.Flushed.{later_versions}
use Rattle.wp_history.specs.History.{RoomyHistory}
use Rattle.wp_cover.specs.Sources.{is_fixed, AreFixed}
use Rattle.wp_cover.specs.Present.{ArePart, AreParts, AreAllPart, HasChanges, HasBatches, HasUndone, restored}
use Rattle.wp_cover.proofs.HistoryLemmas.{entry_at_last}
use Rattle.wp_model.proofs.BatchLemmas.{less_from_test, ascending_rest}
use Rattle.wp_model.proofs.VersionLists.{in_order_parts}
use Rattle.wp_cover.proofs.Order.{same_key, key_itself, is_here, at_here, here_itself, none_behind}
use Rattle.wp_cover.proofs.Places.{at_all, none_later, own_later}

-- ---- each is that of its entry

module _ (h : RoomyHistory) where
  abbrev history : List Entry
  history = h.entries

  -- the number is fixed, or the history has this version there
  abbrev IsOwnAt : List ℕ → ℕ → Option (List ℕ) → Type 0
  IsOwnAt key p value = (is_fixed h p ≡ true) ⊎ (entry_version history p key ≡ Some value)

  part_at : (vs : List Version) → ArePart h vs → (key : List ℕ) (p : ℕ) (value : Option (List ℕ)) → version_at vs key p ≡ Some value → IsOwnAt key p value
  part_at [] part key p value e = absurd cc
  part_at (v ∷ vs) part key p value e = by (is_here key p v) refl e (part_at vs part.1 key p value)
    where
      by : (b : Bool) → is_here key p v ≡ b → cond b (Some v.value) (version_at vs key p) ≡ Some value → (version_at vs key p ≡ Some value → IsOwnAt key p value) → IsOwnAt key p value
      by false here is rest = rest is
      by true here is rest =
          let at = at_here key p v here in
          elim part.0 [
            | inl fixed ↦ inl (ap (is_fixed h) (sym at.number_is) ∙ fixed)
            | inr own ↦ inr ((λ i. entry_version history (sym at.number_is i) (sym at.key_is i)) ∙ own ∙ is)
          ]

  part_from : (vs : List Version) → AreInOrder vs → ((key : List ℕ) (p : ℕ) (value : Option (List ℕ)) → version_at vs key p ≡ Some value → entry_version history p key ≡ Some value) → ArePart h vs
  part_from [] order every = tt
  part_from (v ∷ vs) order every = let parts = in_order_parts v vs order in (inr (every v.key v.number v.value (ap (λ b. cond b (Some v.value) (version_at vs v.key v.number)) (here_itself v))), part_from vs parts.1 (λ key p value e. every key p value (behind key p value (is_here key p v) refl e)))
    where
      behind : (key : List ℕ) (p : ℕ) (value : Option (List ℕ)) (b : Bool) → is_here key p v ≡ b → version_at vs key p ≡ Some value → cond b (Some v.value) (version_at vs key p) ≡ Some value
      behind key p value false here e = e
      behind key p value true here e =
          let at = at_here key p v here in
          let none = none_behind key p v vs (in_order_parts v vs order).0 (ap (λ k. bytes_eq k key) at.key_is ∙ key_itself key) (omega (arith, at.number_is)) in
          absurd cc

-- ---- each that counts is that of its entry

module _ (h : RoomyHistory) (all : List Version) where
  -- under the places of these versions something counts
  abbrev pub AreWithin : List Version → Type 0
  AreWithin vs = (key : List ℕ) (p : ℕ) (value : Option (List ℕ)) → version_at vs key p ≡ Some value → (w : Option (List ℕ)) × (version_at all key p ≡ Some w)

  abbrev IsPartAt : List ℕ → ℕ → Option (List ℕ) → Type 0
  IsPartAt key p value = IsOwnAt h key p value ⊎ (entry_version h.entries p key ≡ version_at all key p)

  parts_at : (vs : List Version) → AreParts h all vs → (key : List ℕ) (p : ℕ) (value : Option (List ℕ)) → version_at vs key p ≡ Some value → IsPartAt key p value
  parts_at [] parts key p value e = absurd cc
  parts_at (v ∷ vs) parts key p value e = by (is_here key p v) refl e (parts_at vs parts.1 key p value)
    where
      by : (b : Bool) → is_here key p v ≡ b → cond b (Some v.value) (version_at vs key p) ≡ Some value → (version_at vs key p ≡ Some value → IsPartAt key p value) → IsPartAt key p value
      by false here is rest = rest is
      by true here is rest =
          let at = at_here key p v here in
          elim parts.0 [
            | inl (inl fixed) ↦ inl (inl (ap (is_fixed h) (sym at.number_is) ∙ fixed))
            | inl (inr own) ↦ inl (inr ((λ i. entry_version h.entries (sym at.number_is i) (sym at.key_is i)) ∙ own ∙ is))
            | inr same ↦ inr ((λ i. entry_version h.entries (sym at.number_is i) (sym at.key_is i)) ∙ same ∙ (λ i. version_at all (at.key_is i) (at.number_is i)))
          ]

  parts_from : (vs : List Version) → AreWithin vs → AreAllPart h.entries all → AreParts h all vs
  parts_from [] within every = tt
  parts_from (v ∷ vs) within every = (inr (first (within v.key v.number v.value (ap (λ b. cond b (Some v.value) (version_at vs v.key v.number)) (here_itself v)))), parts_from vs (λ key p value e. behind key p value (is_here key p v) refl e) every)
    where
      first : ((w : Option (List ℕ)) × (version_at all v.key v.number ≡ Some w)) → entry_version h.entries v.number v.key ≡ version_at all v.key v.number
      first k = every v.key v.number k.0 k.1 ∙ sym k.1

      behind : (key : List ℕ) (p : ℕ) (value : Option (List ℕ)) (b : Bool) → is_here key p v ≡ b → version_at vs key p ≡ Some value → (w : Option (List ℕ)) × (version_at all key p ≡ Some w)
      behind key p value false here e = within key p value (ap (λ b. cond b (Some v.value) (version_at vs key p)) here ∙ e)
      behind key p value true here e = within key p v.value (ap (λ b. cond b (Some v.value) (version_at vs key p)) here)

  pub parts_both : (xs ys : List Version) → AreParts h all xs → AreParts h all ys → AreParts h all (xs ++ ys)
  parts_both [] ys first second = second
  parts_both (x ∷ xs) ys first second = (first.0, parts_both xs ys first.1 second)

  pub parts_split : (xs ys : List Version) → AreParts h all (xs ++ ys) → AreParts h all xs × AreParts h all ys
  parts_split [] ys parts = (tt, parts)
  parts_split (x ∷ xs) ys parts = let rest = parts_split xs ys parts.1 in ((parts.0, rest.0), rest.1)

-- those of a list, of tables, and of the entries above a number
module _ (h : RoomyHistory) (list stored : List Version) (flushed : ℕ) where
  abbrev entries : List Entry
  entries = h.entries

  abbrev all : List Version
  all = list ++ (stored ++ later_versions entries flushed)

  later_is : (key : List ℕ) (p : ℕ) (value : Option (List ℕ)) → version_at (later_versions entries flushed) key p ≡ Some value → entry_version entries p key ≡ Some value
  later_is key p value e = elim (cases_lt flushed p) [
    | inl above ↦ sym (own_later entries flushed key p above) ∙ e
    | inr low ↦ let none = none_later entries flushed key p low in absurd cc
  ]

  pub all_part : AreFixed h all → ArePart h list → AreParts h all stored → AreAllPart entries all
  all_part fixed first second key p value e = by (version_at list key p) refl (version_at stored key p) refl (sym (at_all entries list stored flushed key p) ∙ e)
    where
      by : (a : Option (Option (List ℕ))) → version_at list key p ≡ a → (b : Option (Option (List ℕ))) → version_at stored key p ≡ b → option_or a (option_or b (version_at (later_versions entries flushed) key p)) ≡ Some value → entry_version entries p key ≡ Some value
      by (Some v) here b there is = elim (part_at h list first key p v here) [
        | inl up ↦ fixed key p value up e
        | inr own ↦ own ∙ is
      ]
      by None here (Some v) there is = elim (parts_at h all stored second key p v there) [
        | inl (inl up) ↦ fixed key p value up e
        | inl (inr own) ↦ own ∙ is
        | inr same ↦ same ∙ e
      ]
      by None here None there is = later_is key p value is

  pub list_part : AreInOrder list → AreAllPart entries all → ArePart h list
  list_part order every = part_from h list order (λ key p value e. every key p value (at_all entries list stored flushed key p ∙ ap (λ (o : Option (Option (List ℕ))). option_or o (option_or (version_at stored key p) (version_at (later_versions entries flushed) key p))) e))

  pub stored_part : AreAllPart entries all → AreParts h all stored
  stored_part every = parts_from h all stored within every
    where
      within : AreWithin h all stored
      within key p value e = by (version_at list key p) refl
        where
          by : (a : Option (Option (List ℕ))) → version_at list key p ≡ a → (w : Option (List ℕ)) × (version_at all key p ≡ Some w)
          by (Some v) here = (v, at_all entries list stored flushed key p ∙ ap (λ (o : Option (Option (List ℕ))). option_or o (option_or (version_at stored key p) (version_at (later_versions entries flushed) key p))) here)
          by None here = (value, at_all entries list stored flushed key p ∙ (λ i. option_or (here i) (option_or (e i) (version_at (later_versions entries flushed) key p))))

-- ---- what changes say

none_first : (key : List ℕ) (first : Change) (others : List Change) → key_cmp key (key_of first) ≡ Less → change_to others key ≡ None → change_to (first ∷ others) key ≡ None
none_first key first others below none = by (bytes_eq (key_of first) key) refl
  where
    by : (b : Bool) → bytes_eq (key_of first) key ≡ b → cond b (Some (value_of first)) (change_to others key) ≡ None
    by false e = none
    by true e =
        let tied = ap (λ k. key_cmp key k) (same_key (key_of first) key e) ∙ tied_itself nat_list_cmp_total key in
        absurd cc

-- a key below the first is not among ascending ones
none_below : (key : List ℕ) (first : Change) (others : List Change) → are_ascending (first ∷ others) ≡ true → key_cmp key (key_of first) ≡ Less → change_to (first ∷ others) key ≡ None
none_below key first [] ascending below = none_first key first [] below refl
none_below key first (second ∷ more) ascending below =
    let parts = and_parts (is_lt (key_cmp (key_of first) (key_of second))) (are_ascending (second ∷ more)) ascending in
    none_first key first (second ∷ more) below (none_below key second more parts.1 (nat_list_cmp_total.trans key (key_of first) (key_of second) below (less_from_test _ parts.0)))

pub none_after : (key : List ℕ) (first : Change) (others : List Change) → are_ascending (first ∷ others) ≡ true → bytes_eq (key_of first) key ≡ true → change_to others key ≡ None
none_after key first [] ascending same = refl
none_after key first (second ∷ more) ascending same =
    let parts = and_parts (is_lt (key_cmp (key_of first) (key_of second))) (are_ascending (second ∷ more)) ascending in
    none_below key second more parts.1 (ap (λ k. key_cmp k (key_of second)) (sym (same_key (key_of first) key same)) ∙ less_from_test _ parts.0)

-- the version of each change is there
abbrev pub AreThere : List Version → ℕ → List Change → Type 0
AreThere versions n [] = Unit {0}
AreThere versions n (change ∷ changes) = (version_at versions (key_of change) n ≡ Some (value_of change)) × AreThere versions n changes

module _ (versions : List Version) (n : ℕ) where
  pub has_there : (changes : List Change) → AreThere versions n changes → HasChanges versions n changes
  has_there [] there key value e = absurd cc
  has_there (change ∷ changes) there key value e = by (bytes_eq (key_of change) key) refl e (has_there changes there.1 key value)
    where
      by : (b : Bool) → bytes_eq (key_of change) key ≡ b → cond b (Some (value_of change)) (change_to changes key) ≡ Some value → (change_to changes key ≡ Some value → version_at versions key n ≡ Some value) → version_at versions key n ≡ Some value
      by false same is rest = rest is
      by true same is rest = ap (λ k. version_at versions k n) (sym (same_key (key_of change) key same)) ∙ there.0 ∙ is

  pub there_has : (changes : List Change) → are_ascending changes ≡ true → HasChanges versions n changes → AreThere versions n changes
  there_has [] ascending has = tt
  there_has (change ∷ changes) ascending has = (has (key_of change) (value_of change) (ap (λ b. cond b (Some (value_of change)) (change_to changes (key_of change))) (key_itself (key_of change))), there_has changes (ascending_rest change changes ascending) (λ key value e. has key value (behind key value (bytes_eq (key_of change) key) refl e)))
    where
      behind : (key : List ℕ) (value : Option (List ℕ)) (b : Bool) → bytes_eq (key_of change) key ≡ b → change_to changes key ≡ Some value → cond b (Some (value_of change)) (change_to changes key) ≡ Some value
      behind key value false same e = e
      behind key value true same e = let none = none_after key change changes ascending same in absurd cc

  there_parts : (changes : List Change) (i : ℕ) (change : Change) → i < length changes → change ≡ get_or changes i change → AreThere versions n (drop i changes) → version_at versions (key_of change) n ≡ Some (value_of change)
  there_parts changes i change lt is there =
      let split : drop i changes ≡ change ∷ drop (suc i) changes = drop-cons changes i change lt ∙ ap (λ (c : Change). c ∷ drop (suc i) changes) (sym is) in
      (subst (AreThere versions n) split there).0

  -- where one of the changes is not there, not all are
  pub one_missing : (changes items : List Change) (i : ℕ) (change : Change) → is_batch changes ≡ true → items ≡ changes → i < length items → change ≡ get_or items i change → (AreThere versions n changes → AreThere versions n (drop i items)) → HasChanges versions n changes → version_at versions (key_of change) n ≡ Some (value_of change)
  one_missing changes items i change batch same lt is onward has =
      let ascending = (and_parts (nat_le (length changes) MOST_KEYS) (are_ascending changes) batch).1 in
      there_parts items i change lt is (onward (there_has changes ascending has))

  pub none_missing : (changes items : List Change) (i : ℕ) → length items ≤ i → (AreThere versions n (drop i items) → AreThere versions n changes) → HasChanges versions n changes
  none_missing changes items i le back = has_there changes (back (subst (AreThere versions n) (sym (drop_all i items le)) tt))

-- ---- undecided prepares

module _ (history : List Entry) (versions : List Version) where
  has_batch : (ps : List ℕ) (p : ℕ) → HasBatches history versions ps → list_any (λ k. eqb k p) ps ≡ true → HasChanges versions p (batch_at history p)
  has_batch [] p has among = absurd cc
  has_batch (q ∷ qs) p has among = by (eqb q p) refl among (has_batch qs p has.1)
    where
      by : (b : Bool) → eqb q p ≡ b → (b || list_any (λ k. eqb k p) qs) ≡ true → (list_any (λ k. eqb k p) qs ≡ true → HasChanges versions p (batch_at history p)) → HasChanges versions p (batch_at history p)
      by false other is rest = rest is
      by true same is rest = let P : ℕ → Type 0 = λ r. HasChanges versions r (batch_at history r) in subst P (eqb-true q p same) has.0

  has_filtered : (ps : List ℕ) → ((p : ℕ) → is_undecided history p ≡ true → HasChanges versions p (batch_at history p)) → HasBatches history versions (filter (is_undecided history) ps)
  has_filtered [] every = tt
  has_filtered (p ∷ ps) every = by (is_undecided history p) refl (has_filtered ps every)
    where
      by : (b : Bool) → is_undecided history p ≡ b → HasBatches history versions (filter (is_undecided history) ps) → HasBatches history versions (cond b (p ∷ filter (is_undecided history) ps) (filter (is_undecided history) ps))
      by false e rest = rest
      by true e rest = (every p e, rest)

  next_batch : (ps : List ℕ) (i : ℕ) → i < length ps → drop i ps ≡ get_or ps i 0 ∷ drop (i + 1) ps
  next_batch ps i lt = let e : suc i ≡ i + 1 = omega arith in drop-cons ps i 0 lt ∙ ap (λ (k : ℕ). get_or ps i 0 ∷ drop k ps) e

  pub batches_parts : (ps : List ℕ) (i : ℕ) → i < length ps → HasBatches history versions (drop i ps) → HasChanges versions (get_or ps i 0) (batch_at history (get_or ps i 0)) × HasBatches history versions (drop (i + 1) ps)
  batches_parts ps i lt has = subst (HasBatches history versions) (next_batch ps i lt) has

  pub batches_from : (ps : List ℕ) (i : ℕ) → i < length ps → HasChanges versions (get_or ps i 0) (batch_at history (get_or ps i 0)) → HasBatches history versions (drop (i + 1) ps) → HasBatches history versions (drop i ps)
  batches_from ps i lt here rest = subst (HasBatches history versions) (sym (next_batch ps i lt)) (here, rest)

  -- each version that is undecided is there
  abbrev pub HasUndecided : Type 0
  HasUndecided = (key : List ℕ) (p : ℕ) (value : Option (List ℕ)) → is_undecided history p ≡ true → entry_version history p key ≡ Some value → version_at versions key p ≡ Some value

  pub undecided_there : HasBatches history versions (undecided history) → HasUndecided
  undecided_there has key p value is e = has_batch (undecided history) p has (is_undecided_by_list history p ∙ is) key value (sym (undecided_version history key p is) ∙ e)

  pub batches_there : HasUndecided → HasBatches history versions (undecided history)
  batches_there has = has_filtered (range_with_len 1 (length history)) (λ p is key value e. has key p value is (undecided_version history key p is ∙ e))

  -- ---- an undo at the end

  -- the undo of q ends the history
  ends_with : (q : ℕ) (batch : List Change) (r : Bool) → slice_get history (length history - 1) ≡ Some (Undo q batch) → Decides r (HasChanges versions (length history) batch) → Decides r (HasUndone history versions)
  ends_with q batch r at has = (
    λ yes key p value undone e. has.0 yes key value (sym (last key) ∙ e),
    λ there. has.1 (λ key value e. there key q value (sym (undone_at_last history (Undo q batch) at)) (last key ∙ e)),
  )
    where
      last : (key : List ℕ) → entry_version history (length history) key ≡ change_to batch key
      last key = ap (λ (o : Option Entry). version_in o key) (entry_at_last history (Undo q batch) at)

  pub ends_undone : (entry : Entry) (batch : List Change) (r : Bool) → slice_get history (length history - 1) ≡ Some entry → Some batch ≡ restored entry → Decides r (HasChanges versions (length history) batch) → Decides r (HasUndone history versions)
  ends_undone (Write other) batch r at e has = absurd cc
  ends_undone (Prepare name other) batch r at e has = absurd cc
  ends_undone (Commit p) batch r at e has = absurd cc
  ends_undone (Undo q other) batch r at e has = let same : batch ≡ other = cc in ends_with q other r at (subst (λ (changes : List Change). Decides r (HasChanges versions (length history) changes)) same has)
  ends_undone (Close p) batch r at e has = absurd cc

  pub nothing_undone : undone_last history ≡ None → Decides true (HasUndone history versions)
  nothing_undone none = (λ _ key p value undone e. absurd cc, λ _. refl)

  by_none : (entry : Entry) → None ≡ restored entry → undone_by entry ≡ None
  by_none (Write batch) e = refl
  by_none (Prepare name batch) e = refl
  by_none (Commit p) e = refl
  by_none (Undo p batch) e = absurd cc
  by_none (Close p) e = refl

  pub ends_otherwise : (entry : Entry) → undone_by entry ≡ undone_last history → None ≡ restored entry → Decides true (HasUndone history versions)
  ends_otherwise entry last e = nothing_undone (sym last ∙ by_none entry e)
