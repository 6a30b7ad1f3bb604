-- A key that no entry above a number changes keeps its value, and is unchanged since each later number; the keys of an undecided
-- prepare are unchanged since it.
use Rattle.std.proofs.Common.{◌≡◌, ℕ, zero, suc, ◌+◌, ◌-◌, ◌<◌, ◌≤◌, Bool, true, false, true≢false, cond, List, [], ◌∷◌, ◌++◌, length, take, drop, Option, Some, None, refl, sym, ap, ◌∙◌, subst, inl, inr, arith, length-append}
use Rattle.std.specs.Prelude.{unwrap_or}
use Rattle.std.specs.List.{filter, range_with_len, last_or}
use Rattle.std.specs.Option.{option_map_or}
use Rattle.std.proofs.lemmas.Bool.{cases_lt, cases_eq, eq-eqb, false_from_ne_true}
use Rattle.std.proofs.lemmas.List.{take-append-le, take-append-drop, length-take}
use Rattle.std.proofs.Math.Seq.{take-length}
use Rattle.wp_model.specs.declared.change.Change.{Change}
use Rattle.wp_model.specs.declared.entry.Entry.{Entry}
use Rattle.wp_model.specs.declared.entry.Entry.TheVariants.{Write, Prepare, Commit, Undo, Close}
use Rattle.wp_model.specs.Batch.{change_to}
use Rattle.wp_model.specs.Changed.{changes_key, IsUnchanged}
use Rattle.wp_model.specs.History.{entry_at, is_prepare, batch_at, decides, is_undecided, is_changed, changes_of, newest, value_at}
use Rattle.wp_model.specs.Legal.{IsLegal, IsLegalNext, NamesUndecided}
use Rattle.wp_model.proofs.Entries.{entry_at_old, batch_at_old, undecided_within}
use Rattle.wp_history_laws.proofs.Above.{Holds, legal_none_above, held_before, same_holder, is_changed_from}
use Rattle.wp_history_laws.proofs.Growth.{entry_at_next, length_next, by_growth, legal_before, legal_naming, AreNaming}
use Rattle.wp_history_laws.proofs.Held.{not_free, free_key}
use Rattle.wp_history_laws.proofs.Newest.{changes_stay, newest_next}

-- ---- by each number

some_last : (x : ℕ) (xs : List ℕ) → last_or (Some x) xs ≡ None → ⊥
some_last x [] e = absurd cc
some_last x (y ∷ ys) e = some_last y ys e

none_passes : (p : ℕ → Bool) (a n : ℕ) → last_or None (filter p (range_with_len a n)) ≡ None → (k : ℕ) → a ≤ k → k < a + n → p k ≡ false
none_passes p a zero none k low high = absurd (omega arith)
none_passes p a (suc n) none k low high = by (p a) refl none (λ e past. none_passes p (a + 1) n e k past (omega arith))
  where
    by : (b : Bool) → p a ≡ b → last_or None (cond b (a ∷ filter p (range_with_len (a + 1) n)) (filter p (range_with_len (a + 1) n))) ≡ None → (last_or None (filter p (range_with_len (a + 1) n)) ≡ None → a + 1 ≤ k → p k ≡ false) → p k ≡ false
    by true is e rest = absurd (some_last a (filter p (range_with_len (a + 1) n)) e)
    by false is e rest = elim (cases_eq a k) [
      | inl same ↦ ap p (sym same) ∙ is
      | inr other ↦ rest e (omega arith)
    ]

pub none_filtered : (p : ℕ → Bool) (a n : ℕ) → ((k : ℕ) → a ≤ k → k < a + n → p k ≡ false) → filter p (range_with_len a n) ≡ []
none_filtered p a zero none = refl
none_filtered p a (suc n) none = rw (none a (omega arith) (omega arith)) (none_filtered p (a + 1) n (λ k low high. none k (omega arith) (omega arith)))

pub each_unchanged : (history : List Entry) (key : List ℕ) (n : ℕ) → IsUnchanged history key n → (m : ℕ) → n < m → m ≤ length history → changes_key history key m ≡ false
each_unchanged history key n none m low high = none_passes (changes_key history key) (suc n) (length history - n) none m (omega arith) (omega arith)

pub unchanged_by_each : (history : List Entry) (key : List ℕ) (n : ℕ) → ((m : ℕ) → n < m → m ≤ length history → changes_key history key m ≡ false) → IsUnchanged history key n
unchanged_by_each history key n none = ap (last_or None) (none_filtered (changes_key history key) (suc n) (length history - n) (λ k low high. none k (omega arith) (omega arith)))

-- ---- later numbers

-- nothing is above the end
pub unchanged_at_end : (history : List Entry) (key : List ℕ) (n : ℕ) → length history ≤ n → IsUnchanged history key n
unchanged_at_end history key n past = unchanged_by_each history key n (λ m low high. absurd (omega arith))

pub unchanged_later : (history : List Entry) (key : List ℕ) (n m : ℕ) → n ≤ m → IsUnchanged history key n → IsUnchanged history key m
unchanged_later history key n m le none = unchanged_by_each history key m (λ k low high. each_unchanged history key n none k (omega arith) high)

-- ---- with more entries

-- an entry that is there names an undecided prepare before it
names_here : (history : List Entry) (n : ℕ) (entry : Entry) → AreNaming history → entry_at history n ≡ Some entry → NamesUndecided (take (n - 1) history) entry
names_here history zero entry naming at = absurd cc
names_here history (suc n) entry naming at =
    let q : suc n - 1 ≡ n = omega arith in
    subst (λ (k : ℕ). NamesUndecided (take k history) entry) (sym q) (naming n entry at)

-- an entry that is there makes the same changes, whatever follows
changes_there : (history more : List Entry) (n : ℕ) (entry : Entry) → AreNaming history → entry_at history n ≡ Some entry → changes_of (history ++ more) entry ≡ changes_of history entry
changes_there history more n (Write batch) naming at = refl
changes_there history more n (Prepare name batch) naming at = refl
changes_there history more n (Commit p) naming at =
    let front = take (n - 1) history in
    let within = (undecided_within front p (names_here history n (Commit p) naming at)).1 in
    let split = take-append-drop (n - 1) history in
    let l = length-append front (drop (n - 1) history) in
    let whole : length (front ++ drop (n - 1) history) ≡ length history = ap length split in
    batch_at_old history more p (omega (arith, within, l, whole))
changes_there history more n (Undo p batch) naming at = refl
changes_there history more n (Close p) naming at = refl

pub changes_key_old : (history more : List Entry) (key : List ℕ) (n : ℕ) → AreNaming history → n ≤ length history → changes_key (history ++ more) key n ≡ changes_key history key n
changes_key_old history more key n naming le =
    ap (λ (o : Option Entry). option_map_or (λ entry. is_changed (changes_of (history ++ more) entry) key) o false) (entry_at_old history more n le) ∙ by (entry_at history n) refl
  where
    by : (o : Option Entry) → entry_at history n ≡ o → option_map_or (λ entry. is_changed (changes_of (history ++ more) entry) key) o false ≡ option_map_or (λ entry. is_changed (changes_of history entry) key) o false
    by None at = refl
    by (Some entry) at = ap (λ (changes : List Change). is_changed changes key) (changes_there history more n entry naming at)

module _ (history : List Entry) (entry : Entry) (legal : IsLegal history) (after : IsLegalNext history entry) where
  abbrev grown : List Entry
  grown = history ++ entry ∷ []

  pub changes_key_next : (key : List ℕ) → changes_key grown key (length history + 1) ≡ is_changed (changes_of history entry) key
  changes_key_next key =
      ap (λ (o : Option Entry). option_map_or (λ e. is_changed (changes_of grown e) key) o false) (entry_at_next history entry)
      ∙ ap (λ (changes : List Change). is_changed changes key) (changes_stay history (entry ∷ []) entry after.orderly.names_undecided)

  -- an entry that does not change the key leaves it unchanged
  pub unchanged_grows : (key : List ℕ) (n : ℕ) → is_changed (changes_of history entry) key ≡ false → IsUnchanged history key n → IsUnchanged grown key n
  unchanged_grows key n other none = unchanged_by_each grown key n (λ m low high.
      let l = length_next history entry in
      elim (cases_lt (length history) m) [
        | inl past ↦ let same : m ≡ length history + 1 = omega (arith, past, high, l) in ap (changes_key grown key) same ∙ changes_key_next key ∙ other
        | inr le ↦ changes_key_old history (entry ∷ []) key m (legal_naming history legal.each) le ∙ each_unchanged history key n none m low le
      ])

  -- where it is unchanged in the longer history, the entry did not change it, and it was unchanged
  unchanged_before : (key : List ℕ) (n : ℕ) → IsUnchanged grown key n → IsUnchanged history key n
  unchanged_before key n none = unchanged_by_each history key n (λ m low high.
      let l = length_next history entry in
      sym (changes_key_old history (entry ∷ []) key m (legal_naming history legal.each) high) ∙ each_unchanged grown key n none m low (omega (arith, high, l)))

  not_by_it : (key : List ℕ) (n : ℕ) → n ≤ length history → IsUnchanged grown key n → is_changed (changes_of history entry) key ≡ false
  not_by_it key n le none =
      let l = length_next history entry in
      sym (changes_key_next key) ∙ each_unchanged grown key n none (length history + 1) (omega (arith, le)) (omega (arith, l))

-- ---- values

not_changed : (changes : List Change) (key : List ℕ) → is_changed changes key ≡ false → change_to changes key ≡ None
not_changed changes key none = by (change_to changes key) refl
  where
    by : (o : Option (Option (List ℕ))) → change_to changes key ≡ o → o ≡ None
    by None is = refl
    by (Some value) is = absurd (true≢false (sym (is_changed_from changes key value is) ∙ none))

abbrev KeepValues : List Entry → Type 0
KeepValues history = (key : List ℕ) (n m : ℕ) → IsUnchanged history key n → n ≤ m → m ≤ length history → value_at history key m ≡ value_at history key n

values_next : (history : List Entry) (entry : Entry) → IsLegal history → IsLegalNext history entry → KeepValues history → KeepValues (history ++ entry ∷ [])
values_next history entry legal after kept key n m none le within = elim (cases_lt (length history) m) [
  | inr old ↦
      value_old m old ∙ kept key n m (unchanged_before history entry legal after key n none) le old ∙ sym (value_old n (omega arith))
  | inl past ↦ elim (cases_lt (length history) n) [
    | inl also ↦ let l = length_next history entry in let same : m ≡ n = omega (arith, past, also, le, within, l) in ap (value_at (history ++ entry ∷ []) key) same
    | inr low ↦
        let l = length_next history entry in
        let same : m ≡ length (history ++ entry ∷ []) = omega (arith, past, within, l) in
        let still : newest (history ++ entry ∷ []) key ≡ newest history key =
        newest_next history entry key (legal_naming history legal.each) after.orderly.names_undecided
        ∙ ap (λ (o : Option (Option (List ℕ))). unwrap_or o (newest history key)) (not_changed (changes_of history entry) key (not_by_it history entry legal after key n low none)) in
        let whole : value_at (history ++ entry ∷ []) key m ≡ newest (history ++ entry ∷ []) key = ap (value_at (history ++ entry ∷ []) key) same ∙ value_whole (history ++ entry ∷ []) in
        whole ∙ still ∙ sym (value_whole history) ∙ kept key n (length history) (unchanged_before history entry legal after key n none) low (omega arith) ∙ sym (value_old n low)
  ]
]
  where
    value_old : (k : ℕ) → k ≤ length history → value_at (history ++ entry ∷ []) key k ≡ value_at history key k
    value_old k low = ap (λ (h : List Entry). newest h key) (take-append-le k history (entry ∷ []) low)

    value_whole : (h : List Entry) → value_at h key (length h) ≡ newest h key
    value_whole h = ap (λ (x : List Entry). newest x key) (take-length h)

pub unchanged_keeps_value : (history : List Entry) (key : List ℕ) (n m : ℕ) → IsLegal history → IsUnchanged history key n → n ≤ m → m ≤ length history → value_at history key m ≡ value_at history key n
unchanged_keeps_value history key n m legal none le within =
    by_growth KeepValues (λ k i j e low high. let same : j ≡ i = omega (arith, low, high) in ap (value_at [] k) same) (λ h entry whole before after kept. values_next h entry before after kept) history legal key n m none le within

-- ---- keys of undecided prepares

-- what comes next and does not decide a prepare changes none of its keys
commits_none : (history : List Entry) (entry : Entry) (p : ℕ) (key : List ℕ) → IsLegal history → IsLegalNext history entry → Holds history key p → decides p entry ≡ false → is_changed (changes_of history entry) key ≡ false
commits_none history (Write batch) p key legal next holds other = false_from_ne_true _ (λ changed. not_free history key p holds.undecided holds.changed (free_key history batch key next.orderly.keys_are_free changed))
commits_none history (Prepare name batch) p key legal next holds other = refl
commits_none history (Commit q) p key legal next holds other = false_from_ne_true _ (λ changed.
    let its : Holds history key q = record { undecided = next.orderly.names_undecided; changed = changed } in
    let same : q ≡ p = same_holder history key p q (legal_none_above history legal) next.orderly.undo_is_closed holds its in
    true≢false (sym (eq-eqb q p same) ∙ other))
commits_none history (Undo q batch) p key legal next holds other = refl
commits_none history (Close q) p key legal next holds other = refl

abbrev AreUnchanged : List Entry → Type 0
AreUnchanged history = (key : List ℕ) (p : ℕ) → Holds history key p → IsUnchanged history key p

held_next : (history : List Entry) (entry : Entry) → IsLegal history → IsLegalNext history entry → AreUnchanged history → AreUnchanged (history ++ entry ∷ [])
held_next history entry legal after kept key p holds = elim (cases_lt (length history) p) [
  | inl past ↦ unchanged_at_end (history ++ entry ∷ []) key p (let l = length_next history entry in omega (arith, past, l))
  | inr le ↦
      let was = held_before history entry key p le holds in
      unchanged_grows history entry legal after key p (commits_none history entry p key legal after was.0 was.1) (kept key p was.0)
]

pub held_unchanged : (history : List Entry) (key : List ℕ) (p : ℕ) → IsLegal history → is_undecided history p ≡ true → is_changed (batch_at history p) key ≡ true → IsUnchanged history key p
held_unchanged history key p legal undecided changed =
    by_growth AreUnchanged (λ k q holds. unchanged_at_end [] k q (omega arith)) (λ h entry whole before after kept. held_next h entry before after kept) history legal key p (record { undecided = undecided; changed = changed })

-- ---- over a prepare

-- a Prepare changes nothing
prepare_changes_none : (history : List Entry) (key : List ℕ) (o : Option Entry) → is_prepare o ≡ true → option_map_or (λ entry. is_changed (changes_of history entry) key) o false ≡ false
prepare_changes_none history key None is = refl
prepare_changes_none history key (Some (Write batch)) is = absurd (true≢false (sym is))
prepare_changes_none history key (Some (Prepare name batch)) is = refl
prepare_changes_none history key (Some (Commit q)) is = absurd (true≢false (sym is))
prepare_changes_none history key (Some (Undo q batch)) is = refl
prepare_changes_none history key (Some (Close q)) is = refl

pub unchanged_over_prepare : (history : List Entry) (key : List ℕ) (n p : ℕ) → IsLegal history → is_prepare (entry_at history p) ≡ true → IsUnchanged (take (p - 1) history) key n → IsUnchanged history key p → IsUnchanged history key n
unchanged_over_prepare history key n p legal prepares before behind = unchanged_by_each history key n (λ m low high. elim (cases_lt p m) [
  | inl past ↦ each_unchanged history key p behind m past high
  | inr le ↦ elim (cases_eq m p) [
    | inl same ↦ ap (changes_key history key) same ∙ prepare_changes_none history key (entry_at history p) prepares
    | inr other ↦
        let front = take (p - 1) history in
        let split = take-append-drop (p - 1) history in
        let l = length_front m high le other in
        let legal_front : IsLegal front = legal_before front (drop (p - 1) history) (subst IsLegal (sym split) legal) in
        ap (λ (h : List Entry). changes_key h key m) (sym split) ∙ changes_key_old front (drop (p - 1) history) key m (legal_naming front legal_front.each) l ∙ each_unchanged front key n before m low l
  ]
])
  where
    length_front : (m : ℕ) → m ≤ length history → m ≤ p → (m ≡ p → ⊥) → m ≤ length (take (p - 1) history)
    length_front m high le other = omega (arith, high, le, other, length-take (p - 1) history)
