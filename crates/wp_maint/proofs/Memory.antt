-- What stands in memory, where no flushed version does and nothing is pending: the history's versions above the flushed number.
use Rattle.std.proofs.Common.{◌≡◌, ◌⊎◌, inl, inr, ℕ, ◌<◌, ◌≤◌, ◌==◌, true, false, List, [], ◌∷◌, ◌++◌, length, take, drop, Option, Some, None, refl, sym, subst, ap, ◌∙◌, arith}
use Rattle.std.proofs.lemmas.Bool.{cases_lt, eqb-true, or_cases}
use Rattle.std.proofs.lemmas.List.{take-append-drop}
use Rattle.std.specs.List.{list_all}
use Rattle.std.specs.Option.{option_or}
use Rattle.wp_model.specs.declared.entry.Entry.{Entry}
use Rattle.wp_model.specs.declared.version.Version.{Version}
use Rattle.wp_model.specs.Covered.{IsCovered, is_among}
use Rattle.wp_model.specs.Decision.{entry_version, version_in}
use Rattle.wp_model.specs.Flushed.{InstalledEdit, IsEditCovered, later_versions}
use Rattle.wp_model.specs.Legal.{IsLegal}
use Rattle.wp_model.specs.Versions.{AreInOrder, version_at}
use Rattle.wp_model.proofs.Entries.{entry_at_past}
use Rattle.wp_history_laws.proofs.Counting.{entry_version_old}
use Rattle.wp_history_laws.proofs.Growth.{legal_before}
use Rattle.wp_merge.specs.Merge.{sorted_of}
use Rattle.wp_merge.proofs.Merged.{or_none}
use Rattle.wp_merge.proofs.Sorted.{at_append, in_order_sorted, at_sorted, in_order_same, own_value}
use Rattle.wp_replies.specs.Tables.{unflushed, after_flush, after_renewal, with_table}
use Rattle.wp_table.specs.Table as table
use Rattle.wp_core.specs.Entries.{next_of}
use Rattle.wp_core.specs.IsSound.{IsSound}
use Rattle.wp_core.specs.Sound.Store.{NoneFlushed}
use Rattle.wp_core.specs.World.{World}
use Rattle.wp_core.proofs.HistoryGrows.{none_is}
use Rattle.wp_core.proofs.PendingVersions.{covers_same}
use Rattle.wp_core.proofs.PublishesVersions.{up_to_within}
use Rattle.wp_model.proofs.Tests.{none_some}
use Rattle.wp_parts.proofs.LaterVersions.{later_none, later_each, later_past}
use Rattle.wp_maint.specs.Calls.{NoneInMemory}
use Rattle.wp_maint.proofs.Versions.{Found, empty_list, all_found, length_sorted, distinct_later}

-- ---- in a sound world

module _ (w : World) (sound : IsSound w) where
  abbrev history : List Entry
  history = w.writes.history

  abbrev flushed : ℕ
  flushed = w.installed.last.flushed

  of_history : (key : List ℕ) (p : ℕ) (value : Option (List ℕ)) → p ≤ length history → version_at w.store.memory key p ≡ Some value → entry_version history p key ≡ Some value
  of_history key p value within there =
      sound.versions.covered.part key p value (up_to_within (length history) (w.store.memory ++ w.store.tables) key p within ∙ at_append w.store.memory w.store.tables key p ∙ ap (λ (o : Found). option_or o (version_at w.store.tables key p)) there)

  above_by : (key : List ℕ) (p : ℕ) (o : Found) → flushed < p → p ≤ length history → entry_version history p key ≡ o → version_at w.store.memory key p ≡ o
  above_by key p (Some value) above within is = sound.versions.in_memory key p value above is
  above_by key p None above within is = none_is (version_at w.store.memory key p) (λ v there. none_some (entry_version history p key) v is (of_history key p v within there))

  -- above the flushed number the history's versions are in memory
  pub above_is : (key : List ℕ) (p : ℕ) → flushed < p → p ≤ length history → version_at w.store.memory key p ≡ version_at (later_versions history flushed) key p
  above_is key p above within = above_by key p (entry_version history p key) above within refl ∙ sym (later_each history flushed key p sound.history.legal above)

  module _ (none : w.writes.pending ≡ []) (gone : NoneFlushed w.store.memory w.installed.last.flushed) where
    past_none : (key : List ℕ) (p : ℕ) → length history < p → version_at w.store.memory key p ≡ None
    past_none key p past =
        none_is (version_at w.store.memory key p) (λ v there. none_some (version_in (next_of w.writes.pending) key) v (ap (λ (es : List Entry). version_in (next_of es) key) none) (sound.versions.next key p v past there).1)

    memory_at : (key : List ℕ) (p : ℕ) → version_at w.store.memory key p ≡ version_at (later_versions history flushed) key p
    memory_at key p = elim (cases_lt flushed p) [
      | inr low ↦ gone key p low ∙ sym (later_none history flushed key p low)
      | inl above ↦ elim (cases_lt (length history) p) [
        | inr within ↦ above_is key p above within
        | inl past ↦ past_none key p past ∙ sym (later_past history flushed key p sound.history.legal sound.versions.last.flushed past)
      ]
    ]

    pub memory_is : (memory : List Version) → AreInOrder memory → w.store.memory ≡ memory → memory ≡ sorted_of (later_versions history flushed)
    memory_is memory ordered is =
        in_order_same memory (sorted_of (later_versions history flushed)) ordered (in_order_sorted (later_versions history flushed))
        (λ key p. ap (λ (m : List Version). version_at m key p) (sym is) ∙ memory_at key p ∙ sym (at_sorted (later_versions history flushed) key p))

-- ---- what is written of it

-- the versions of one table more, where it has some
with_at : (vs : List Version) (e : InstalledEdit) (key : List ℕ) (p : ℕ) → version_at (with_table vs e).versions key p ≡ version_at (vs ++ e.versions) key p
with_at [] e key p = refl
with_at (v ∷ vs) e key p = at_sorted (v ∷ vs ++ e.versions) key p

only : (n m : ℕ) → is_among (n ∷ []) m ≡ true → n ≡ m
only n m h = elim (or_cases (n == m) false h) [
  | inl here ↦ eqb-true n m here
  | inr never ↦ absurd cc
]

module _ (seen : List Entry) (legal : IsLegal seen) (e : InstalledEdit) (covered : IsEditCovered seen e) where
  abbrev later : List Version
  later = unflushed seen e

  numbered : (key : List ℕ) (p : ℕ) (value : Option (List ℕ)) → version_at later key p ≡ Some value → (e.flushed < p) × (p ≤ length seen)
  numbered key p value there = (low (cases_lt e.flushed p), high (cases_lt (length seen) p))
    where
      low : (e.flushed < p) ⊎ (p ≤ e.flushed) → e.flushed < p
      low (inl above) = above
      low (inr below) = absurd (none_some (version_at later key p) value (later_none seen e.flushed key p below) there)

      high : (length seen < p) ⊎ (p ≤ length seen) → p ≤ length seen
      high (inl past) = absurd (none_some (version_at later key p) value (later_past seen e.flushed key p legal covered.flushed past) there)
      high (inr within) = within

  -- of the sorted list too
  number_of : (v : Version) → version_at (sorted_of later) v.key v.number ≡ Some v.value → (e.flushed < v.number) × (v.number ≤ length seen)
  number_of v there = numbered v.key v.number v.value (sym (at_sorted later v.key v.number) ∙ there)

  pub all_numbered : list_all table.is_numbered (sorted_of later) ≡ true
  all_numbered = all_found table.is_numbered (sorted_of later) (in_order_sorted later) (λ v there. let n = number_of v there in let few = legal.few in grind (arith, n.0, n.1, few))

  pub all_flushed : list_all (table.is_flushed (length seen)) (sorted_of later) ≡ true
  all_flushed = all_found (table.is_flushed (length seen)) (sorted_of later) (in_order_sorted later) (λ v there. let n = number_of v there in grind (arith, n.1))

  pub count_is : length (sorted_of later) ≡ length later
  count_is = length_sorted later (distinct_later seen e.flushed legal)

  pub rises : 1 ≤ length (sorted_of later) → e.flushed < length seen
  rises some = by (sorted_of later) refl some
    where
      by : (vs : List Version) → sorted_of later ≡ vs → 1 ≤ length vs → e.flushed < length seen
      by [] is one = absurd (omega (arith, one))
      by (v ∷ vs) is one = let n = number_of v (ap (λ (l : List Version). version_at l v.key v.number) is ∙ own_value v vs) in omega (arith, n.0, n.1)

  -- ---- the edit

  same_or : (a b : Found) → ((v : Option (List ℕ)) → a ≡ Some v → (b ≡ None) ⊎ (b ≡ Some v)) → option_or a b ≡ option_or b a
  same_or None b agree = sym (nothing_behind b)
    where
      nothing_behind : (b : Found) → option_or b None ≡ b
      nothing_behind None = refl
      nothing_behind (Some v) = refl
  same_or (Some v) b agree = elim (agree v refl) [
    | inl none ↦ rw none refl
    | inr same ↦ rw same refl
  ]

  agree : (key : List ℕ) (p : ℕ) (v : Option (List ℕ)) → version_at e.versions key p ≡ Some v → (version_at later key p ≡ None) ⊎ (version_at later key p ≡ Some v)
  agree key p v there = elim (cases_lt e.flushed p) [
    | inr low ↦ inl (later_none seen e.flushed key p low)
    | inl above ↦ inr (later_each seen e.flushed key p legal above ∙ covered.covered.part key p v (at_append e.versions later key p ∙ ap (λ (o : Found). option_or o (version_at later key p)) there))
  ]

  nothing_left : (key : List ℕ) (p : ℕ) → version_at (later_versions seen (length seen)) key p ≡ None
  nothing_left key p = elim (cases_lt (length seen) p) [
    | inl past ↦ later_past seen (length seen) key p legal (omega arith) past
    | inr low ↦ later_none seen (length seen) key p low
  ]

  as_before : (key : List ℕ) (p : ℕ) → version_at ((after_flush seen e).versions ++ later_versions seen (length seen)) key p ≡ version_at (e.versions ++ later) key p
  as_before key p =
      at_append (after_flush seen e).versions (later_versions seen (length seen)) key p
      ∙ ap (option_or (version_at (after_flush seen e).versions key p)) (nothing_left key p)
      ∙ or_none key p (version_at (after_flush seen e).versions key p)
      ∙ at_sorted (later ++ e.versions) key p
      ∙ at_append later e.versions key p
      ∙ sym (same_or (version_at e.versions key p) (version_at later key p) (agree key p))
      ∙ sym (at_append e.versions later key p)

  pub flush_covered : IsEditCovered seen (after_flush seen e)
  flush_covered = record {
    base = let based = covered.base in let within = covered.flushed in omega (arith, based, within);
    flushed = omega arith;
    covered = covers_same (e.versions ++ later) ((after_flush seen e).versions ++ later_versions seen (length seen)) seen (e.segment.base ∷ []) (length seen) as_before covered.covered;
  }

  -- ---- the edit of a renewal

  renewed_before : (place : ℕ) (key : List ℕ) (p : ℕ) → version_at ((after_renewal seen place e).versions ++ later_versions seen (length seen)) key p ≡ version_at (e.versions ++ later) key p
  renewed_before place key p =
      at_append (after_renewal seen place e).versions (later_versions seen (length seen)) key p
      ∙ ap (option_or (version_at (after_renewal seen place e).versions key p)) (nothing_left key p)
      ∙ or_none key p (version_at (after_renewal seen place e).versions key p)
      ∙ with_at later e key p
      ∙ at_append later e.versions key p
      ∙ sym (same_or (version_at e.versions key p) (version_at later key p) (agree key p))
      ∙ sym (at_append e.versions later key p)

  -- readers at its base are those at the end of the history
  at_end : IsCovered (e.versions ++ later) seen (length seen ∷ []) (length seen)
  at_end = record {
    part = covered.covered.part;
    undecided = covered.covered.undecided;
    undone = covered.covered.undone;
    listed = λ key n among. let same = only (length seen) n among in covered.covered.later key n (omega (arith, same)) (omega (arith, same));
    later = covered.covered.later;
  }

  pub renewal_covered : (place : ℕ) → IsEditCovered seen (after_renewal seen place e)
  renewal_covered place = record {
    base = omega arith;
    flushed = omega arith;
    covered = covers_same (e.versions ++ later) ((after_renewal seen place e).versions ++ later_versions seen (length seen)) seen (length seen ∷ []) (length seen) (renewed_before place) at_end;
  }

  -- ---- nothing to write

  of_front : (front more : List Entry) → front ++ more ≡ seen → (key : List ℕ) (p : ℕ) (v : Option (List ℕ)) → entry_version front p key ≡ Some v → entry_version seen p key ≡ Some v
  of_front front more is key p v there = elim (cases_lt (length front) p) [
    | inl past ↦ absurd (none_some (entry_version front p key) v (ap (λ (x : Option Entry). version_in x key) (entry_at_past front p past)) there)
    | inr within ↦ ap (λ (h : List Entry). entry_version h p key) (sym is) ∙ entry_version_old front more p key within ∙ there
  ]

  none_before : later ≡ [] → (front more : List Entry) → front ++ more ≡ seen → unflushed front e ≡ []
  none_before none front more is = empty_list (unflushed front e) (λ key p. elim (cases_lt e.flushed p) [
    | inr low ↦ later_none front e.flushed key p low
    | inl above ↦
        later_each front e.flushed key p (legal_before front more (subst IsLegal (sym is) legal)) above
        ∙ none_is (entry_version front p key) (λ v there. none_some (version_at later key p) v (ap (λ (l : List Version). version_at l key p) none) (later_each seen e.flushed key p legal above ∙ of_front front more is key p v there))
  ])

  pub none_in_memory : later ≡ [] → NoneInMemory seen e
  none_in_memory none n = none_before none (take n seen) (drop n seen) (take-append-drop n seen)

-- what is sorted of nothing was nothing
pub sorted_none : (versions : List Version) → sorted_of versions ≡ [] → versions ≡ []
sorted_none versions is = empty_list versions (λ key p. sym (at_sorted versions key p) ∙ ap (λ (l : List Version). version_at l key p) is)
