-- Laws of a history with one entry more: what it decides, leaves undecided, and has under names and keys.
use Rattle.std.proofs.Common.{◌≡◌, ◌≢◌, ◌⊎◌, ⊎_elim, inl, inr, ℕ, suc, ◌+◌, ◌≤◌, ◌==◌, eq-eqb, ne_eqb, Bool, true, false, not, cond, true≢false, List, [], ◌∷◌, ◌++◌, length, refl, sym, subst, ap, ◌∙◌, Option, Some, None, filter, arith}
use Rattle.std.specs.Prelude.{unwrap_or, is_some}
use Rattle.std.specs.List.{find, range_with_len}
use Rattle.std.specs.Str.{bytes_eq}
use Rattle.std.proofs.lemmas.Bool.{cases_lt}
use Rattle.std.proofs.lemmas.Slice.Eq.{bytes_eq-Decides}
use Rattle.std.proofs.lemmas.List.{take-append-le}
use Rattle.std.proofs.Math.Seq.{take-length}
use mathlib.Core.Logic.{dite}
use native.Mathlib.Decide.{ℕ_discrete}
use Rattle.wp_model.specs.declared.change.Change.{Change}
use Rattle.wp_model.specs.declared.entry.Entry.{Entry}
use Rattle.wp_model.specs.declared.entry.Entry.TheVariants.{Write, Prepare, Commit, Undo, Close}
use Rattle.wp_model.specs.Batch.{key_of, value_of, change_to}
use Rattle.wp_model.specs.History.{entry_at, is_prepare, prepared_name, name_at, batch_at, decides, is_undecided, undecided, named, is_changed, holder_of, changes_of, newest, value_at}
use Rattle.wp_model.specs.Legal.{IsLegal, IsLegalNext, change_that_leaves, prior}
use Rattle.wp_model.specs.Decision.{decision_of, IsCommittedAt, version_in, entry_version}
use Rattle.wp_history_laws.specs.Growth.{undecided_after}
use Rattle.wp_history_laws.proofs.Growth.{entry_at_next, length_next, after_front, legal_before, decides_undecided, legal_naming}
use Rattle.wp_model.proofs.Entries.{entry_at_old, undecided_within, batch_at_old}
use Rattle.wp_history_laws.proofs.Undecided.{undecided_old, undecided_at_next, undecided_next}
use Rattle.wp_history_laws.proofs.Newest.{newest_next}
use Rattle.wp_core.specs.Lists.{IsIn}
use Rattle.wp_core.specs.Entries.{pair_by}
use Rattle.wp_core.proofs.Frames.{in_filter}
use Rattle.wp_core.proofs.HistoryLaws.{decided_late, decision_stays, decision_was, decision_within, decided_by_last}
use Rattle.wp_model.proofs.Tests.{one_not_other}
use Rattle.wp_judge.specs.Words.{commit_pair}

pub none_is : {A : Type 0} (o : Option A) → ((x : A) → o ≡ Some x → ⊥) → o ≡ None
none_is None never = refl
none_is (Some x) never = absurd (never x refl)

-- ---- finding numbers

find_same : (f g : ℕ → Bool) (xs : List ℕ) → ((q : ℕ) → IsIn q xs → g q ≡ f q) → find g xs ≡ find f xs
find_same f g [] same = refl
find_same f g (x ∷ xs) same =
    let rest : find g xs ≡ find f xs = find_same f g xs (λ q k. same q (inr k)) in
    ap (λ (b : Bool). cond b (Some x) (find g xs)) (same x (inl refl)) ∙ ap (λ (o : Option ℕ). cond (f x) (Some x) o) rest

find_kept : (f keep : ℕ → Bool) (xs : List ℕ) (p : ℕ) → keep p ≡ true → find f xs ≡ Some p → find f (filter keep xs) ≡ Some p
find_kept f keep [] p k e = e
find_kept f keep (x ∷ xs) p k e = by (f x) (keep x) refl refl e (find_kept f keep xs p k)
  where
    by : (b c : Bool) → f x ≡ b → keep x ≡ c → cond b (Some x) (find f xs) ≡ Some p → (find f xs ≡ Some p → find f (filter keep xs) ≡ Some p) → find f (cond c (x ∷ filter keep xs) (filter keep xs)) ≡ Some p
    by true true is kept h rest = ap (λ (t : Bool). cond t (Some x) (find f (filter keep xs))) is ∙ h
    by true false is kept h rest = let same : x ≡ p = cc in absurd (true≢false (sym k ∙ (ap keep (sym same) ∙ kept)))
    by false true is kept h rest = ap (λ (t : Bool). cond t (Some x) (find f (filter keep xs))) is ∙ rest h
    by false false is kept h rest = rest h

none_kept : (f keep : ℕ → Bool) (xs : List ℕ) → find f xs ≡ None → find f (filter keep xs) ≡ None
none_kept f keep [] e = e
none_kept f keep (x ∷ xs) e = by (f x) (keep x) refl e (none_kept f keep xs)
  where
    by : (b c : Bool) → f x ≡ b → cond b (Some x) (find f xs) ≡ None → (find f xs ≡ None → find f (filter keep xs) ≡ None) → find f (cond c (x ∷ filter keep xs) (filter keep xs)) ≡ None
    by true c is h rest = absurd cc
    by false true is h rest = ap (λ (t : Bool). cond t (Some x) (find f (filter keep xs))) is ∙ rest h
    by false false is h rest = rest h

find_front : (f : ℕ → Bool) (xs ys : List ℕ) (p : ℕ) → find f xs ≡ Some p → find f (xs ++ ys) ≡ Some p
find_front f [] ys p e = absurd cc
find_front f (x ∷ xs) ys p e = by (f x) e (find_front f xs ys p)
  where
    by : (b : Bool) → cond b (Some x) (find f xs) ≡ Some p → (find f xs ≡ Some p → find f (xs ++ ys) ≡ Some p) → cond b (Some x) (find f (xs ++ ys)) ≡ Some p
    by true h rest = h
    by false h rest = rest h

none_front : (f : ℕ → Bool) (xs : List ℕ) (y : ℕ) → find f xs ≡ None → f y ≡ false → find f (xs ++ y ∷ []) ≡ None
none_front f [] y e is = ap (λ (b : Bool). cond b (Some y) None) is
none_front f (x ∷ xs) y e is = by (f x) e (λ h. none_front f xs y h is)
  where
    by : (b : Bool) → cond b (Some x) (find f xs) ≡ None → (find f xs ≡ None → find f (xs ++ y ∷ []) ≡ None) → cond b (Some x) (find f (xs ++ y ∷ [])) ≡ None
    by true h rest = absurd cc
    by false h rest = rest h

swapped : (r p : ℕ) → (r == p) ≡ false → not (p == r) ≡ true
swapped r p e = dite (ℕ_discrete p r)
    (λ (q : p ≡ r). absurd (true≢false (sym (eq-eqb r p (sym q)) ∙ e)))
    (λ (ne : p ≢ r). ap not (ne_eqb p r ne))

module _ (history : List Entry) (entry : Entry) (legal : IsLegal (history ++ entry ∷ [])) where
  abbrev pub grown : List Entry
  grown = history ++ entry ∷ []

  abbrev pub next : ℕ
  next = suc (length history)

  pub before : IsLegal history
  before = legal_before history (entry ∷ []) legal

  pub after : IsLegalNext history entry
  after = after_front history entry [] legal

  pub grown_length : length grown ≡ next
  grown_length = length_next history entry ∙ (let q : length history + 1 ≡ suc (length history) = omega arith in q)

  pub at_next : entry_at grown next ≡ Some entry
  at_next = subst (λ (n : ℕ). entry_at grown n ≡ Some entry) (let q : length history + 1 ≡ suc (length history) = omega arith in q) (entry_at_next history entry)

  -- ---- decisions

  pub decision_old : (p c : ℕ) → c ≤ length history → decision_of grown p ≡ Some c → decision_of history p ≡ Some c
  decision_old p c le e = let late = decided_late grown p c legal e in decision_was history (entry ∷ []) p c (omega (arith, late, le)) le e

  -- what the longer history decides was decided, or the entry decides it
  pub decided_before_or_now : (p c : ℕ) → decision_of grown p ≡ Some c → (decision_of history p ≡ Some c) ⊎ ((c ≡ next) × (pair_by next entry ≡ Some (commit_pair p c)))
  decided_before_or_now p c e = elim (cases_lt (length history) c) [
    | inl past ↦
        let within = decision_within grown p c e in let l = grown_length in
        let same : c ≡ next = omega (arith, within, l, past) in
        let at : decision_of grown p ≡ Some next = e ∙ ap (λ (x : ℕ). Some x) same in
        inr (same, decided_by_last history entry p at ∙ ap (λ (x : ℕ). Some (commit_pair p x)) (sym same))
    | inr le ↦ inl (decision_old p c le e)
  ]

  pub committed_old : (p s : ℕ) → s ≤ length history → IsCommittedAt grown p s → IsCommittedAt history p s
  committed_old p s le k = let w = k.within in record { by = k.by; decided = decision_old p k.by (omega (arith, w, le)) k.decided; within = w }

  pub committed_stays : (p s t : ℕ) → s ≤ t → IsCommittedAt history p s → IsCommittedAt grown p t
  committed_stays p s t le k = let w = k.within in record { by = k.by; decided = decision_stays history (entry ∷ []) p k.by k.decided; within = omega (arith, w, le) }

  -- what is committed by the longer history, at its end
  pub committed_before_or_now : (p : ℕ) → IsCommittedAt grown p next → IsCommittedAt history p (length history) ⊎ (pair_by next entry ≡ Some (commit_pair p next))
  committed_before_or_now p k = ⊎_elim
      (λ (d : decision_of history p ≡ Some k.by). inl record { by = k.by; decided = d; within = decision_within history p k.by d })
      (λ (d : (k.by ≡ next) × (pair_by next entry ≡ Some (commit_pair p k.by))). inr (d.1 ∙ ap (λ (x : ℕ). Some (commit_pair p x)) d.0))
      (decided_before_or_now p k.by k.decided)

  -- ---- what stays undecided

  pub not_by_itself : decides next entry ≡ false
  not_by_itself = by (decides next entry) refl
    where
      by : (b : Bool) → decides next entry ≡ b → b ≡ false
      by true e = let k = undecided_within history next (decides_undecided history entry next after.orderly.names_undecided e) in absurd (omega (arith, k.1))
      by false e = refl

  pub undecided_before_or_now : (p : ℕ) → is_undecided grown p ≡ true → ((p ≤ length history) × (is_undecided history p ≡ true) × (decides p entry ≡ false)) ⊎ ((p ≡ next) × (is_prepare (Some entry) ≡ true))
  undecided_before_or_now p u = elim (cases_lt (length history) p) [
    | inl past ↦
        let within = (undecided_within grown p u).1 in let l = grown_length in
        let same : p ≡ length history + 1 = omega (arith, within, l, past) in
        let other : decides (length history + 1) entry ≡ false = ap (λ (x : ℕ). decides x entry) (let q : length history + 1 ≡ suc (length history) = omega arith in q) ∙ not_by_itself in
        inr (omega (arith, same), sym (undecided_at_next history entry before other) ∙ (ap (is_undecided grown) (sym same) ∙ u))
    | inr le ↦ let k = one_not_other (is_undecided history p) (decides p entry) (sym (undecided_old history entry p le) ∙ u) in inl (le, k.0, k.1)
  ]

  -- ---- names and keys of undecided prepares

  pub name_at_old : (p : ℕ) → p ≤ length history → name_at grown p ≡ name_at history p
  name_at_old p le = ap prepared_name (entry_at_old history (entry ∷ []) p le)

  pub batch_at_grown : (p : ℕ) → p ≤ length history → batch_at grown p ≡ batch_at history p
  batch_at_grown p le = batch_at_old history (entry ∷ []) p le

  is_within : (q : ℕ) → IsIn q (undecided history) → q ≤ length history
  is_within q k = (undecided_within history q (in_filter (is_undecided history) q (range_with_len 1 (length history)) k).1).1

  module _ (f g : ℕ → Bool) (same : (q : ℕ) → q ≤ length history → g q ≡ f q) where
    same_old : find g (undecided history) ≡ find f (undecided history)
    same_old = find_same f g (undecided history) (λ q k. same q (is_within q k))

    some_after : (x : Entry) (p : ℕ) → find g (undecided history) ≡ Some p → decides p x ≡ false → find g (undecided_after (undecided history) (length history + 1) x) ≡ Some p
    some_after (Write batch) p e other = e
    some_after (Prepare name batch) p e other = find_front g (undecided history) ((length history + 1) ∷ []) p e
    some_after (Commit r) p e other = find_kept g (λ (q : ℕ). not (q == r)) (undecided history) p (swapped r p other) e
    some_after (Undo r batch) p e other = e
    some_after (Close r) p e other = find_kept g (λ (q : ℕ). not (q == r)) (undecided history) p (swapped r p other) e

    none_after : (x : Entry) → find g (undecided history) ≡ None → (is_prepare (Some x) ≡ true → g (length history + 1) ≡ false) → find g (undecided_after (undecided history) (length history + 1) x) ≡ None
    none_after (Write batch) e new = e
    none_after (Prepare name batch) e new = none_front g (undecided history) (length history + 1) e (new refl)
    none_after (Commit r) e new = none_kept g (λ (q : ℕ). not (q == r)) (undecided history) e
    none_after (Undo r batch) e new = e
    none_after (Close r) e new = none_kept g (λ (q : ℕ). not (q == r)) (undecided history) e

    find_stays : (p : ℕ) → find f (undecided history) ≡ Some p → decides p entry ≡ false → find g (undecided grown) ≡ Some p
    find_stays p e other = ap (find g) (undecided_next history entry before after.orderly.names_undecided) ∙ some_after entry p (same_old ∙ e) other

    none_stays : find f (undecided history) ≡ None → (is_prepare (Some entry) ≡ true → g next ≡ false) → find g (undecided grown) ≡ None
    none_stays e new = ap (find g) (undecided_next history entry before after.orderly.names_undecided) ∙ none_after entry (same_old ∙ e) (λ is. ap g (let q : length history + 1 ≡ suc (length history) = omega arith in q) ∙ new is)

  pub named_stays : (name : List ℕ) (p : ℕ) → named history name ≡ Some p → decides p entry ≡ false → named grown name ≡ Some p
  named_stays name p e other = find_stays (λ (q : ℕ). bytes_eq (name_at history q) name) (λ (q : ℕ). bytes_eq (name_at grown q) name) (λ q le. ap (λ (x : List ℕ). bytes_eq x name) (name_at_old q le)) p e other

  pub unnamed_stays : (name : List ℕ) → named history name ≡ None → (is_prepare (Some entry) ≡ true → bytes_eq (prepared_name (Some entry)) name ≡ false) → named grown name ≡ None
  unnamed_stays name e new = none_stays (λ (q : ℕ). bytes_eq (name_at history q) name) (λ (q : ℕ). bytes_eq (name_at grown q) name) (λ q le. ap (λ (x : List ℕ). bytes_eq x name) (name_at_old q le)) e
      (λ is. ap (λ (x : Option Entry). bytes_eq (prepared_name x) name) at_next ∙ new is)

  pub free_stays : (key : List ℕ) → holder_of history key ≡ None → (is_prepare (Some entry) ≡ true → is_changed (batch_at grown next) key ≡ false) → holder_of grown key ≡ None
  free_stays key e new = none_stays (λ (q : ℕ). is_changed (batch_at history q) key) (λ (q : ℕ). is_changed (batch_at grown q) key) (λ q le. ap (λ (x : List Change). is_changed x key) (batch_at_grown q le)) e new

  -- ---- values

  pub version_new : (key : List ℕ) → entry_version grown next key ≡ version_in (Some entry) key
  version_new key = ap (λ (o : Option Entry). version_in o key) at_next

  pub value_old : (key : List ℕ) (n : ℕ) → n ≤ length history → value_at grown key n ≡ value_at history key n
  value_old key n le = ap (λ (h : List Entry). newest h key) (take-append-le n history (entry ∷ []) le)

  pub value_whole : (h : List Entry) (key : List ℕ) → value_at h key (length h) ≡ newest h key
  value_whole h key = ap (λ (x : List Entry). newest x key) (take-length h)

  pub value_new : (key : List ℕ) → value_at grown key next ≡ unwrap_or (change_to (changes_of history entry) key) (value_at history key (length history))
  value_new key = ap (value_at grown key) (sym grown_length) ∙ (value_whole grown key ∙ (newest_next history entry key (legal_naming history before.each) after.orderly.names_undecided ∙ ap (λ (v : Option (List ℕ)). unwrap_or (change_to (changes_of history entry) key) v) (sym (value_whole history key))))

  pub newest_kept : (key : List ℕ) → change_to (changes_of history entry) key ≡ None → newest grown key ≡ newest history key
  newest_kept key none = newest_next history entry key (legal_naming history before.each) after.orderly.names_undecided ∙ ap (λ (o : Option (Option (List ℕ))). unwrap_or o (newest history key)) none

-- ---- what a batch would restore

same_key : (key : List ℕ) → bytes_eq key key ≡ true
same_key key = (bytes_eq-Decides key key).1 refl

more_changed : (first : Change) (others : List Change) (key : List ℕ) → is_changed others key ≡ true → is_changed (first ∷ others) key ≡ true
more_changed first others key k = by (bytes_eq (key_of first) key)
  where
    by : (b : Bool) → is_some (cond b (Some (value_of first)) (change_to others key)) ≡ true
    by true = refl
    by false = k

pub prior_same : (h g : List Entry) (batch : List Change) → ((key : List ℕ) → is_changed batch key ≡ true → newest g key ≡ newest h key) → prior g batch ≡ prior h batch
prior_same h g [] same = refl
prior_same h g (first ∷ others) same =
    let here : newest g (key_of first) ≡ newest h (key_of first) = same (key_of first) (ap (λ (b : Bool). is_some (cond b (Some (value_of first)) (change_to others (key_of first)))) (same_key (key_of first))) in
    let rest : prior g others ≡ prior h others = prior_same h g others (λ key k. same key (more_changed first others key k)) in
    λ i. change_that_leaves (key_of first) (here i) ∷ rest i
