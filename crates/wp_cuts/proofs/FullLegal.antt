-- The full list of a legal cut is legal, where the versions lie below what the cut carries; and the other way round.
use Rattle.std.proofs.Common.{◌≡◌, ℕ, zero, suc, ◌+◌, ◌-◌, ◌<◌, ◌≤◌, Bool, true, false, List, [], ◌∷◌, ◌++◌, length, take, drop, Option, Some, None, refl, sym, ap, ◌∙◌, subst, inl, inr, length-append, arith}
use Rattle.std.specs.Prelude.{slice_get, is_some}
use Rattle.std.specs.Str.{bytes_eq}
use Rattle.std.proofs.lemmas.Bool.{cases_lt, cases_order}
use Rattle.std.proofs.lemmas.List.{take-append-le, take-append-drop}
use Rattle.std.proofs.lemmas.Option.{same_Some, slice_get_within}
use Rattle.std.proofs.lemmas.Slice.Eq.{bytes_eq-Decides}
use Rattle.wp_model.specs.declared.carried.Carried.{Carried}
use Rattle.wp_model.specs.declared.change.Change.{Change}
use Rattle.wp_model.specs.declared.entry.Entry.{Entry}
use Rattle.wp_model.specs.declared.version.Version.{Version}
use Rattle.wp_model.specs.Batch.{key_of}
use Rattle.wp_model.specs.History.{prepared_name, prepared_batch, name_at, batch_at, is_undecided, named, is_changed, holder_of}
use Rattle.wp_model.specs.Legal.{NamesUndecided, RestoresPrior, AreFree, IsOrderlyNext, IsLegalNext, IsLegal, log_end}
use Rattle.wp_model.specs.Versions.{AreInOrder, version_at}
use Rattle.wp_model.proofs.Entries.{slice_get_old}
use Rattle.wp_model.proofs.Found.{found_holder, found_named}
use Rattle.wp_history_laws.proofs.Held.{not_free, free_key}
use Rattle.wp_history_laws.proofs.Following.{Follow, follows, follow_front, follow_take, follow_next}
use Rattle.wp_history_laws.proofs.Growth.{AreNaming}
use Rattle.wp_cuts.specs.Cut.{Cut, carried_at, is_carried, base_value, changes_at, front_entry_of, front_entry, full_of}
use Rattle.wp_cuts.specs.LegalCut.{AreNumbered, AreApart, cut_front, prepares_of, IsOrderlyCut, IsLegalCut, AreBelow}
use Rattle.wp_cuts.proofs.Alike.{alike_back, names_alike, orderly_alike}
use Rattle.wp_cuts.proofs.Decided.{slice_get_behind}
use Rattle.wp_cuts.proofs.Agreeing.{take_behind}
use Rattle.wp_cuts.proofs.Rows.{start_names}
use Rattle.wp_cuts.proofs.Versions.{changes_to, changes_ascend}
use Rattle.wp_cuts.proofs.FullList.{front, full_is, starts, front_long, front_at, front_undone, front_take, numbered_low, carried_in, carried_undecided, carried_entry, full_is_cut, full_value, fixed_from, fixed_parts}
use Rattle.wp_cuts.proofs.Standing.{StandsFor, stands_for, restores_to}
use Rattle.wp_cuts.proofs.LegalCuts.{cut_is_legal}

-- ---- what is free

free_from : (before : List Entry) (changes : List Change) → ((key : List ℕ) → is_changed changes key ≡ true → holder_of before key ≡ None) → AreFree before changes
free_from before [] free = tt
free_from before (change ∷ changes) free = (free (key_of change) first, free_from before changes (λ key changed. free key (others key changed)))
  where
    first : is_changed (change ∷ changes) (key_of change) ≡ true
    first = rw ((bytes_eq-Decides (key_of change) (key_of change)).1 refl) refl

    others : (key : List ℕ) → is_changed changes key ≡ true → is_changed (change ∷ changes) key ≡ true
    others key changed = by (bytes_eq (key_of change) key) refl
      where
        by : (b : Bool) → bytes_eq (key_of change) key ≡ b → is_changed (change ∷ changes) key ≡ true
        by true e = rw e refl
        by false e = rw e changed

unheld : (before : List Entry) (key : List ℕ) → ((p : ℕ) → is_undecided before p ≡ true → is_changed (batch_at before p) key ≡ true → ⊥) → holder_of before key ≡ None
unheld before key none = by (holder_of before key) refl
  where
    by : (o : Option ℕ) → holder_of before key ≡ o → o ≡ None
    by None e = refl
    by (Some p) e = let found = found_holder before key p e in absurd (none p found.0 found.1)

unnamed : (before : List Entry) (name : List ℕ) → ((p : ℕ) → is_undecided before p ≡ true → name_at before p ≡ name → ⊥) → named before name ≡ None
unnamed before name none = by (named before name) refl
  where
    by : (o : Option ℕ) → named before name ≡ o → o ≡ None
    by None e = refl
    by (Some p) e = let found = found_named before name p e in absurd (none p found.0 ((bytes_eq-Decides (name_at before p) name).0 found.1))

-- ---- entry by entry

-- each entry of the full list may follow, where each of the front may, and each behind it
pub follow_full : (Next : List Entry → Entry → Type 0) (c : Cut) (versions : List Version)
    → ((n : ℕ) → n < c.base → Next (front c versions n) (front_entry c versions (suc n)))
    → ((n : ℕ) (entry : Entry) → slice_get c.entries n ≡ Some entry → Next (front c versions c.base ++ take n c.entries) entry)
    → Follow Next (full_of c versions)
follow_full Next c versions below behind = subst (Follow Next) (sym (full_is c versions)) each
  where
    long : length (front c versions c.base) ≡ c.base
    long = front_long c versions c.base

    each : Follow Next (front c versions c.base ++ c.entries)
    each n entry at = elim (cases_lt n c.base) [
      | inl lt ↦
          let there : Some (front_entry c versions (suc n)) ≡ Some entry = sym (front_at c versions c.base (suc n) (omega arith) (omega arith)) ∙ sym (slice_get_old (front c versions c.base) c.entries n (omega (arith, long))) ∙ at in
          let its = same_Some (front_entry c versions (suc n)) entry there in
          let before : take n (front c versions c.base ++ c.entries) ≡ front c versions n = take-append-le n (front c versions c.base) c.entries (omega (arith, long)) ∙ front_take c versions n c.base (omega arith) in
          subst (λ (h : List Entry). Next h entry) (sym before) (subst (Next (front c versions n)) its (below n lt))
      | inr ge ↦
          let k = n - c.base in
          let place : n - length (front c versions c.base) ≡ k = ap (λ (m : ℕ). n - m) long in
          let there : slice_get c.entries k ≡ Some entry = ap (slice_get c.entries) (sym place) ∙ sym (slice_get_behind (front c versions c.base) c.entries n (omega (arith, long))) ∙ at in
          let within = slice_get_within (front c versions c.base ++ c.entries) n entry at in
          let before : take n (front c versions c.base ++ c.entries) ≡ front c versions c.base ++ take k c.entries =
          take_behind (front c versions c.base) c.entries n (omega (arith, long)) (omega (arith, within)) ∙ ap (λ (m : ℕ). front c versions c.base ++ take m c.entries) place in
          subst (λ (h : List Entry). Next h entry) (sym before) (behind k entry there)
    ]

module _ (c : Cut) (versions : List Version) (order : AreInOrder versions) (below : AreBelow c versions) (numbered : AreNumbered c) (apart : AreApart c) where
  -- no carried prepare up to n has a key of the next Write
  write_free : (n : ℕ) → n < c.base → is_carried c (suc n) ≡ false → AreFree (front c versions n) (changes_at versions (suc n))
  write_free n lt other = free_from (front c versions n) (changes_at versions (suc n)) (λ key changed. unheld (front c versions n) key (λ p undecided held.
      let it = carried_in c versions n p undecided in
      let its : is_changed it.of.batch key ≡ true = ap (λ (o : Option Entry). is_changed (prepared_batch o) key) (sym it.there) ∙ held in
      let above : suc n < p = at key p it.of (version_at versions key (suc n)) refl (ap is_some (sym (changes_to versions (suc n) key)) ∙ changed) it.found its in
      let within = it.within in
      omega (arith, above, within)))
    where
      at : (key : List ℕ) (p : ℕ) (x : Carried) (o : Option (Option (List ℕ))) → version_at versions key (suc n) ≡ o → is_some (version_at versions key (suc n)) ≡ true → carried_at c p ≡ Some x → is_changed x.batch key ≡ true → suc n < p
      at key p x None is some found held = let none : is_some (version_at versions key (suc n)) ≡ false = ap is_some is in absurd cc
      at key p x (Some value) is some found held = below key (suc n) p value x is (fixed_from c (suc n) (omega arith) (omega arith) other) found held

  prepare_free : (n : ℕ) (x : Carried) → carried_at c (suc n) ≡ Some x → AreFree (front c versions n) x.batch
  prepare_free n x found = free_from (front c versions n) x.batch (λ key changed. unheld (front c versions n) key (λ p undecided held.
      let it = carried_in c versions n p undecided in
      let its : is_changed it.of.batch key ≡ true = ap (λ (o : Option Entry). is_changed (prepared_batch o) key) (sym it.there) ∙ held in
      let same = apart.keys p (suc n) it.of x key it.found found its changed in
      let within = it.within in
      omega (arith, same, within)))

  prepare_unnamed : (n : ℕ) (x : Carried) → carried_at c (suc n) ≡ Some x → named (front c versions n) x.name ≡ None
  prepare_unnamed n x found = unnamed (front c versions n) x.name (λ p undecided has.
      let it = carried_in c versions n p undecided in
      let its : it.of.name ≡ x.name = ap prepared_name (sym it.there) ∙ has in
      let same = apart.names p (suc n) it.of x it.found found its in
      let within = it.within in
      omega (arith, same, within))

  front_legal_by : (n : ℕ) → n < c.base → (o : Option Carried) → carried_at c (suc n) ≡ o → IsLegalNext (front c versions n) (front_entry_of versions (suc n) o)
  front_legal_by n lt None is = record {
    orderly = record {
      ascending = changes_ascend versions (suc n) order;
      names_undecided = tt;
      undo_is_closed = front_undone c versions n;
      keys_are_free = write_free n lt (ap is_some is);
    };
    restores_prior = tt;
  }
  front_legal_by n lt (Some x) is = record {
    orderly = record {
      ascending = apart.ascending (suc n) x is;
      names_undecided = tt;
      undo_is_closed = front_undone c versions n;
      keys_are_free = (prepare_free n x is, prepare_unnamed n x is);
    };
    restores_prior = tt;
  }

-- ---- an orderly cut

-- what it says of its entries is that each may follow those before it
abbrev Follows : Cut → List Entry → Entry → Type 0
Follows c entries entry = IsOrderlyNext (prepares_of (record c { entries = entries })) entry

pub orderly_front : (c : Cut) (n : ℕ) → IsOrderlyCut c → IsOrderlyCut (cut_front c n)
orderly_front c n orderly = record {
  few = let parts : length (take n c.entries ++ drop n c.entries) ≡ length c.entries = ap length (take-append-drop n c.entries) in omega (arith, orderly.few, parts, length-append (take n c.entries) (drop n c.entries));
  numbered = record { ascend = orderly.numbered.ascend; within = orderly.numbered.within };
  apart = record { ascending = orderly.apart.ascending; names = orderly.apart.names; keys = orderly.apart.keys };
  each = follow_take (Follows c) n c.entries orderly.each;
}

pub orderly_next : (c : Cut) (entry : Entry) → IsOrderlyCut c → IsOrderlyNext (prepares_of c) entry → c.base + length c.entries + 1 < log_end → IsOrderlyCut (record c { entries = c.entries ++ entry ∷ [] })
orderly_next c entry orderly after few = record {
  few = omega (arith, few, length-append c.entries (entry ∷ []));
  numbered = record { ascend = orderly.numbered.ascend; within = orderly.numbered.within };
  apart = record { ascending = orderly.apart.ascending; names = orderly.apart.names; keys = orderly.apart.keys };
  each = follow_next (Follows c) c.entries entry orderly.each after;
}

pub orderly_before : (c : Cut) (more : List Entry) → IsOrderlyCut (record c { entries = c.entries ++ more }) → IsOrderlyCut c
orderly_before c more orderly = record {
  few = omega (arith, orderly.few, length-append c.entries more);
  numbered = record { ascend = orderly.numbered.ascend; within = orderly.numbered.within };
  apart = record { ascending = orderly.apart.ascending; names = orderly.apart.names; keys = orderly.apart.keys };
  each = follow_front (Follows c) c.entries more orderly.each;
}

pub orderly_at : (c : Cut) (more : List Entry) (entry : Entry) → IsOrderlyCut (record c { entries = c.entries ++ entry ∷ more }) → IsOrderlyNext (prepares_of c) entry
orderly_at c more entry orderly = follows (Follows c) c.entries entry more orderly.each

-- the list of its prepares follows the rule that decisions find them
prepares_naming : (c : Cut) → IsOrderlyCut c → AreNaming (prepares_of c)
prepares_naming c orderly =
    follow_full NamesUndecided c [] (λ n lt. start_names (front c [] n) (front_entry c [] (suc n)) (starts c [] (suc n)))
    (λ n entry at. subst (λ (h : List Entry). NamesUndecided h entry) (full_is (cut_front c n) []) (orderly.each n entry at).names_undecided)

-- each full list of it is like that list, and follows that rule
pub orderly_stands : (c : Cut) (versions : List Version) → IsOrderlyCut c → StandsFor (prepares_of c) c versions
orderly_stands c versions orderly = stands_for (prepares_of c) c versions (prepares_naming c orderly) (full_is_cut c [] orderly.numbered)

-- so what may follow one full list may follow each
pub orderly_over : (c : Cut) (one other : List Version) (entry : Entry) → IsOrderlyCut c → IsOrderlyNext (full_of c one) entry → IsOrderlyNext (full_of c other) entry
orderly_over c one other entry orderly after =
    orderly_alike (prepares_of c) (full_of c other) entry (orderly_stands c other orderly).alike
    (orderly_alike (full_of c one) (prepares_of c) entry (alike_back (prepares_of c) (full_of c one) (orderly_stands c one orderly).alike) after)

-- ---- the full list

-- the full list of an orderly cut is legal where each undo behind the base restores what a key had
pub full_is_legal_by : (c : Cut) (versions : List Version) → AreInOrder versions → AreBelow c versions → IsOrderlyCut c
    → ((n : ℕ) (entry : Entry) → slice_get c.entries n ≡ Some entry → RestoresPrior (full_of (cut_front c n) versions) entry) → IsLegal (full_of c versions)
full_is_legal_by c versions order below orderly restores = record {
  few = omega (arith, orderly.few, ap length (full_is c versions), length-append (front c versions c.base) c.entries, front_long c versions c.base);
  each = follow_full IsLegalNext c versions (λ n lt. front_legal_by c versions order below orderly.numbered orderly.apart n lt (carried_at c (suc n)) refl) behind;
}
  where
    behind : (n : ℕ) (entry : Entry) → slice_get c.entries n ≡ Some entry → IsLegalNext (front c versions c.base ++ take n c.entries) entry
    behind n entry at =
        let d = cut_front c n in
        let P : List Entry → Type 0 = λ h. IsLegalNext h entry in
        subst P (full_is d versions) (record {
          orderly = orderly_alike (prepares_of d) (full_of d versions) entry (orderly_stands d versions (orderly_front c n orderly)).alike (orderly.each n entry at);
          restores_prior = restores n entry at;
        })

pub full_is_legal : (c : Cut) (versions : List Version) → AreInOrder versions → AreBelow c versions → IsLegalCut c (base_value c versions) → IsLegal (full_of c versions)
full_is_legal c versions order below legal = full_is_legal_by c versions order below legal.orderly restores
  where
    restores : (n : ℕ) (entry : Entry) → slice_get c.entries n ≡ Some entry → RestoresPrior (full_of (cut_front c n) versions) entry
    restores n entry at =
        let d = cut_front c n in
        let orderly = orderly_front c n legal.orderly in
        let stands = orderly_stands d versions orderly in
        let names = names_alike (prepares_of d) (full_of d versions) entry stands.alike (legal.orderly.each n entry at).names_undecided in
        restores_to (full_of d versions) d (base_value c versions) stands.naming (full_is_cut d versions orderly.numbered) (λ key. full_value d versions key orderly.numbered order) entry names (legal.restores n entry at)

-- ---- the other way round

pub full_is_legal_cut : (c : Cut) (versions : List Version) → AreInOrder versions → AreNumbered c → IsLegal (full_of c versions) → IsLegalCut c (base_value c versions)
full_is_legal_cut c versions order numbered legal = cut_is_legal (full_of c versions) c (base_value c versions) legal (full_is_cut c versions numbered) (λ key. full_value c versions key numbered order)

-- what the list has at a number up to the base may follow what it has below
pub front_follows : (Next : List Entry → Entry → Type 0) (c : Cut) (versions : List Version) (n : ℕ) → n < c.base → Follow Next (full_of c versions) → Next (front c versions n) (front_entry c versions (suc n))
front_follows Next c versions n lt each =
    let long = front_long c versions c.base in
    let all : Follow Next (front c versions c.base ++ c.entries) = subst (Follow Next) (full_is c versions) each in
    let before : take n (front c versions c.base ++ c.entries) ≡ front c versions n = take-append-le n (front c versions c.base) c.entries (omega (arith, long)) ∙ front_take c versions n c.base (omega arith) in
    subst (λ (h : List Entry). Next h (front_entry c versions (suc n))) before
    (all n (front_entry c versions (suc n)) (slice_get_old (front c versions c.base) c.entries n (omega (arith, long)) ∙ front_at c versions c.base (suc n) (omega arith) (omega arith)))

pub full_is_below : (c : Cut) (versions : List Version) → AreNumbered c → IsLegal (full_of c versions) → AreBelow c versions
full_is_below c versions numbered legal key q p value x there fixed found changed =
    elim (cases_order q p) [
      | inl same ↦ let no = (fixed_parts c q fixed).other in let yes : is_carried c q ≡ true = ap (is_carried c) same ∙ ap is_some found in absurd cc
      | inr apart ↦ elim apart [
        | inl lt ↦ lt
        | inr above ↦ absurd (not_above q (fixed_parts c q fixed).low (fixed_parts c q fixed).within (fixed_parts c q fixed).other there above)
      ]
    ]
  where
    low : 1 ≤ p
    low = numbered_low c p x numbered found

    not_above : (m : ℕ) → 1 ≤ m → m ≤ c.base → is_carried c m ≡ false → version_at versions key m ≡ Some value → p < m → ⊥
    not_above zero first within other is above = absurd (omega arith)
    not_above (suc n) first within other is above =
        let after = front_follows IsLegalNext c versions n (omega arith) legal.each in
        let held : is_changed (batch_at (front c versions n) p) key ≡ true = ap (λ (o : Option Entry). is_changed (prepared_batch o) key) (carried_entry c versions n p x low (omega arith) found) ∙ changed in
        by (carried_at c (suc n)) refl after (λ free. not_free (front c versions n) key p (carried_undecided c versions n p x low (omega arith) found) held (free_key (front c versions n) (changes_at versions (suc n)) key free (ap is_some (changes_to versions (suc n) key ∙ is))))
      where
        by : (o : Option Carried) → carried_at c (suc n) ≡ o → IsLegalNext (front c versions n) (front_entry_of versions (suc n) o) → (AreFree (front c versions n) (changes_at versions (suc n)) → ⊥) → ⊥
        by None e after never = never after.orderly.keys_are_free
        by (Some y) e after never = let yes : is_carried c (suc n) ≡ true = ap is_some e in absurd cc
