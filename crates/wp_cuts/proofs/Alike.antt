-- Two lists that differ below a base alone: what is the same with entries that follow both.
use Rattle.std.proofs.Common.{◌≡◌, ℕ, ◌+◌, ◌<◌, Bool, true, false, ◌&&◌, not, List, [], ◌∷◌, ◌++◌, length, Option, Some, refl, sym, ap, ◌∙◌, subst, inl, inr, append_assoc, append-nil, arith}
use Rattle.std.specs.Prelude.{unwrap_or}
use Rattle.std.specs.List.{filter, find, range_with_len}
use Rattle.std.specs.Str.{bytes_eq}
use Rattle.std.proofs.lemmas.Bool.{cases_order, cases_Bool, and_parts, false_from_ne_true}
use Rattle.wp_model.specs.declared.change.Change.{Change}
use Rattle.wp_model.specs.declared.entry.Entry.{Entry}
use Rattle.wp_model.specs.declared.entry.Entry.TheVariants.{Write, Prepare, Commit, Undo, Close}
use Rattle.wp_model.specs.Batch.{key_of, change_to}
use Rattle.wp_model.specs.History.{entry_at, is_prepare, prepared_name, prepared_batch, name_at, batch_at, decides, is_undecided, undecided, named, is_changed, holder_of, changes_of, newest}
use Rattle.wp_model.specs.Legal.{NamesUndecided, UndoIsClosed, AreFree, KeysAreFree, undone_last, IsOrderlyNext}
use Rattle.wp_model.proofs.Entries.{entry_at_old, undecided_within}
use Rattle.wp_history_laws.proofs.Growth.{entry_at_next, length_next, decided_next, AreNaming}
use Rattle.wp_history_laws.proofs.Undecided.{undecided_old, never_decided, not_decided_by}
use Rattle.wp_history_laws.proofs.Undone.{undone_next}
use Rattle.wp_history_laws.proofs.Following.{follow_front, follows, follow_next}
use Rattle.wp_history_laws.proofs.Newest.{newest_next}

-- as long, with the same undecided prepares, each with its name and its batch, and the same undo last
pub record AreAlike (one other : List Entry) : Type 0 where
  pub long : length one ≡ length other
  pub same : (p : ℕ) → is_undecided one p ≡ is_undecided other p
  pub prepares : (p : ℕ) → is_undecided one p ≡ true → entry_at one p ≡ entry_at other p
  pub undone : undone_last one ≡ undone_last other

pub alike_back : (one other : List Entry) → AreAlike one other → AreAlike other one
alike_back one other a = record {
  long = sym a.long;
  same = λ p. sym (a.same p);
  prepares = λ p undecided. sym (a.prepares p (a.same p ∙ undecided));
  undone = sym a.undone;
}

-- ---- with an entry that follows both

undecided_past : (history : List Entry) (p : ℕ) → length history < p → is_undecided history p ≡ false
undecided_past history p past = false_from_ne_true _ (λ h. let within = undecided_within history p h in absurd (omega (arith, within.1)))

and_true : (b : Bool) → (b && true) ≡ b
and_true true = refl
and_true false = refl

undecided_at_next : (history : List Entry) (entry : Entry) → AreNaming history → NamesUndecided history entry → is_undecided (history ++ entry ∷ []) (length history + 1) ≡ is_prepare (Some entry)
undecided_at_next history entry naming names =
    rw (entry_at_next history entry, decided_next history entry (length history + 1), never_decided history (length history + 1) naming (omega arith), not_decided_by history entry (length history + 1) names (omega arith)) (and_true (is_prepare (Some entry)))

module _ (one other : List Entry) (entry : Entry) (a : AreAlike one other) (naming : AreNaming one) (also : AreNaming other) (names : NamesUndecided one entry) (too : NamesUndecided other entry) where
  same_next : (p : ℕ) → is_undecided (one ++ entry ∷ []) p ≡ is_undecided (other ++ entry ∷ []) p
  same_next p = elim (cases_order p (length one + 1)) [
    | inl here ↦ ap (is_undecided (one ++ entry ∷ [])) here ∙ undecided_at_next one entry naming names ∙ sym (undecided_at_next other entry also too) ∙ ap (is_undecided (other ++ entry ∷ [])) (let e : length other + 1 ≡ p = omega (arith, a.long) in e)
    | inr apart ↦ elim apart [
      | inl below ↦ undecided_old one entry p (omega arith) ∙ ap (λ (b : Bool). b && not (decides p entry)) (a.same p) ∙ sym (undecided_old other entry p (omega (arith, a.long)))
      | inr past ↦ undecided_past (one ++ entry ∷ []) p (omega (arith, length_next one entry)) ∙ sym (undecided_past (other ++ entry ∷ []) p (omega (arith, length_next other entry, a.long)))
    ]
  ]

  prepares_next : (p : ℕ) → is_undecided (one ++ entry ∷ []) p ≡ true → entry_at (one ++ entry ∷ []) p ≡ entry_at (other ++ entry ∷ []) p
  prepares_next p undecided = elim (cases_order p (length one + 1)) [
    | inl here ↦ ap (entry_at (one ++ entry ∷ [])) here ∙ entry_at_next one entry ∙ sym (entry_at_next other entry) ∙ ap (entry_at (other ++ entry ∷ [])) (let e : length other + 1 ≡ p = omega (arith, a.long) in e)
    | inr apart ↦ elim apart [
      | inl below ↦
          let before = and_parts (is_undecided one p) (not (decides p entry)) (sym (undecided_old one entry p (omega arith)) ∙ undecided) in
          entry_at_old one (entry ∷ []) p (omega arith) ∙ a.prepares p before.0 ∙ sym (entry_at_old other (entry ∷ []) p (omega (arith, a.long)))
      | inr past ↦ let none = undecided_past (one ++ entry ∷ []) p (omega (arith, length_next one entry)) in absurd cc
    ]
  ]

  pub alike_next : AreAlike (one ++ entry ∷ []) (other ++ entry ∷ [])
  alike_next = record {
    long = length_next one entry ∙ ap (λ (n : ℕ). n + 1) a.long ∙ sym (length_next other entry);
    same = same_next;
    prepares = prepares_next;
    undone = undone_next one entry ∙ sym (undone_next other entry);
  }

-- ---- which entry may follow

pub names_alike : (one other : List Entry) (entry : Entry) → AreAlike one other → NamesUndecided one entry → NamesUndecided other entry
names_alike one other (Write batch) a names = tt
names_alike one other (Prepare name batch) a names = tt
names_alike one other (Commit p) a names = sym (a.same p) ∙ names
names_alike one other (Undo p batch) a names = sym (a.same p) ∙ names
names_alike one other (Close p) a names = sym (a.same p) ∙ names

closed_alike : (one other : List Entry) (entry : Entry) → AreAlike one other → UndoIsClosed one entry → UndoIsClosed other entry
closed_alike one other (Write batch) a closed = sym a.undone ∙ closed
closed_alike one other (Prepare name batch) a closed = sym a.undone ∙ closed
closed_alike one other (Commit p) a closed = sym a.undone ∙ closed
closed_alike one other (Undo p batch) a closed = sym a.undone ∙ closed
closed_alike one other (Close p) a closed = sym a.undone ∙ closed

find_alike : (keeps f g : ℕ → Bool) → ((p : ℕ) → keeps p ≡ true → f p ≡ g p) → (ps : List ℕ) → find f (filter keeps ps) ≡ find g (filter keeps ps)
find_alike keeps f g same [] = refl
find_alike keeps f g same (p ∷ ps) =
    let rest = find_alike keeps f g same ps in
    elim (cases_Bool (keeps p)) [
      | inl kept ↦ rw (kept, same p kept, rest) refl
      | inr dropped ↦ rw dropped rest
    ]

pub undecided_alike : (one other : List Entry) → AreAlike one other → undecided one ≡ undecided other
undecided_alike one other a = λ i. filter (λ p. a.same p i) (range_with_len 1 (a.long i))

pub holder_alike : (one other : List Entry) (key : List ℕ) → AreAlike one other → holder_of one key ≡ holder_of other key
holder_alike one other key a =
    find_alike (is_undecided one) (λ p. is_changed (batch_at one p) key) (λ p. is_changed (batch_at other p) key) (λ p undecided. ap (λ (e : Option Entry). is_changed (prepared_batch e) key) (a.prepares p undecided)) (range_with_len 1 (length one))
    ∙ ap (find (λ p. is_changed (batch_at other p) key)) (undecided_alike one other a)

pub named_alike : (one other : List Entry) (name : List ℕ) → AreAlike one other → named one name ≡ named other name
named_alike one other name a =
    find_alike (is_undecided one) (λ p. bytes_eq (name_at one p) name) (λ p. bytes_eq (name_at other p) name) (λ p undecided. ap (λ (e : Option Entry). bytes_eq (prepared_name e) name) (a.prepares p undecided)) (range_with_len 1 (length one))
    ∙ ap (find (λ p. bytes_eq (name_at other p) name)) (undecided_alike one other a)

free_alike : (one other : List Entry) (changes : List Change) → AreAlike one other → AreFree one changes → AreFree other changes
free_alike one other [] a free = tt
free_alike one other (change ∷ changes) a free = (sym (holder_alike one other (key_of change) a) ∙ free.0, free_alike one other changes a free.1)

keys_alike : (one other : List Entry) (entry : Entry) → AreAlike one other → KeysAreFree one entry → KeysAreFree other entry
keys_alike one other (Write batch) a free = free_alike one other batch a free
keys_alike one other (Prepare name batch) a free = (free_alike one other batch a free.0, sym (named_alike one other name a) ∙ free.1)
keys_alike one other (Commit p) a free = tt
keys_alike one other (Undo p batch) a free = tt
keys_alike one other (Close p) a free = tt

pub orderly_alike : (one other : List Entry) (entry : Entry) → AreAlike one other → IsOrderlyNext one entry → IsOrderlyNext other entry
orderly_alike one other entry a after = record {
  ascending = after.ascending;
  names_undecided = names_alike one other entry a after.names_undecided;
  undo_is_closed = closed_alike one other entry a after.undo_is_closed;
  keys_are_free = keys_alike one other entry a after.keys_are_free;
}

-- ---- what follows both

pub record GrowAlike (one other more : List Entry) : Type 0 where
  pub alike : AreAlike (one ++ more) (other ++ more)
  pub naming : AreNaming (other ++ more)

pub alike_behind : (one other more : List Entry) → AreAlike one other → AreNaming (one ++ more) → AreNaming other → GrowAlike one other more
alike_behind one other [] a naming also = record {
  alike = subst (λ (h : List Entry). AreAlike h (other ++ [])) (sym (append-nil one)) (subst (AreAlike one) (sym (append-nil other)) a);
  naming = subst AreNaming (sym (append-nil other)) also;
}
alike_behind one other (entry ∷ more) a naming also =
    let regrouped : (h : List Entry) → (h ++ entry ∷ []) ++ more ≡ h ++ entry ∷ more = λ h. append_assoc h (entry ∷ []) more in
    let names = follows NamesUndecided one entry more naming in
    let too = names_alike one other entry a names in
    let next = alike_next one other entry a (follow_front NamesUndecided one (entry ∷ more) naming) also names too in
    let rest = alike_behind (one ++ entry ∷ []) (other ++ entry ∷ []) more next (subst AreNaming (sym (regrouped one)) naming) (follow_next NamesUndecided other entry also too) in
    record {
      alike = subst (λ (h : List Entry). AreAlike h (other ++ entry ∷ more)) (regrouped one) (subst (AreAlike ((one ++ entry ∷ []) ++ more)) (regrouped other) rest.alike);
      naming = subst AreNaming (regrouped other) rest.naming;
    }

-- ---- values

pub changes_alike : (one other : List Entry) (entry : Entry) → AreAlike one other → NamesUndecided one entry → changes_of one entry ≡ changes_of other entry
changes_alike one other (Write batch) a names = refl
changes_alike one other (Prepare name batch) a names = refl
changes_alike one other (Commit p) a names = ap prepared_batch (a.prepares p names)
changes_alike one other (Undo p batch) a names = refl
changes_alike one other (Close p) a names = refl

values_next : (one other : List Entry) (entry : Entry) (key : List ℕ) → AreAlike one other → AreNaming one → AreNaming other → NamesUndecided one entry → newest one key ≡ newest other key → newest (one ++ entry ∷ []) key ≡ newest (other ++ entry ∷ []) key
values_next one other entry key a naming also names same =
    newest_next one entry key naming names
    ∙ (λ i. unwrap_or (change_to (changes_alike one other entry a names i) key) (same i))
    ∙ sym (newest_next other entry key also (names_alike one other entry a names))

pub values_behind : (one other more : List Entry) (key : List ℕ) → AreAlike one other → AreNaming (one ++ more) → AreNaming other → newest one key ≡ newest other key → newest (one ++ more) key ≡ newest (other ++ more) key
values_behind one other [] key a naming also same = rw (append-nil one, append-nil other) same
values_behind one other (entry ∷ more) key a naming also same =
    let regrouped : (h : List Entry) → (h ++ entry ∷ []) ++ more ≡ h ++ entry ∷ more = λ h. append_assoc h (entry ∷ []) more in
    let names = follows NamesUndecided one entry more naming in
    let too = names_alike one other entry a names in
    let front = follow_front NamesUndecided one (entry ∷ more) naming in
    let next = alike_next one other entry a front also names too in
    let rest = values_behind (one ++ entry ∷ []) (other ++ entry ∷ []) more key next (subst AreNaming (sym (regrouped one)) naming) (follow_next NamesUndecided other entry also too) (values_next one other entry key a front also names same) in
    ap (λ (h : List Entry). newest h key) (sym (regrouped one)) ∙ rest ∙ ap (λ (h : List Entry). newest h key) (regrouped other)
