-- The versions of later entries, taken one entry after another.
use Rattle.std.proofs.Common.{◌≡◌, ℕ, suc, ◌<◌, Bool, true, false, true≢false, cond, ◌==◌, ◌&&◌, eq-eqb, ne_eqb, List, [], ◌∷◌, ◌++◌, Option, Some, None, refl, sym, ap, ◌∙◌, arith}
use Rattle.std.specs.Option.{option_or}
use Rattle.std.specs.Str.{bytes_eq}
use Rattle.std.proofs.lemmas.Bool.{eqb-true}
use Rattle.wp_model.specs.declared.change.Change.{Change}
use Rattle.wp_model.specs.declared.entry.Entry.{Entry}
use Rattle.wp_model.specs.declared.version.Version.{Version}
use Rattle.wp_model.specs.Batch.{key_of, value_of, change_to}
use Rattle.wp_model.specs.Flushed.{versions_under, versions_after}
use Rattle.wp_model.specs.Legal.{changes_in}
use Rattle.wp_model.specs.Versions.{AreInOrder, version_at}
use Rattle.wp_model.proofs.VersionLists.{in_order_nil}
use Rattle.wp_memtable.specs.Memtable.{HasChanges}
use Rattle.wp_merge.specs.Merge.{sorted_of}
use Rattle.wp_merge.proofs.Merged.{or_none}
use Rattle.wp_merge.proofs.Sorted.{at_append, at_sorted, in_order_sorted, in_order_same}

-- ---- look-ups

none_either : (b : Bool) → let none : Option (Option (List ℕ)) = None in none ≡ cond b none none
none_either true = refl
none_either false = refl

one_under : (a b : Bool) (v : Option (List ℕ)) (x : Option (Option (List ℕ))) → cond (a && b) (Some v) (cond b x None) ≡ cond b (cond a (Some v) x) None
one_under true true v x = refl
one_under true false v x = refl
one_under false true v x = refl
one_under false false v x = refl

pub at_under : (m : ℕ) (changes : List Change) (key : List ℕ) (p : ℕ) → version_at (versions_under m changes) key p ≡ cond (m == p) (change_to changes key) None
at_under m [] key p = none_either (m == p)
at_under m (c ∷ changes) key p = ap (cond (bytes_eq (key_of c) key && (m == p)) (Some (value_of c))) (at_under m changes key p) ∙ one_under (bytes_eq (key_of c) key) (m == p) (value_of c) (change_to changes key)

-- ---- entry after entry

-- of all versions those up to n are in memory, and the entries after n have the others
pub record AreTaken (all : List Version) (entries : List Entry) (n : ℕ) (memory : List Version) : Type 0 where
  pub in_order : AreInOrder memory
  pub none_above : (key : List ℕ) (p : ℕ) → n < p → version_at memory key p ≡ None
  pub each : (key : List ℕ) (p : ℕ) → option_or (version_at memory key p) (version_at (versions_after n entries) key p) ≡ version_at all key p

pub none_taken : (all : List Version) (entries : List Entry) (n : ℕ) (memory : List Version) → memory ≡ [] → versions_after n entries ≡ all → AreTaken all entries n memory
none_taken all entries n memory none is = record {
  in_order = rw none in_order_nil;
  none_above = λ key p lt. rw none refl;
  each = λ key p. rw (none, is) refl;
}

module _ (n next : ℕ) (entry : Entry) (others : List Entry) (old new : List Version) (is : next ≡ suc n) (has : HasChanges next (changes_in entry) old new) (above : (key : List ℕ) (p : ℕ) → n < p → version_at old key p ≡ None) where
  abbrev rest : List ℕ → ℕ → Option (Option (List ℕ))
  rest key p = version_at (versions_after next others) key p

  abbrev changed : List ℕ → Option (Option (List ℕ))
  changed key = change_to (changes_in entry) key

  elsewhere : (key : List ℕ) (p : ℕ) → (p == next) ≡ false → version_at new key p ≡ version_at old key p
  elsewhere key p e = has.each key p ∙ ap (λ (b : Bool). cond b (option_or (changed key) (version_at old key p)) (version_at old key p)) e

  above_next : (key : List ℕ) (p : ℕ) → next < p → version_at new key p ≡ None
  above_next key p lt = elsewhere key p (ne_eqb p next (λ e. absurd (omega (arith, e, lt)))) ∙ above key p (omega (arith, is, lt))

  same_test : (p : ℕ) (b : Bool) → (p == next) ≡ b → (next == p) ≡ b
  same_test p true e = eq-eqb next p (sym (eqb-true p next e))
  same_test p false e = ne_eqb next p (λ same. absurd (true≢false (sym (eq-eqb p next (sym same)) ∙ e)))

  or_either : (x r : Option (Option (List ℕ))) → option_or (option_or x None) r ≡ option_or x r
  or_either None r = refl
  or_either (Some v) r = refl

  moved : (key : List ℕ) (p : ℕ) → option_or (version_at new key p) (rest key p) ≡ option_or (version_at old key p) (option_or (cond (next == p) (changed key) None) (rest key p))
  moved key p = by (p == next) refl
    where
      by : (b : Bool) → (p == next) ≡ b → option_or (version_at new key p) (rest key p) ≡ option_or (version_at old key p) (option_or (cond (next == p) (changed key) None) (rest key p))
      by true e =
          let none : version_at old key p ≡ None = above key p (let same : p ≡ next = eqb-true p next e in omega (arith, is, same)) in
          let there : version_at new key p ≡ option_or (changed key) (version_at old key p) = has.each key p ∙ ap (λ (b : Bool). cond b (option_or (changed key) (version_at old key p)) (version_at old key p)) e in
          rw (there, none, same_test p true e) (or_either (changed key) (rest key p))
      by false e = rw (elsewhere key p e, same_test p false e) refl

  pub one_taken : (all : List Version) → AreTaken all (entry ∷ others) n old → AreTaken all others next new
  one_taken all t = record {
    in_order = has.in_order;
    none_above = above_next;
    each = λ key p.
        moved key p
        ∙ ap (λ o. option_or (version_at old key p) (option_or o (rest key p))) (sym (at_under next (changes_in entry) key p))
        ∙ ap (option_or (version_at old key p)) (sym (at_append (versions_under next (changes_in entry)) (versions_after next others) key p))
        ∙ ap (λ (m : ℕ). option_or (version_at old key p) (version_at (versions_under m (changes_in entry) ++ versions_after m others) key p)) is
        ∙ t.each key p;
  }

pub all_taken : (all : List Version) (entries : List Entry) (n : ℕ) (memory : List Version) → entries ≡ [] → AreTaken all entries n memory → memory ≡ sorted_of all
all_taken all entries n memory none t =
    in_order_same memory (sorted_of all) t.in_order (in_order_sorted all)
    (λ key p. sym (or_none key p (version_at memory key p)) ∙ ap (λ (es : List Entry). option_or (version_at memory key p) (version_at (versions_after n es) key p)) (sym none) ∙ t.each key p ∙ sym (at_sorted all key p))
