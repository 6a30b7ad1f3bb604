-- What memory has once the versions of the pending entry came or went.
use Rattle.std.proofs.Common.{◌≡◌, ℕ, Bool, true, false, cond, not, nat_eq, ◌&&◌, List, [], ◌∷◌, ◌++◌, Some, None, is_some, refl, sym, ◌∙◌}
use Rattle.std.specs.Str.{bytes_eq}
use Rattle.std.specs.Cmp.Lexicographic.{told_text}
use Rattle.std.proofs.lemmas.Bool.{eqb-true, eqb-false, eq-eqb}
use Rattle.wp_model.specs.declared.change.Change.{Change}
use Rattle.wp_model.specs.declared.entry.Entry.{Entry}
use Rattle.wp_model.specs.Batch.{key_of, value_of, change_to}
use Rattle.wp_model.specs.History.{is_changed}
use Rattle.wp_model.specs.Legal.{changes_in}
use Rattle.wp_model.specs.declared.version.Version.{Version}
use Rattle.wp_model.specs.Versions.{version_at}
use Rattle.wp_core.specs.Entries.{next_of, HasVersionsAt}
use Rattle.wp_model.specs.Flushed.{versions_under}
use Rattle.wp_machine.specs.Machine.{without_number, versions_of_next}
use Rattle.wp_machine_permits.specs.Each.{Each}

-- ---- without a number

joined : (x p n : ℕ) → nat_eq x n ≡ true → nat_eq x p ≡ true → nat_eq p n ≡ false → ⊥
joined x p n one two apart = let same : p ≡ n = sym (eqb-true x p two) ∙ eqb-true x n one in eqb-false p n apart same

split : (x p n : ℕ) → nat_eq x n ≡ false → nat_eq x p ≡ true → nat_eq p n ≡ true → ⊥
split x p n apart one two = let same : x ≡ n = eqb-true x p one ∙ eqb-true p n two in eqb-false x n apart same

without_at : (n : ℕ) (memory : List Version) (key : List ℕ) (p : ℕ) → version_at (without_number n memory) key p ≡ cond (nat_eq p n) None (version_at memory key p)
without_at n [] key p = none (nat_eq p n)
  where
    none : (b : Bool) → version_at [] key p ≡ cond b None (version_at [] key p)
    none true = refl
    none false = refl
without_at n (v ∷ vs) key p = headed (nat_eq v.number n) ∙ by (nat_eq v.number n) refl (bytes_eq v.key key) (nat_eq v.number p) refl (nat_eq p n) refl (without_at n vs key p)
  where
    headed : (gone : Bool) → version_at (cond (not gone) (v ∷ without_number n vs) (without_number n vs)) key p ≡ cond gone (version_at (without_number n vs) key p) (cond (bytes_eq v.key key && nat_eq v.number p) (Some v.value) (version_at (without_number n vs) key p))
    headed true = refl
    headed false = refl

    by : (gone : Bool) → nat_eq v.number n ≡ gone → (a b : Bool) → nat_eq v.number p ≡ b → (d : Bool) → nat_eq p n ≡ d → version_at (without_number n vs) key p ≡ cond d None (version_at vs key p)
        → cond gone (version_at (without_number n vs) key p) (cond (a && b) (Some v.value) (version_at (without_number n vs) key p)) ≡ cond d None (cond (a && b) (Some v.value) (version_at vs key p))
    by true is a b at true same others = others
    by true is true true at false same others = absurd (joined v.number p n is at same)
    by true is true false at false same others = others
    by true is false b at false same others = others
    by false is true true at true same others = absurd (split v.number p n is at same)
    by false is true true at false same others = refl
    by false is true false at d same others = others
    by false is false b at d same others = others

-- ---- with the versions of the pending entry

turned : (p n : ℕ) → nat_eq n p ≡ nat_eq p n
turned p n = by (nat_eq n p) refl (nat_eq p n) refl
  where
    by : (b : Bool) → nat_eq n p ≡ b → (d : Bool) → nat_eq p n ≡ d → b ≡ d
    by true is true at = refl
    by true is false at = sym (eq-eqb p n (sym (eqb-true n p is))) ∙ at
    by false is true at = sym is ∙ eq-eqb n p (sym (eqb-true p n at))
    by false is false at = refl

with_at : (n : ℕ) (changes : List Change) (memory : List Version) (key : List ℕ) (p : ℕ) → version_at (versions_under n changes ++ without_number n memory) key p ≡ cond (nat_eq p n) (change_to changes key) (version_at memory key p)
with_at n [] memory key p = without_at n memory key p
with_at n (change ∷ changes) memory key p = by (bytes_eq (key_of change) key) (nat_eq n p) (nat_eq p n) (turned p n) (with_at n changes memory key p)
  where
    by : (a b d : Bool) → b ≡ d → version_at (versions_under n changes ++ without_number n memory) key p ≡ cond d (change_to changes key) (version_at memory key p)
        → cond (a && b) (Some (value_of change)) (version_at (versions_under n changes ++ without_number n memory) key p) ≡ cond d (cond a (Some (value_of change)) (change_to changes key)) (version_at memory key p)
    by true true true same others = refl
    by true true false same others = absurd cc
    by true false true same others = absurd cc
    by true false false same others = others
    by false b true same others = others
    by false b false same others = others

pub has_next : (n : ℕ) (pending : List Entry) (memory : List Version) → HasVersionsAt (next_of pending) n memory (versions_of_next n pending ++ without_number n memory)
has_next n [] memory key p = without_at n memory key p
has_next n (entry ∷ others) memory key p = with_at n (changes_in entry) memory key p

pub has_none : (n : ℕ) (memory : List Version) → HasVersionsAt None n memory (without_number n memory)
has_none n memory key p = without_at n memory key p

-- ---- the changes of an entry

-- what is so of each key that is changed
pub each_changed : (P : List ℕ → Type 0) (changes : List Change) → Each (λ change. P (key_of change)) changes → (key : List ℕ) → is_changed changes key ≡ true → P key
each_changed P [] each key changed = absurd cc
each_changed P (change ∷ changes) each key changed = by (bytes_eq (key_of change) key) refl (each_changed P changes each.1 key) changed
  where
    by : (b : Bool) → bytes_eq (key_of change) key ≡ b → (is_changed changes key ≡ true → P key) → is_some (cond b (Some (value_of change)) (change_to changes key)) ≡ true → P key
    by true is others changed = rw (told_text (key_of change) key true (sym is)) at each.0
    by false is others changed = others changed
