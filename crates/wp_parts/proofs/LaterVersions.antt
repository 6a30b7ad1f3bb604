-- The versions of a history above a number, and those of tables up to it.
use Rattle.std.proofs.Common.{◌≡◌, ◌≢◌, ℕ, zero, suc, ◌+◌, ◌<◌, ◌≤◌, ◌==◌, ◌&&◌, Bool, true, false, cond, ne_eqb, List, [], ◌∷◌, length, drop, Option, Some, None, refl, sym, ap, ◌∙◌, zero-add, arith}
use Rattle.std.specs.List.{AllByRecursion, list_all}
use Rattle.std.specs.Option.{option_or}
use Rattle.std.specs.Str.{bytes_eq}
use Rattle.wp_model.specs.declared.change.Change.{Change}
use Rattle.wp_model.specs.declared.entry.Entry.{Entry}
use Rattle.wp_model.specs.declared.version.Version.{Version}
use Rattle.wp_model.specs.Batch.{change_to}
use Rattle.wp_model.specs.Decision.{entry_version, version_in}
use Rattle.wp_model.specs.Flushed.{versions_under, versions_after, later_versions}
use Rattle.wp_model.specs.Legal.{IsLegal, changes_in}
use Rattle.wp_model.specs.Versions.{version_at}
use Rattle.wp_model.proofs.Entries.{entry_at_past}
use Rattle.wp_merge.specs.Merge.{first_at}
use Rattle.wp_merge.proofs.Sorted.{at_append}
use Rattle.wp_core.proofs.Openings.{all_versions}
use Rattle.wp_core.proofs.PublishesVersions.{at_under}
use Rattle.wp_table.specs.Table.{IsTable, is_flushed}
use Rattle.wp_parts.proofs.FlushedVersions.{in_table}

abbrev Found : Type 0
Found = Option (Option (List ℕ))

-- ---- of entries after a number

elsewhere : (n : ℕ) (changes : List Change) (key : List ℕ) (p : ℕ) → n ≢ p → version_at (versions_under n changes) key p ≡ None
elsewhere n changes key p other = at_under n changes key p ∙ ap (λ (b : Bool). cond b (change_to changes key) None) (ne_eqb n p other)

-- an entry has versions under its own number alone
past_first : (n : ℕ) (entry : Entry) (entries : List Entry) (key : List ℕ) (p : ℕ) → suc n ≢ p → version_at (versions_after n (entry ∷ entries)) key p ≡ version_at (versions_after (suc n) entries) key p
past_first n entry entries key p other =
    at_append (versions_under (suc n) (changes_in entry)) (versions_after (suc n) entries) key p
    ∙ ap (λ (o : Found). option_or o (version_at (versions_after (suc n) entries) key p)) (elsewhere (suc n) (changes_in entry) key p other)

none_up_to : (n : ℕ) (entries : List Entry) (key : List ℕ) (p : ℕ) → p ≤ n → version_at (versions_after n entries) key p ≡ None
none_up_to n [] key p low = refl
none_up_to n (entry ∷ entries) key p low = past_first n entry entries key p (λ same. absurd (omega (arith, same, low))) ∙ none_up_to (suc n) entries key p (omega (arith, low))

skipped : (k n : ℕ) (entries : List Entry) (key : List ℕ) (p : ℕ) → n + k < p → version_at (versions_after n entries) key p ≡ version_at (versions_after (n + k) (drop k entries)) key p
skipped zero n entries key p above = ap (λ (m : ℕ). version_at (versions_after m entries) key p) (let q : n ≡ n + 0 = omega arith in q)
skipped (suc k) n [] key p above = refl
skipped (suc k) n (entry ∷ entries) key p above =
    past_first n entry entries key p (λ same. absurd (omega (arith, same, above)))
    ∙ skipped k (suc n) entries key p (omega (arith, above))
    ∙ ap (λ (m : ℕ). version_at (versions_after m (drop k entries)) key p) (let q : suc n + k ≡ n + suc k = omega arith in q)

-- ---- of a history

pub later_none : (history : List Entry) (flushed : ℕ) (key : List ℕ) (p : ℕ) → p ≤ flushed → version_at (later_versions history flushed) key p ≡ None
later_none history flushed key p low = none_up_to flushed (drop flushed history) key p low

-- above the number they are the history's
pub later_each : (history : List Entry) (flushed : ℕ) (key : List ℕ) (p : ℕ) → IsLegal history → flushed < p → version_at (later_versions history flushed) key p ≡ entry_version history p key
later_each history flushed key p legal above =
    ap (λ (m : ℕ). version_at (versions_after m (drop flushed history)) key p) (sym (zero-add flushed))
    ∙ sym (skipped flushed 0 history key p (omega (arith, above)))
    ∙ (all_versions history legal).at key p

pub later_past : (history : List Entry) (flushed : ℕ) (key : List ℕ) (p : ℕ) → IsLegal history → flushed ≤ length history → length history < p → version_at (later_versions history flushed) key p ≡ None
later_past history flushed key p legal within above =
    later_each history flushed key p legal (omega (arith, within, above)) ∙ ap (λ (o : Option Entry). version_in o key) (entry_at_past history p above)

-- ---- of tables

in_range_only : (flushed : ℕ) (versions : List Version) → list_all (is_flushed flushed) versions ≡ true → (key : List ℕ) (p : ℕ) → flushed < p → version_at versions key p ≡ None
in_range_only flushed [] all key p above = refl
in_range_only flushed (v ∷ versions) all key p above =
    let rest = in_range_only flushed versions (grind arith) key p above in
    let low : v.number ≤ flushed = grind arith in
    let other : (v.number == p) ≡ false = ne_eqb v.number p (λ same. absurd (omega (arith, same, low, above))) in
    rw (other, rest) (past (bytes_eq v.key key))
  where
    past : (b : Bool) → let nothing : Found = None in cond (b && false) (Some v.value) nothing ≡ nothing
    past true = refl
    past false = refl

-- no table has a version above the flushed number
pub tables_none : (id flushed : ℕ) (parts : List (List Version)) → AllByRecursion (IsTable id flushed) parts → (key : List ℕ) (p : ℕ) → flushed < p → first_at parts key p ≡ None
tables_none id flushed [] all key p above = refl
tables_none id flushed (versions ∷ parts) all key p above =
    let rest = tables_none id flushed parts all.1 key p above in
    rw (in_range_only flushed versions (in_table id flushed versions all.0) key p above, rest) refl
