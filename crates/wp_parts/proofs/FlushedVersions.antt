-- Versions that were flushed: none has a number above the flushed one.
use Rattle.std.proofs.Common.{◌≡◌, ℕ, ◌≤◌, ◌&&◌, Bool, true, Less, Equal, Greater, List, [], ◌∷◌, ◌++◌, refl, arith}
use Rattle.std.proofs.lemmas.Bool.{and_from, and_parts, le-leb, leb-true}
use Rattle.std.proofs.lemmas.List.Concat.{flat_map-cons}
use Rattle.std.proofs.lemmas.List.Folds.{list_all-append}
use Rattle.std.specs.List.{AllByRecursion, list_all}
use Rattle.std.specs.declared.cmp.Ordering.{Ordering}
use Rattle.wp_model.specs.declared.version.Version.{Version}
use Rattle.wp_model.specs.Versions.{version_cmp}
use Rattle.wp_merge.specs.Merge.{joined, sorted_of, merge_of, choose_by_order}
use Rattle.wp_table.specs.Table.{IsTable, is_version, is_flushed, has_number, has_words}

-- ---- what is so of each version

each_weaker : (P Q : Version → Bool) → ((v : Version) → P v ≡ true → Q v ≡ true) → (versions : List Version) → list_all P versions ≡ true → list_all Q versions ≡ true
each_weaker P Q gives [] all = refl
each_weaker P Q gives (v ∷ versions) all =
    let parts = and_parts (P v) (list_all P versions) all in
    and_from (Q v) (list_all Q versions) (gives v parts.0) (each_weaker P Q gives versions parts.1)

-- ... is so of each of them in order
module _ (P : Version → Bool) where
  each_woven : (v : Version) (ys : List Version) → P v ≡ true → list_all P ys ≡ true → list_all P (merge_of (v ∷ []) ys) ≡ true
  each_woven v [] here all = and_from (P v) true here refl
  each_woven v (y ∷ ys) here all =
      let parts = and_parts (P y) (list_all P ys) all in
      chosen (version_cmp v y) parts.0 parts.1 (each_woven v ys here parts.1)
    where
      chosen : (o : Ordering) → P y ≡ true → list_all P ys ≡ true → list_all P (merge_of (v ∷ []) ys) ≡ true → list_all P (choose_by_order o (v ∷ y ∷ ys) (v ∷ ys) (y ∷ merge_of (v ∷ []) ys)) ≡ true
      chosen Less first rest woven = and_from (P v) (list_all P (y ∷ ys)) here all
      chosen Equal first rest woven = and_from (P v) (list_all P ys) here rest
      chosen Greater first rest woven = and_from (P y) (list_all P (merge_of (v ∷ []) ys)) first woven

  pub each_sorted : (versions : List Version) → list_all P versions ≡ true → list_all P (sorted_of versions) ≡ true
  each_sorted [] all = refl
  each_sorted (v ∷ versions) all =
      let parts = and_parts (P v) (list_all P versions) all in
      each_woven v (sorted_of versions) parts.0 (each_sorted versions parts.1)

-- ---- of tables

pub in_table : (id flushed : ℕ) (versions : List Version) → IsTable id flushed versions → list_all (is_flushed flushed) versions ≡ true
in_table id flushed versions (format, is) =
    each_weaker (is_version format flushed) (is_flushed flushed) (λ v all. (and_parts (has_number format v) (is_flushed flushed v) (and_parts (has_words v) (has_number format v && is_flushed flushed v) all).1).1) versions is.in_range

in_all : (id flushed : ℕ) (parts : List (List Version)) → AllByRecursion (IsTable id flushed) parts → list_all (is_flushed flushed) (joined parts) ≡ true
in_all id flushed [] all = refl
in_all id flushed (versions ∷ parts) all =
    rw (flat_map-cons (λ (s : List Version). s) versions parts, list_all-append (is_flushed flushed) versions (joined parts))
    (and_from (list_all (is_flushed flushed) versions) (list_all (is_flushed flushed) (joined parts)) (in_table id flushed versions all.0) (in_all id flushed parts all.1))

pub tables_flushed : (id flushed : ℕ) (parts : List (List Version)) → AllByRecursion (IsTable id flushed) parts → list_all (is_flushed flushed) (sorted_of (joined parts)) ≡ true
tables_flushed id flushed parts all = each_sorted (is_flushed flushed) (joined parts) (in_all id flushed parts all)

-- ---- a later number

pub later_flushed : (old flushed : ℕ) → old ≤ flushed → (versions : List Version) → list_all (is_flushed old) versions ≡ true → list_all (is_flushed flushed) versions ≡ true
later_flushed old flushed later = each_weaker (is_flushed old) (is_flushed flushed) (λ v within. le-leb v.number flushed (omega (arith, later, leb-true v.number old within)))

-- versions that were flushed up to now, and before them some that were flushed before
pub both_flushed : (old flushed : ℕ) (versions before : List Version) → old ≤ flushed → list_all (is_flushed flushed) versions ≡ true → list_all (is_flushed old) before ≡ true → list_all (is_flushed flushed) (sorted_of (versions ++ before)) ≡ true
both_flushed old flushed versions before later now all =
    each_sorted (is_flushed flushed) (versions ++ before)
    (rw (list_all-append (is_flushed flushed) versions before) (and_from (list_all (is_flushed flushed) versions) (list_all (is_flushed flushed) before) now (later_flushed old flushed later before all)))
