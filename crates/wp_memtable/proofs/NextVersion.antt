-- The next version between bounds.
use Rattle.std.proofs.Common.{◌≡◌, ℕ, Bool, true, false, cond, List, [], ◌∷◌, ◌++◌, filter, Option, Some, None, refl, sym, ap, ◌∙◌}
use Rattle.std.specs.declared.ops.Bound.TheVariants.{Unbounded}
use Rattle.std.specs.BTreeMap.Range.{range_contains, entries_between}
use Rattle.std.specs.List.{find, list_all}
use Rattle.std.specs.Option.{option_or}
use Rattle.std.specs.Ordering.{is_lt, is_le}
use Rattle.std.proofs.lemmas.Bool.{and_from, and_parts}
use Rattle.std.proofs.lemmas.List.Elements.{filter-append}
use Rattle.wp_model.specs.Batch.{key_cmp}
use Rattle.wp_model.specs.Rows.{is_from, next_version}
use Rattle.wp_model.specs.Word.{is_key}
use Rattle.wp_model.specs.declared.version.Version.{Version}
use Rattle.wp_memtable.specs.declared.bounds.Bounds.{Bounds}
use Rattle.wp_memtable.specs.Bounds.{is_between, between}
use Rattle.wp_memtable.specs.KeyVersions.{Numbered}
use Rattle.wp_memtable.specs.Memtable.{Places, start_at, under, versions_in}
use Rattle.wp_memtable.proofs.Between.{and_true}

-- the newest version of a key that is between the bounds
abbrev pub newest_with : Bounds → List ℕ → Numbered → Option Version
newest_with b key versions = find (λ v. is_between b v.number) (under key versions)

-- that of the first key that has one
abbrev pub first_with : Bounds → Places → Option Version
first_with b [] = None
first_with b (e ∷ es) = option_or (newest_with b e.0 e.1.versions) (first_with b es)

-- the first of these versions of the key
abbrev pub front_under : List ℕ → Numbered → Option Version
front_under key [] = None
front_under key (p ∷ ps) = Some (record { key = key; number = p.0; value = p.1 })

pub newest_is : (b : Bounds) (key : List ℕ) (vs : Numbered) → front_under key (filter (λ p. is_between b p.0) vs) ≡ newest_with b key vs
newest_is b key [] = refl
newest_is b key (p ∷ ps) = by (is_between b p.0) (newest_is b key ps)
  where
    by : (a : Bool) → front_under key (filter (λ q. is_between b q.0) ps) ≡ newest_with b key ps → front_under key (cond a (p ∷ filter (λ q. is_between b q.0) ps) (filter (λ q. is_between b q.0) ps)) ≡ cond a (Some (record { key = key; number = p.0; value = p.1 })) (newest_with b key ps)
    by true again = refl
    by false again = again

module _ (above : Bool) (key : List ℕ) (b : Bounds) where
  -- the versions of one key, in front of others
  next_under : (k : List ℕ) (vs : Numbered) (rest : List Version) → next_version above key (between b (under k vs) ++ rest) ≡ cond (is_from above key k) (option_or (newest_with b k vs) (next_version above key rest)) (next_version above key rest)
  next_under k [] rest = by (is_from above key k)
    where
      by : (f : Bool) → next_version above key rest ≡ cond f (next_version above key rest) (next_version above key rest)
      by true = refl
      by false = refl
  next_under k (p ∷ ps) rest = by (next_under k ps rest) (is_between b p.0) (is_from above key k) refl refl
    where
      by : next_version above key (between b (under k ps) ++ rest) ≡ cond (is_from above key k) (option_or (newest_with b k ps) (next_version above key rest)) (next_version above key rest) → (a f : Bool) → is_between b p.0 ≡ a → is_from above key k ≡ f
          → next_version above key (between b (under k (p ∷ ps)) ++ rest) ≡ cond (is_from above key k) (option_or (newest_with b k (p ∷ ps)) (next_version above key rest)) (next_version above key rest)
      by again true true inside from = rw (inside, from) refl
      by again true false inside from = rw (inside, from) (again ∙ rw from refl)
      by again false f outside from = rw outside again

  pub next_in : (es : Places) → next_version above key (between b (versions_in es)) ≡ first_with b (filter (λ e. is_from above key e.0) es)
  next_in [] = refl
  next_in (e ∷ es) =
      ap (next_version above key) (filter-append (λ v. is_between b v.number) (under e.0 e.1.versions) (versions_in es))
      ∙ next_under e.0 e.1.versions (between b (versions_in es))
      ∙ by (next_in es) (is_from above key e.0)
    where
      by : next_version above key (between b (versions_in es)) ≡ first_with b (filter (λ x. is_from above key x.0) es) → (f : Bool)
          → cond f (option_or (newest_with b e.0 e.1.versions) (next_version above key (between b (versions_in es)))) (next_version above key (between b (versions_in es))) ≡ first_with b (cond f (e ∷ filter (λ x. is_from above key x.0) es) (filter (λ x. is_from above key x.0) es))
      by again true = ap (option_or (newest_with b e.0 e.1.versions)) again
      by again false = again

  starts_at : (es : Places) → entries_between key_cmp (start_at above key) Unbounded es ≡ filter (λ e. is_from above key e.0) es
  starts_at [] = refl
  starts_at (e ∷ es) = λ i. cond (same above i) (e ∷ starts_at es i) (starts_at es i)
    where
      same : (above : Bool) → range_contains key_cmp (start_at above key) Unbounded e.0 ≡ is_from above key e.0
      same true = sym (and_true (is_lt (key_cmp key e.0)))
      same false = sym (and_true (is_le (key_cmp key e.0)))

  -- what is looked through from there on
  pub next_from : (rest es : Places) → rest ≡ entries_between key_cmp (start_at above key) Unbounded es → first_with b rest ≡ next_version above key (between b (versions_in es))
  next_from rest es is = ap (first_with b) (is ∙ starts_at es) ∙ sym (next_in es)

-- ---- keys in their range

pub kept_words : (p : Version → Bool) (vs : List Version) → list_all (λ v. is_key v.key) vs ≡ true → list_all (λ v. is_key v.key) (filter p vs) ≡ true
kept_words p [] all = refl
kept_words p (v ∷ vs) all = by (p v) (kept_words p vs parts.1)
  where
    parts : (is_key v.key ≡ true) × (list_all (λ w. is_key w.key) vs ≡ true)
    parts = and_parts (is_key v.key) (list_all (λ w. is_key w.key) vs) all

    by : (b : Bool) → list_all (λ w. is_key w.key) (filter p vs) ≡ true → list_all (λ w. is_key w.key) (cond b (v ∷ filter p vs) (filter p vs)) ≡ true
    by true rest = and_from (is_key v.key) (list_all (λ w. is_key w.key) (filter p vs)) parts.0 rest
    by false rest = rest
