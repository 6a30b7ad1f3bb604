-- Versions that are in order, of their entries, or later ones.
use Rattle.std.proofs.Common.{◌≡◌, ℕ, zero, suc, ◌<◌, Bool, true, false, cond, nat_eq, List, [], ◌∷◌, ◌++◌, length, drop, map, Option, Some, None, is_some, ◌||◌, refl, sym, ap, ◌∙◌, arith}
use Rattle.std.specs.Option.{option_or}
use Rattle.std.specs.List.{list_any}
use Rattle.std.specs.List.Sorted.{IsStrictlySortedBy}
use Rattle.std.specs.Ordering.{nat_cmp, eq_by_cmp}
use Rattle.std.specs.FinMap as finite
use Rattle.std.specs.Cmp.{nat_cmp_total, unsigned_tied, eq_by_cmp_equiv}
use Rattle.wp_model.specs.declared.entry.Entry.{Entry}
use Rattle.wp_model.specs.declared.version.Version.{Version}
use Rattle.wp_model.specs.Decision.{version_in, entry_version}
use Rattle.wp_model.specs.Versions.{AreInOrder, version_at}
use Rattle.wp_model.specs.Covered.{IsCovered, is_among}
use Rattle.wp_model.specs.Snapshots.{Snapshots}
use Rattle.wp_merge.specs.Merge.{first_at}
use Rattle.wp_core.specs.Entries.{next_of}
use Rattle.wp_core.specs.States.{live_numbers}
use Rattle.wp_model.specs.Flushed.{versions_after}
use Rattle.wp_machine_permits.specs.Each.{Each}
use Rattle.wp_machine.specs.Machine.{versions_of_next}
use Rattle.wp_machine_permits.specs.VersionLists.{AreOf, AreNext}
use Rattle.wp_cover.proofs.Order.{is_here}
use Rattle.wp_machine_permits.proofs.ListFacts.{each_at, at_each}

-- ---- in order

pub one_in_order : (v : Version) → AreInOrder (v ∷ [])
unfolding IsStrictlySortedBy
one_in_order v = (tt, tt)

or_cond : (b : Bool) (x : Option (List ℕ)) (o : Option (Option (List ℕ))) → option_or (cond b (Some x) None) o ≡ cond b (Some x) o
or_cond true x o = refl
or_cond false x o = refl

pub of_singles : (versions : List Version) (key : List ℕ) (n : ℕ) → first_at (map (λ (v : Version). v ∷ []) versions) key n ≡ version_at versions key n
of_singles [] key n = refl
of_singles (v ∷ versions) key n = or_cond (is_here key n v) v.value (first_at (map (λ (w : Version). w ∷ []) versions) key n) ∙ ap (λ o. cond (is_here key n v) (Some v.value) o) (of_singles versions key n)

-- ---- covered

tied_number : (p q : ℕ) → eq_by_cmp nat_cmp q p ≡ nat_eq p q
tied_number p q = (eq_by_cmp_equiv nat_cmp_total).symm q p ∙ unsigned_tied p q

any_tied : (xs : List ℕ) (n : ℕ) → list_any (eq_by_cmp nat_cmp n) xs ≡ is_among xs n
any_tied [] n = refl
any_tied (x ∷ xs) n = ap (λ b. b || list_any (eq_by_cmp nat_cmp n) xs) (tied_number x n) ∙ ap (λ b. nat_eq x n || b) (any_tied xs n)

pub covered_live : (base : ℕ) (m : Snapshots) (versions : List Version) (history : List Entry) (numbers : List ℕ) (from : ℕ) → ((n : ℕ) → is_among numbers n ≡ (nat_eq base n || is_some (finite.get m n))) → IsCovered versions history numbers from → IsCovered versions history (base ∷ live_numbers m) from
covered_live base m versions history numbers from are c = record {
  part = c.part;
  undecided = c.undecided;
  undone = c.undone;
  listed = λ key n among. c.listed key n (are n ∙ ap (λ b. nat_eq base n || b) (finite.contains_key-keys m n ∙ any_tied (live_numbers m) n) ∙ among);
  later = c.later;
}

-- ---- later versions

pub after_next : (k : ℕ) (entries : List Entry) (i : ℕ) → i < length entries → versions_after k (drop i entries) ≡ versions_of_next (suc k) (drop i entries) ++ versions_after (suc k) (drop (suc i) entries)
after_next k [] i lt = absurd (omega arith)
after_next k (entry ∷ others) zero lt = refl
after_next k (entry ∷ others) (suc i) lt = after_next k others i (omega arith)

-- ---- of their entries

pub each_of : (history : List Entry) (versions : List Version) → Each (λ (v : Version). entry_version history v.number v.key ≡ version_at versions v.key v.number) versions → AreOf history versions
each_of history versions each key p value is = each_at (λ k q. entry_version history q k ≡ version_at versions k q) versions each key p value is ∙ is

pub of_each : (history : List Entry) (versions : List Version) → AreOf history versions → Each (λ (v : Version). entry_version history v.number v.key ≡ version_at versions v.key v.number) versions
of_each history versions are = at_each (λ k q. entry_version history q k ≡ version_at versions k q) versions (λ key p value is. are key p value is ∙ sym is)

module _ (history pending : List Entry) (versions : List Version) where
  abbrev pub IsNextAt : List ℕ → ℕ → Type 0
  IsNextAt k q = length history < q → (q ≡ suc (length history)) × (version_in (next_of pending) k ≡ version_at versions k q)

  pub each_next : Each (λ (v : Version). IsNextAt v.key v.number) versions → AreNext history pending versions
  each_next each key p value above is = let next = each_at IsNextAt versions each key p value is above in (next.0, next.1 ∙ is)

  pub next_each : AreNext history pending versions → Each (λ (v : Version). IsNextAt v.key v.number) versions
  next_each are = at_each IsNextAt versions (λ key p value is above. let next = are key p value above is in (next.0, next.1 ∙ sym is))
