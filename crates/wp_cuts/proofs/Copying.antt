-- The versions that a copy of a history has cover it at its end.
use Rattle.std.proofs.Common.{◌≡◌, ℕ, true, false, ◌==◌, ◌<◌, List, [], ◌∷◌, length, take, Option, Some, None, refl, sym, ap, ◌∙◌, subst, inl, inr, arith}
use Rattle.std.proofs.Math.Seq.{take-length}
use Rattle.std.proofs.lemmas.Bool.{or_left, or_cases, eqb-true, eq-eqb}
use Rattle.wp_model.specs.declared.entry.Entry.{Entry}
use Rattle.wp_model.specs.declared.version.Version.{Version}
use Rattle.wp_model.specs.History.{value_at}
use Rattle.wp_model.specs.Legal.{IsLegal, undone_last}
use Rattle.wp_model.specs.Decision.{IsCommittedAt}
use Rattle.wp_model.specs.Versions.{version_at}
use Rattle.wp_model.specs.Covered.{GivesStore, is_among, IsCovered}
use Rattle.wp_cuts.specs.Cut.{cut_at}
use Rattle.wp_cuts.specs.Copied.{AreCopied}
use Rattle.wp_cuts.specs.Reopened.{IsReopened}
use Rattle.wp_cuts.proofs.Growing.{cut_again}
use Rattle.wp_cuts.proofs.Reopening.{reopened}

only : (n m : ℕ) → is_among (n ∷ []) m ≡ true → n ≡ m
only n m h = elim (or_cases (n == m) false h) [
  | inl here ↦ eqb-true n m here
  | inr never ↦ absurd cc
]

module _ (history : List Entry) (versions : List Version) (legal : IsLegal history) (ended : undone_last history ≡ None) (copied : AreCopied history versions) where
  none_there : (key : List ℕ) (q : ℕ) → ((value : Option (List ℕ)) → version_at versions key q ≡ Some value → ⊥) → version_at versions key q ≡ None
  none_there key q never = by (version_at versions key q) refl
    where
      by : (o : Option (Option (List ℕ))) → version_at versions key q ≡ o → version_at versions key q ≡ None
      by None e = e
      by (Some value) e = absurd (never value e)

  gives_at_end : (key : List ℕ) → GivesStore versions history key (length history)
  gives_at_end key = by (value_at history key (length history)) refl
    where
      by : (o : Option (List ℕ)) → value_at history key (length history) ≡ o → GivesStore versions history key (length history)
      by (Some value) is = let found = copied.there key value is in inl (record {
        number = found.0;
        value = Some value;
        there = found.2;
        committed = found.1;
        newest = λ q lt committed. none_there key q (λ x there. let same = copied.alone key found.0 q (Some value) x found.2 there found.1 committed in omega (arith, lt, same));
        stored = is;
      })
      by None is = inr (record {
        none = λ q committed. none_there key q (λ x there. never q committed x there);
        missing = is;
      })
        where
          never : (q : ℕ) → IsCommittedAt history q (length history) → (x : Option (List ℕ)) → version_at versions key q ≡ Some x → ⊥
          never q committed None there = copied.values key q there committed
          never q committed (Some value) there = let some = copied.shown key q value there committed in absurd cc

  pub copy_covers : IsCovered versions history (length history ∷ []) (length history)
  copy_covers = record {
    part = copied.part;
    undecided = copied.undecided;
    undone = λ key p value undone there. absurd cc;
    listed = λ key n listed. subst (GivesStore versions history key) (only (length history) n listed) (gives_at_end key);
    later = λ key n above within. subst (GivesStore versions history key) (let e : length history ≡ n = omega arith in e) (gives_at_end key);
  }

  pub copy_reopens : IsReopened history (cut_at history (length history)) versions (length history ∷ []) (length history)
  copy_reopens =
      let whole : undone_last (take (length history) history) ≡ None = ap undone_last (take-length history) ∙ ended in
      reopened history (cut_at history (length history)) versions legal (cut_again history (length history) (omega arith) whole) copied.order (length history ∷ []) (length history)
      (record {
        listed = or_left (length history == length history) false (eq-eqb (length history) (length history) refl);
        above = λ n listed. let e = only (length history) n listed in omega (arith, e);
        within = λ n listed. let e = only (length history) n listed in omega (arith, e);
        later = omega arith;
      })
      copy_covers
