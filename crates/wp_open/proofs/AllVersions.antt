-- Whether tables cover what stands for a cut and them: what is asked of all versions, and what that says of the tables'.
use Rattle.std.proofs.Common.{◌≡◌, ◌↔◌, ℕ, ◌≤◌, Bool, true, List, [], ◌∷◌, ◌++◌, length, inl, inr, sym, ap, ◌∙◌}
use Rattle.std.specs.Option.{option_or}
use Rattle.wp_model.specs.declared.entry.Entry.{Entry}
use Rattle.wp_model.specs.declared.version.Version.{Version}
use Rattle.wp_model.specs.Covered.{GivesStore, IsCovered}
use Rattle.wp_model.specs.Flushed.{later_versions}
use Rattle.wp_model.specs.Legal.{IsLegal}
use Rattle.wp_model.specs.Versions.{version_at}
use Rattle.wp_history_laws.proofs.Listed.{none_listed}
use Rattle.wp_cuts.specs.Cut.{Cut}
use Rattle.wp_cuts.specs.LegalCut.{AreBelow, AreNumbered}
use Rattle.wp_manifest.specs.Edit.{Edit}
use Rattle.wp_merge.specs.Merge.{joined}
use Rattle.wp_merge.proofs.Sorted.{at_append, at_sorted}
use Rattle.wp_contents.specs.Opens.{AreCovering, all_in, history_over}
use Rattle.wp_open.proofs.Base.{base_covered}

-- ---- what covers a history hangs on look-ups alone

abbrev AreSame : List Version → List Version → Type 0
AreSame xs ys = (key : List ℕ) (p : ℕ) → version_at ys key p ≡ version_at xs key p

gives_same : (xs ys : List Version) (history : List Entry) (key : List ℕ) (n : ℕ) → AreSame xs ys → GivesStore xs history key n → GivesStore ys history key n
gives_same xs ys history key n same (inl k) = inl record { number = k.number; value = k.value; there = same key k.number ∙ k.there; committed = k.committed; newest = λ q lt is. same key q ∙ k.newest q lt is; stored = k.stored }
gives_same xs ys history key n same (inr k) = inr record { none = λ p is. same key p ∙ k.none p is; missing = k.missing }

covers_same : (xs ys : List Version) (history : List Entry) (numbers : List ℕ) (from : ℕ) → AreSame xs ys → IsCovered xs history numbers from → IsCovered ys history numbers from
covers_same xs ys history numbers from same k = record {
  part = λ key p value e. k.part key p value (sym (same key p) ∙ e);
  undecided = λ key p value u e. same key p ∙ k.undecided key p value u e;
  undone = λ key p value u e. same key (length history) ∙ k.undone key p value u e;
  listed = λ key n among. gives_same xs ys history key n same (k.listed key n among);
  later = λ key n low high. gives_same xs ys history key n same (k.later key n low high);
}

-- ---- the tables' versions as they come, and merged

module _ (c : Cut) (edit : Edit) (parts : List (List Version)) where
  abbrev full : List Entry
  full = history_over c parts

  abbrev later : List Version
  later = later_versions full edit.flushed

  -- as all versions merged, so those of the tables one after the other
  same_at : (key : List ℕ) (p : ℕ) → version_at (joined parts ++ later) key p ≡ version_at (all_in parts ++ later) key p
  same_at key p =
      at_append (joined parts) later key p
      ∙ ap (λ o. option_or o (version_at later key p)) (sym (at_sorted (joined parts) key p))
      ∙ sym (at_append (all_in parts) later key p)

  pub covering_is : AreNumbered c → IsLegal full → AreBelow c (all_in parts) → c.base ≤ edit.flushed → edit.flushed ≤ length full
      → (r : Bool) → (r ≡ true) ↔ IsCovered (joined parts ++ later_versions (history_over c parts) edit.flushed) (history_over c parts) [] (length (history_over c parts)) → (r ≡ true) ↔ AreCovering c edit parts
  covering_is numbered legal below low high r asked = (
    λ e. record {
      below = below;
      covered = record {
        base = low;
        flushed = high;
        covered = base_covered c parts numbered edit.flushed legal low (covers_same (joined parts ++ later) (all_in parts ++ later) full [] (length full) (λ key p. sym (same_at key p)) (asked.0 e));
      };
    },
    λ k. asked.1 (covers_same (all_in parts ++ later) (joined parts ++ later) full [] (length full) same_at (none_listed (all_in parts ++ later) full (c.base ∷ []) (length full) k.covered.covered)),
  )
