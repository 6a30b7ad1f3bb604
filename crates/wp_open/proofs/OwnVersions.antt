-- All versions of the entries of a history show every reader what it holds.
use Rattle.std.proofs.Common.{◌≡◌, ℕ, zero, suc, ◌≤◌, List, [], ◌∷◌, length, inl, inr, sym, subst, ◌∙◌, arith}
use Rattle.wp_model.specs.declared.entry.Entry.{Entry}
use Rattle.wp_model.specs.declared.version.Version.{Version}
use Rattle.wp_model.specs.Covered.{GivesStore, IsCovered}
use Rattle.wp_model.specs.Decision.{entry_version}
use Rattle.wp_model.specs.Flushed.{later_versions}
use Rattle.wp_model.specs.Legal.{IsLegal}
use Rattle.wp_model.specs.Versions.{version_at}
use Rattle.wp_history_laws.proofs.NewestVersion.{one_or_none, newest_is_value, none_is_no_value}
use Rattle.wp_cuts.specs.Cut.{Cut}
use Rattle.wp_cuts.specs.LegalCut.{AreNumbered}
use Rattle.wp_manifest.specs.Edit.{Edit}
use Rattle.wp_cover.proofs.Places.{none_later, own_later}
use Rattle.wp_contents.specs.Opens.{AreCovering, history_over}
use Rattle.wp_open.proofs.Base.{base_covered}

own_version : (history : List Entry) (key : List ℕ) (p : ℕ) → version_at (later_versions history 0) key p ≡ entry_version history p key
own_version history key zero = none_later history 0 key 0 (omega arith)
own_version history key (suc i) = own_later history 0 key (suc i) (omega arith)

-- ---- readers

gives_own : (history : List Entry) (key : List ℕ) (n : ℕ) → IsLegal history → n ≤ length history → GivesStore (later_versions history 0) history key n
gives_own history key n legal within =
    elim (one_or_none history key n legal within) [
      | inl none ↦ inr (record { none = λ p is. own_version history key p ∙ none p is; missing = none_is_no_value history key n legal within none })
      | inr newest ↦ inl (record {
        number = newest.0;
        value = newest.1.value;
        there = own_version history key newest.0 ∙ newest.1.there;
        committed = newest.1.committed;
        newest = λ q above is. own_version history key q ∙ newest.1.newest q above is;
        stored = newest_is_value history key n newest.0 legal within newest.1;
      })
    ]

own_covered : (history : List Entry) → IsLegal history → IsCovered (later_versions history 0) history [] (length history)
own_covered history legal = record {
  part = λ key p value there. sym (own_version history key p) ∙ there;
  undecided = λ key p value undecided there. own_version history key p ∙ there;
  undone = λ key p value undone there. own_version history key (length history) ∙ there;
  listed = λ key n among. absurd cc;
  later = λ key n low high. gives_own history key n legal high;
}

-- where nothing was flushed, and there is no table
pub all_in_memory : (c : Cut) (edit : Edit) (parts : List (List Version)) → AreNumbered c → c.base ≡ 0 → edit.flushed ≡ 0 → length parts ≡ 0 → IsLegal (history_over c parts) → AreCovering c edit parts
all_in_memory c edit [] numbered no_base unflushed empty legal =
    let full = history_over c [] in
    let low : c.base ≤ edit.flushed = omega (arith, no_base) in
    record {
      below = λ key q p value x there. absurd cc;
      covered = record {
        base = low;
        flushed = omega (arith, unflushed);
        covered = base_covered c [] numbered edit.flushed legal low (subst (λ (n : ℕ). IsCovered (later_versions full n) full [] (length full)) (sym unflushed) (own_covered full legal));
      };
    }
all_in_memory c edit (part ∷ parts) numbered no_base unflushed empty legal = absurd (omega (arith, empty))
