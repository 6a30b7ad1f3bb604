use Rattle.std.proofs.Common.{◌≡◌, ◌↔◌, ◌≤◌, Bool, true, ℕ, List, [], ◌++◌, length, map, refl, sym, subst, ap, ◌∙◌, arith}
use Rattle.std.specs.Arc.{arc_value}
use Rattle.std.proofs.lemmas.Bool.{eqb-true}
use Rattle.std.proofs.lemmas.List.{length-map}
use Rattle.std.proofs.lemmas.Result.{IfOk-weaker}
use Rattle.wp_model.specs.declared.entry.Entry.{Entry}
use Rattle.wp_model.specs.Covered.{IsCovered}
use Rattle.wp_model.specs.Flushed.{later_versions}
use Rattle.wp_model.specs.Legal.{IsLegal}
use Rattle.wp_cuts.specs.LegalCut.{AreNumbered}
use Rattle.wp_cuts.proofs.Standing.{cut_numbered}
use Rattle.wp_history.specs.Outline.{cut_in}
use Rattle.wp_merge.specs.Merge.{joined}
use Rattle.wp_contents.specs.Opens.{AreCovering, history_over}
use Rattle.wp_open.proofs.AllVersions.{covering_is}
use Rattle.wp_open.proofs.Base.{fixed_own}
use Rattle.wp_open.proofs.OwnVersions.{all_in_memory}
use Rattle.wp_open.proofs.covering.are_covering.Goals as goal

pub returns-then-is_empty-clause-covering : goal.returns-then-is_empty-clause-covering
returns-then-is_empty-clause-covering c =
    let h = c.args.history.now in
    let parts = map arc_value c.args.tables.now in
    let numbered : AreNumbered (cut_in h) = cut_numbered h.entries (cut_in h) c.shows_cut.ensures.cut in
    let legal : IsLegal (history_over (cut_in h) parts) = subst IsLegal c.requires.full c.shows_cut.ensures.legal in
    let unflushed = c.if-flushed-eq0.true in
    let none : length c.args.tables.now ≡ 0 = eqb-true _ _ (sym c.is_empty.ensures ∙ c.if-is_empty.true) in
    λ edit same. (
      λ _. all_in_memory (cut_in h) edit parts numbered (omega (arith, c.requires.base, unflushed)) (sym same ∙ unflushed) (length-map c.args.tables.now arc_value ∙ none) legal,
      λ _. refl,
    )

pub tables_cover-requires-clause-fixed : goal.tables_cover-requires-clause-fixed
tables_cover-requires-clause-fixed c =
    let h = c.args.history.now in
    let parts = map arc_value c.args.tables.now in
    let numbered : AreNumbered (cut_in h) = cut_numbered h.entries (cut_in h) c.shows_cut.ensures.cut in
    fixed_own (cut_in h) parts numbered h c.args.flushed refl c.requires.full c.requires.base

pub returns-clause-covering : goal.returns-clause-covering
returns-clause-covering c = λ edit same.
    let h = c.args.history.now in
    let parts = map arc_value c.args.tables.now in
    let numbered : AreNumbered (cut_in h) = cut_numbered h.entries (cut_in h) c.shows_cut.ensures.cut in
    let full = c.requires.full in
    let legal : IsLegal (history_over (cut_in h) parts) = subst IsLegal full c.shows_cut.ensures.legal in
    let low : h.base ≤ edit.flushed = omega (arith, c.requires.base, same) in
    let high : edit.flushed ≤ length (history_over (cut_in h) parts) = omega (arith, c.requires.within, same, ap (λ (es : List Entry). length es) full) in
    let asked : (yes : Bool) → (yes ≡ true) ↔ IsCovered (joined parts ++ later_versions h.entries c.args.flushed) h.entries [] (length h.entries) → (yes ≡ true) ↔ AreCovering (cut_in h) edit parts =
    λ yes.
    subst (λ (es : List Entry). (yes ≡ true) ↔ IsCovered (joined parts ++ later_versions es c.args.flushed) es [] (length es) → (yes ≡ true) ↔ AreCovering (cut_in h) edit parts) (sym full)
    (subst (λ (n : ℕ). (yes ≡ true) ↔ IsCovered (joined parts ++ later_versions (history_over (cut_in h) parts) n) (history_over (cut_in h) parts) [] (length (history_over (cut_in h) parts)) → (yes ≡ true) ↔ AreCovering (cut_in h) edit parts) (sym same)
    (covering_is (cut_in h) edit parts numbered legal c.requires.below low high yes)) in
    IfOk-weaker c.tables_cover.result _ (λ yes. (yes ≡ true) ↔ AreCovering (cut_in h) edit parts) asked c.tables_cover.ensures
