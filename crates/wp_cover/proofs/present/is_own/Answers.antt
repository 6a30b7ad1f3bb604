use Rattle.std.proofs.Common.{Some, refl, sym, ap, ◌∙◌, inl, inr}
use Rattle.wp_model.specs.Decision.{entry_version}
use Rattle.wp_cover.proofs.present.is_own.Goals as goal

pub returns-then-is_fixed : goal.returns-then-is_fixed
returns-then-is_fixed c = (λ _. inl (sym c.is_fixed.ensures.value ∙ c.if-is_fixed.true), λ _. refl)

pub returns : goal.returns
returns c =
    let due = c.entry_version-due.ensures ∙ ap (entry_version c.args.history.now.entries c.args.version.now.number) c.bytes.ensures.value in
    let value = ap (λ v. Some v) (c.bytes_of.ensures ∙ c.as_ref.ensures.value) in (
      λ yes. inr (sym due ∙ c.are_same.ensures.0 yes ∙ value),
      λ own. elim own [
        | inl fixed ↦ let no = sym c.is_fixed.ensures.value ∙ c.if-is_fixed.false in absurd cc
        | inr is ↦ c.are_same.ensures.1 (due ∙ is ∙ sym value)
      ],
    )
