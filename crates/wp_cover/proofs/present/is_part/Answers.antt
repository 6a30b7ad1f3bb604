use Rattle.std.proofs.Common.{refl, sym, ap, ◌∙◌, inl, inr, true≢false}
use Rattle.wp_model.specs.declared.version.Version.{Version}
use Rattle.wp_model.specs.Versions.{version_at}
use Rattle.wp_cover.specs.Sources.{all_of}
use Rattle.wp_cover.proofs.present.is_part.Goals as goal

pub returns-then-is_fixed : goal.returns-then-is_fixed
returns-then-is_fixed c = (λ _. inl (inl (sym c.is_fixed.ensures.value ∙ c.if-is_fixed.true)), λ _. refl)

pub returns-then-are_same : goal.returns-then-are_same
returns-then-are_same c = (λ _. inl (inr (sym c.entry_version-due.ensures ∙ c.are_same.ensures.0 c.if-are_same.true)), λ _. refl)

pub returns : goal.returns
returns c =
    let found = c.find.ensures ∙ ap (λ (v : Version). version_at (all_of c.args.sources.now) v.key v.number) c.in_ok-copy.ensures in (
      λ yes. inr (sym c.entry_version-due.ensures ∙ c.are_same-2.ensures.0 yes ∙ found),
      λ part. elim part [
        | inl (inl fixed) ↦ absurd (true≢false (sym fixed ∙ sym c.is_fixed.ensures.value ∙ c.if-is_fixed.false))
        | inl (inr own) ↦ absurd (true≢false (sym (c.are_same.ensures.1 (c.entry_version-due.ensures ∙ own)) ∙ c.if-are_same.false))
        | inr same ↦ c.are_same-2.ensures.1 (c.entry_version-due.ensures ∙ same ∙ sym found)
      ],
    )
