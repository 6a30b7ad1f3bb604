use Rattle.std.proofs.Common.{[], refl, sym, ◌∙◌, rules}
use Rattle.wp_cuts.proofs.FullList.{full_is_cut}
use Rattle.wp_history.specs.History.{cut_of}
use Rattle.wp_history.proofs.Apart.{are_apart}
use Rattle.wp_history.proofs.Holding.{carried_at_base}
use Rattle.wp_history.proofs.Kept.{kept_at_base}
use Rattle.wp_history.proofs.outline.Outline.from_base.Goals as goal

pub invariant_of-result : goal.invariant_of-result
invariant_of-result c = (
  rw c.new-later.ensures.items (kept_at_base _ _ _ _ c.requires.few c.requires.numbered (are_apart _ _ c.requires.ascending c.requires.apart) (c.of-undecided.ensures ∙ (rw c.deref.ensures.value at c.in_ok-numbers.ensures))),
  search rules,
  search rules,
)

pub returns-clause-entries : goal.returns-clause-entries
returns-clause-entries c = rw (c.new-later.ensures.items, c.no_versions-versions.ensures) refl

pub returns-clause-cut : goal.returns-clause-cut
returns-clause-cut c = rw c.new-later.ensures.items (sym (full_is_cut (cut_of c.args.base c.args.carried.items []) _ (record { ascend = c.requires.numbered.ascend; within = c.requires.numbered.within })).is)

pub returns-clause-carried : goal.returns-clause-carried
returns-clause-carried c = rw (c.new-later.ensures.items, c.no_versions-versions.ensures) (carried_at_base c.args.base c.args.carried.items c.requires.numbered)
