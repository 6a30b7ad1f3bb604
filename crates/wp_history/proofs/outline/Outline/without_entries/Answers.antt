use Rattle.std.proofs.Common.{rules}
use Rattle.wp_history.proofs.Full.{full_none}
use Rattle.wp_history.proofs.Kept.{kept_nothing}
use Rattle.wp_history.proofs.outline.Outline.without_entries.Goals as goal

pub invariant_of-result : goal.invariant_of-result
invariant_of-result c = (
  rw (c.new-carried.ensures.items, c.requires, c.of-undecided.ensures, c.new.ensures.items) (kept_nothing _),
  search rules,
  search rules,
)

pub returns-clause-entries : goal.returns-clause-entries
returns-clause-entries c = rw (c.new-carried.ensures.items, c.requires) (full_none _)
