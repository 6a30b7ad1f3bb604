use Rattle.std.proofs.Common.{rules}
use Rattle.wp_memtable.proofs.Between.{within_changes}
use Rattle.wp_memtable.proofs.Listed.{in_order-versions_in}
use Rattle.wp_memtable.proofs.memtable.Memtable.insert.Goals as goal

pub returns-clause-ok : goal.returns-clause-ok
returns-clause-ok c = record {
  in_order = in_order-versions_in _ c.put_changes.ensures.well_ordered;
  each = λ key m. rw (← c.self.view_is, ← c.changes-changes.ensures.value) (c.in_ok-self-inside.ensures.each key m);
}

pub invariant_of-self-2 : goal.invariant_of-self-2
invariant_of-self-2 c =
    let well_ordered = c.put_changes.ensures.well_ordered in
    (well_ordered, search rules, rw (c.min-self-inside.ensures, c.max-self-inside.ensures) (within_changes _ _ c.args.n c.args.batch.now _ _ (record { in_order = in_order-versions_in _ well_ordered; each = λ key m. rw (← c.changes-changes.ensures.value) (c.in_ok-self-inside.ensures.each key m) }) c.self.invariant.2))
