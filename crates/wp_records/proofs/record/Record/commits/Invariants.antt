use Rattle.std.proofs.Common.{◌≡◌, map, take}
use Rattle.wp_model.specs.declared.entry.Entry.TheVariants.{Commit}
use Rattle.wp_records.proofs.record.Record.commits.Given as goal

abbrev pub invariant-loop-p : goal.invariant-loop-p
invariant-loop-p l = l.entries.items ≡ map (λ p. Commit p) (take l.p-index l.numbers)
