use Rattle.std.proofs.Common.{◌≡◌, ◌-◌, []}
use Rattle.wp_entry.specs.Reading.{commits_after}
use Rattle.wp_entry.proofs.reading.all_commits.Given as goal

abbrev pub invariant-loop : goal.invariant-loop
invariant-loop l = commits_after (l.count - l.counter) l.format l.due l.commits.items l.fields ≡ commits_after l.count l.format l.due [] l.fn.fields
