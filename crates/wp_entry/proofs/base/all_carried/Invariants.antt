use Rattle.std.proofs.Common.{◌≡◌, ◌-◌, []}
use Rattle.wp_entry.specs.BaseReading.{carried_after}
use Rattle.wp_entry.proofs.base.all_carried.Given as goal

abbrev pub invariant-loop : goal.invariant-loop
invariant-loop l = carried_after (l.count - l.counter) l.base l.last l.carried.items l.fields ≡ carried_after l.count l.base 0 [] l.fn.fields
