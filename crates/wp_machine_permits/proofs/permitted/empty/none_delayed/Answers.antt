use Rattle.std.proofs.Common.{rules, ◌≡◌, true, false, nat_eq, length, sym, refl}
use Rattle.wp_machine_permits.proofs.Searches.{none_delayed, some_delayed}
use Rattle.wp_machine_permits.proofs.permitted.empty.none_delayed.Goals as goal

pub returns : goal.returns
returns c =
    let none : nat_eq (length c.prepared.inside.delayed.items) 0 ≡ true = search rules in
    let pairs : c.is_no_pair.result ≡ nat_eq (length c.prepared.inside.delayed_commits.items) 0 = search rules in
    none_delayed c.args.prepared.now c.prepared.inside.heap.items c.prepared.inside.delayed.items c.prepared.inside.delayed_commits.items (sym c.prepared.view_is) none c.is_no_pair.result pairs

pub returns-then-not-is_no_number : goal.returns-then-not-is_no_number
returns-then-not-is_no_number c =
    let there : nat_eq (length c.prepared.inside.delayed.items) 0 ≡ false = search rules in
    some_delayed c.args.prepared.now c.prepared.inside.heap.items c.prepared.inside.delayed.items c.prepared.inside.delayed_commits.items (sym c.prepared.view_is) there false refl
