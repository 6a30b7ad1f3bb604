use Rattle.std.proofs.Common.{◌≡◌, ℕ, ◌≤◌, ◌&&◌, ◌||◌, nat_lt, nat_le}
use Rattle.std.specs.FinSet as set
use Rattle.wp_prepared.proofs.prepared.Prepared.advance.Given as goal

-- what the sets are to become stays the same at each step, and the moves that are left fit
abbrev pub invariant-loop-p : goal.invariant-loop-p
invariant-loop-p l = record {
  heap : (q : ℕ) → (set.contains l.self-inside.heap q && nat_lt l.m q) ≡ (set.contains l.fn.self.heap q && nat_lt l.m q);
  delayed : (q : ℕ) → (set.contains l.self-inside.delayed.numbers q || (set.contains l.self-inside.heap q && nat_le q l.m)) ≡ (set.contains l.fn.self.delayed q || (set.contains l.fn.self.heap q && nat_le q l.m));
  delayed_commits : l.self-inside.delayed.commits ≡ l.fn.self.delayed_commits;
  room : set.len l.self-inside.heap ≤ l.self-inside.delayed.room;
}

abbrev pub decreases-loop-p : goal.decreases-loop-p
decreases-loop-p l = set.len l.self-inside.heap
