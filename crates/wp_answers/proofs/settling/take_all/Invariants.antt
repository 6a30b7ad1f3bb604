use Rattle.std.proofs.Common.{◌≡◌, ◌≤◌, length, take, vec_len, vec_capacity}
use Rattle.wp_answers.specs.Settling.{HasTaken}
use Rattle.wp_answers.proofs.settling.take_all.Given as goal

-- the names so far are taken, and there is room for all
abbrev pub invariant-loop-name : goal.invariant-loop-name
invariant-loop-name g l = record {
  taken : HasTaken l.store l.fn.seat (take l.name-index l.names) l.txns.items l.seat;
  count : vec_len l.txns ≡ l.name-index;
  room : length l.names ≤ vec_capacity l.txns;
}
