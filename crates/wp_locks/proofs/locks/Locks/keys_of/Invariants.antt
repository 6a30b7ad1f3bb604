use Rattle.std.proofs.Common.{◌≡◌, ◌++◌}
use Rattle.wp_locks.proofs.Beyond.{all_beyond}
use Rattle.wp_locks.proofs.locks.Locks.keys_of.Given as goal

abbrev pub invariant-loop-key : goal.invariant-loop-key
invariant-loop-key l = l.keys.items ++ all_beyond l.name l.batch l.key-iterator ≡ all_beyond l.name l.batch l.self-inside.keys.entries
