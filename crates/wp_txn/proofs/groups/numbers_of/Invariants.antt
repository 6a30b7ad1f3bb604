use Rattle.std.proofs.Common.{◌≡◌, take}
use Rattle.wp_txn.specs.Groups.{numbers_of}
use Rattle.wp_txn.proofs.groups.numbers_of.Given as goal

abbrev pub invariant-loop-txn : goal.invariant-loop-txn
invariant-loop-txn l = l.numbers.items ≡ numbers_of (take l.txn-index l.txns)
