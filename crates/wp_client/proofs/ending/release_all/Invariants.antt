use Rattle.std.specs.Prelude.{length}
use Rattle.wp_client.specs.declared.holdings.HeldTxn.{HeldTxn}
use Rattle.wp_client.specs.Ends.{LetsGo}
use Rattle.wp_client.specs.Holdings.{Holds}
use Rattle.wp_client.proofs.ending.release_all.Given as goal

abbrev pub invariant-loop-last : goal.invariant-loop-last
invariant-loop-last g l = (txn : HeldTxn) → Holds l.store l.fn.seat (record { txn = txn; snapshots = l.fn.snapshots.items })
    → LetsGo l.store l.fn.seat l.seat (record { txn = txn; snapshots = l.fn.snapshots.items }) (record { txn = txn; snapshots = l.snapshots.items })

abbrev pub decreases-loop-last : goal.decreases-loop-last
decreases-loop-last g l = length l.snapshots.items
