use Rattle.std.proofs.Common.{inr, sym, subst}
use Rattle.std.proofs.lemmas.Result.{on_err_weaker}
use Rattle.wp_text.specs.declared.script.Command.TheVariants as command
use Rattle.wp_client.specs.Holdings.{client_of, Holds}
use Rattle.wp_client.proofs.WholeClients.{if_broken, whole_answers, whole_breaks, any_answers, held_answers, any_breaks, kept_breaks, whole_holds}
use Rattle.wp_client.proofs.Staying.{keeps_holds}
use Rattle.wp_answers.proofs.answering.obey.Goals as goal

pub change-requires-clause-has : goal.change-requires-clause-has
change-requires-clause-has g c = (subst (Holds c.args.store.now c.args.seat.now) (sym c.held-in-Put.view_is) c.requires).txn

pub returns-in-Put-clause-holds : goal.returns-in-Put-clause-holds
returns-in-Put-clause-holds g c = whole_holds c.args.store.now c.args.seat.now c.change.new.seat c.held-in-Put.inside.txn c.change.new.txn c.held-in-Put.inside.snapshots.items c.change.ensures.holds (subst (Holds c.args.store.now c.args.seat.now) (sym c.held-in-Put.view_is) c.requires)

pub returns-in-Put-clause-answered : goal.returns-in-Put-clause-answered
returns-in-Put-clause-answered g c = rw (← c.held-in-Put.view_is)
    (whole_answers c.args.store.now c.args.seat.now c.change.new.seat c.args.command.now c.change.result c.held-in-Put.inside.txn c.change.new.txn c.held-in-Put.inside.snapshots.items c.change.ensures.answered)

pub returns-in-Put-clause-err : goal.returns-in-Put-clause-err
returns-in-Put-clause-err g c = rw (← c.held-in-Put.view_is)
    (whole_breaks c.args.store.now c.args.seat.now c.change.new.seat c.args.command.now c.change.result c.held-in-Put.inside.txn c.change.new.txn c.held-in-Put.inside.snapshots.items c.change.ensures.err)

pub get-requires : goal.get-requires
get-requires g c = (subst (Holds c.args.store.now c.args.seat.now) (sym c.held.view_is) c.requires).txn

pub scan-requires : goal.scan-requires
scan-requires g c = (subst (Holds c.args.store.now c.args.seat.now) (sym c.held-in-Scan.view_is) c.requires).txn

pub returns-in-Get-clause-holds : goal.returns-in-Get-clause-holds
returns-in-Get-clause-holds g c = rw (← c.held.view_is) (keeps_holds c.args.store.now c.args.seat.now c.get.new.seat c.get.ensures.goes_on (record { txn = c.held.inside.txn; snapshots = c.held.inside.snapshots.items }) (subst (Holds c.args.store.now c.args.seat.now) (sym c.held.view_is) c.requires))

pub returns-in-Scan-clause-holds : goal.returns-in-Scan-clause-holds
returns-in-Scan-clause-holds g c = rw (← c.held-in-Scan.view_is) (keeps_holds c.args.store.now c.args.seat.now c.scan.new.seat c.scan.ensures.goes_on (record { txn = c.held-in-Scan.inside.txn; snapshots = c.held-in-Scan.inside.snapshots.items }) (subst (Holds c.args.store.now c.args.seat.now) (sym c.held-in-Scan.view_is) c.requires))

pub returns-in-Get-clause-answered : goal.returns-in-Get-clause-answered
returns-in-Get-clause-answered g c = rw (c.in-Get.is, ← c.held.view_is)
    (whole_answers c.args.store.now c.args.seat.now c.get.new.seat (command.Get c.in-Get.key) c.get.result c.held.inside.txn c.held.inside.txn c.held.inside.snapshots.items c.get.ensures.answered)

pub returns-in-Scan-clause-answered : goal.returns-in-Scan-clause-answered
returns-in-Scan-clause-answered g c = rw (c.in-Scan.is, ← c.held-in-Scan.view_is)
    (whole_answers c.args.store.now c.args.seat.now c.scan.new.seat (command.Scan c.in-Scan.from c.in-Scan.to) c.scan.result c.held-in-Scan.inside.txn c.held-in-Scan.inside.txn c.held-in-Scan.inside.snapshots.items c.scan.ensures.answered)

pub returns-in-Get-clause-err : goal.returns-in-Get-clause-err
returns-in-Get-clause-err g c = kept_breaks c.args.store.now c.args.seat.now c.get.new.seat c.args.command.now c.get.result (client_of c.args.held.now) c.get.ensures.goes_on

pub returns-in-Scan-clause-err : goal.returns-in-Scan-clause-err
returns-in-Scan-clause-err g c = kept_breaks c.args.store.now c.args.seat.now c.scan.new.seat c.args.command.now c.scan.result (client_of c.args.held.now) c.scan.ensures.goes_on

pub returns-in-GetAt-clause-holds : goal.returns-in-GetAt-clause-holds
returns-in-GetAt-clause-holds g c = keeps_holds c.args.store.now c.args.seat.now c.get_at.new.seat c.get_at.ensures.goes_on c.args.held.now c.requires

pub returns-in-ScanAt-clause-holds : goal.returns-in-ScanAt-clause-holds
returns-in-ScanAt-clause-holds g c = keeps_holds c.args.store.now c.args.seat.now c.scan_at.new.seat c.scan_at.ensures.goes_on c.args.held.now c.requires

pub returns-in-GetAt-clause-answered : goal.returns-in-GetAt-clause-answered
returns-in-GetAt-clause-answered g c = rw c.in-GetAt.is c.get_at.ensures.answered

pub returns-in-ScanAt-clause-answered : goal.returns-in-ScanAt-clause-answered
returns-in-ScanAt-clause-answered g c = rw c.in-ScanAt.is c.scan_at.ensures.answered

pub returns-in-GetAt-clause-err : goal.returns-in-GetAt-clause-err
returns-in-GetAt-clause-err g c = kept_breaks c.args.store.now c.args.seat.now c.get_at.new.seat c.args.command.now c.get_at.result (client_of c.args.held.now) c.get_at.ensures.goes_on

pub returns-in-ScanAt-clause-err : goal.returns-in-ScanAt-clause-err
returns-in-ScanAt-clause-err g c = kept_breaks c.args.store.now c.args.seat.now c.scan_at.new.seat c.args.command.now c.scan_at.result (client_of c.args.held.now) c.scan_at.ensures.goes_on

pub returns-in-Snap-clause-answered : goal.returns-in-Snap-clause-answered
returns-in-Snap-clause-answered g c = rw c.in-Snap.is c.snap.ensures.answered

pub returns-in-Snap-clause-err : goal.returns-in-Snap-clause-err
returns-in-Snap-clause-err g c = rw c.in-Snap.is c.snap.ensures.err

pub returns-in-Free-clause-answered : goal.returns-in-Free-clause-answered
returns-in-Free-clause-answered g c = rw c.in-Free.is c.free.ensures.answered

pub returns-in-Free-clause-err : goal.returns-in-Free-clause-err
returns-in-Free-clause-err g c = rw c.in-Free.is c.free.ensures.err

pub tell-requires : goal.tell-requires
tell-requires g c = c.requires.txn.free

pub returns-in-Tell-clause-holds : goal.returns-in-Tell-clause-holds
returns-in-Tell-clause-holds g c = c.tell.ensures.holds c.args.held.now c.requires

pub returns-in-Tell-clause-answered : goal.returns-in-Tell-clause-answered
returns-in-Tell-clause-answered g c = rw c.in-Tell.is (any_answers c.args.store.now c.args.seat.now c.tell.new.seat (command.Tell c.in-Tell.label) c.tell.result (client_of c.args.held.now) c.tell.ensures.answered)

pub returns-in-Tell-clause-err : goal.returns-in-Tell-clause-err
returns-in-Tell-clause-err g c = rw c.in-Tell.is (any_breaks c.args.store.now c.args.seat.now c.tell.new.seat (command.Tell c.in-Tell.label) c.tell.result (client_of c.args.held.now) c.tell.ensures.err)

pub hear-requires : goal.hear-requires
hear-requires g c = c.requires.txn.free

pub returns-in-Hear-clause-holds : goal.returns-in-Hear-clause-holds
returns-in-Hear-clause-holds g c = c.hear.ensures.holds c.args.held.now c.requires

pub returns-in-Hear-clause-answered : goal.returns-in-Hear-clause-answered
returns-in-Hear-clause-answered g c = rw c.in-Hear.is (any_answers c.args.store.now c.args.seat.now c.hear.new.seat (command.Hear c.in-Hear.label) c.hear.result (client_of c.args.held.now) c.hear.ensures.answered)

pub returns-in-Hear-clause-err : goal.returns-in-Hear-clause-err
returns-in-Hear-clause-err g c = rw c.in-Hear.is (any_breaks c.args.store.now c.args.seat.now c.hear.new.seat (command.Hear c.in-Hear.label) c.hear.result (client_of c.args.held.now) c.hear.ensures.err)

pub change_txn-requires-clause-has : goal.change_txn-requires-clause-has
change_txn-requires-clause-has g c = (subst (Holds c.args.store.now c.args.seat.now) (sym c.held-in-Begin.view_is) c.requires).txn

pub returns-in-Begin-clause-holds : goal.returns-in-Begin-clause-holds
returns-in-Begin-clause-holds g c =
    whole_holds c.args.store.now c.args.seat.now c.change_txn.new.seat c.held-in-Begin.inside.txn c.change_txn.new.txn c.held-in-Begin.inside.snapshots.items c.change_txn.ensures.holds (subst (Holds c.args.store.now c.args.seat.now) (sym c.held-in-Begin.view_is) c.requires)

pub returns-in-Begin-clause-answered : goal.returns-in-Begin-clause-answered
returns-in-Begin-clause-answered g c = rw (← c.held-in-Begin.view_is)
    (whole_answers c.args.store.now c.args.seat.now c.change_txn.new.seat c.args.command.now c.change_txn.result c.held-in-Begin.inside.txn c.change_txn.new.txn c.held-in-Begin.inside.snapshots.items c.change_txn.ensures.answered)

pub returns-in-Begin-clause-err : goal.returns-in-Begin-clause-err
returns-in-Begin-clause-err g c = rw (← c.held-in-Begin.view_is)
    (whole_breaks c.args.store.now c.args.seat.now c.change_txn.new.seat c.args.command.now c.change_txn.result c.held-in-Begin.inside.txn c.change_txn.new.txn c.held-in-Begin.inside.snapshots.items c.change_txn.ensures.err)

pub flush-requires : goal.flush-requires
flush-requires g c = c.requires.txn.free

pub returns-in-Flush-clause-holds : goal.returns-in-Flush-clause-holds
returns-in-Flush-clause-holds g c = c.flush.ensures.holds c.args.held.now c.requires

pub returns-in-Flush-clause-answered : goal.returns-in-Flush-clause-answered
returns-in-Flush-clause-answered g c = rw c.in-Flush.is (any_answers c.args.store.now c.args.seat.now c.flush.new.seat command.Flush c.flush.result (client_of c.args.held.now) c.flush.ensures.answered)

pub returns-in-Flush-clause-err : goal.returns-in-Flush-clause-err
returns-in-Flush-clause-err g c = rw c.in-Flush.is (any_breaks c.args.store.now c.args.seat.now c.flush.new.seat command.Flush c.flush.result (client_of c.args.held.now) c.flush.ensures.err)

pub compact-requires : goal.compact-requires
compact-requires g c = c.requires.txn.free

pub returns-in-Compact-clause-holds : goal.returns-in-Compact-clause-holds
returns-in-Compact-clause-holds g c = c.compact.ensures.holds c.args.held.now c.requires

pub returns-in-Compact-clause-answered : goal.returns-in-Compact-clause-answered
returns-in-Compact-clause-answered g c = rw c.in-Compact.is (held_answers c.args.store.now c.args.seat.now c.compact.new.seat command.Compact c.compact.result c.args.held.now c.requires c.compact.ensures.answered)

pub returns-in-Compact-clause-err : goal.returns-in-Compact-clause-err
returns-in-Compact-clause-err g c = rw c.in-Compact.is (any_breaks c.args.store.now c.args.seat.now c.compact.new.seat command.Compact c.compact.result (client_of c.args.held.now) c.compact.ensures.err)

pub renew-requires : goal.renew-requires
renew-requires g c = c.requires.txn.free

pub returns-in-Renew-clause-holds : goal.returns-in-Renew-clause-holds
returns-in-Renew-clause-holds g c = c.renew.ensures.holds c.args.held.now c.requires

pub returns-in-Renew-clause-answered : goal.returns-in-Renew-clause-answered
returns-in-Renew-clause-answered g c = rw c.in-Renew.is (any_answers c.args.store.now c.args.seat.now c.renew.new.seat command.Renew c.renew.result (client_of c.args.held.now) c.renew.ensures.answered)

pub returns-in-Renew-clause-err : goal.returns-in-Renew-clause-err
returns-in-Renew-clause-err g c = rw c.in-Renew.is (any_breaks c.args.store.now c.args.seat.now c.renew.new.seat command.Renew c.renew.result (client_of c.args.held.now) c.renew.ensures.err)

pub returns-in-Put-clause-uncalled : goal.returns-in-Put-clause-uncalled
returns-in-Put-clause-uncalled g c = rw (← c.held-in-Put.view_is) c.change.ensures.uncalled

pub returns-in-Begin-clause-uncalled : goal.returns-in-Begin-clause-uncalled
returns-in-Begin-clause-uncalled g c = rw (← c.held-in-Begin.view_is) c.change_txn.ensures.uncalled

pub returns-in-Get-clause-uncalled : goal.returns-in-Get-clause-uncalled
returns-in-Get-clause-uncalled g c = rw c.in-Get.is (if_broken c.get.result (inr tt))

pub returns-in-Scan-clause-uncalled : goal.returns-in-Scan-clause-uncalled
returns-in-Scan-clause-uncalled g c = rw c.in-Scan.is (if_broken c.scan.result (inr tt))

pub returns-in-GetAt-clause-uncalled : goal.returns-in-GetAt-clause-uncalled
returns-in-GetAt-clause-uncalled g c = rw c.in-GetAt.is (if_broken c.get_at.result (inr tt))

pub returns-in-ScanAt-clause-uncalled : goal.returns-in-ScanAt-clause-uncalled
returns-in-ScanAt-clause-uncalled g c = rw c.in-ScanAt.is (if_broken c.scan_at.result (inr tt))

pub returns-in-Snap-clause-uncalled : goal.returns-in-Snap-clause-uncalled
returns-in-Snap-clause-uncalled g c = rw c.in-Snap.is (if_broken c.snap.result (inr tt))

pub returns-in-Free-clause-uncalled : goal.returns-in-Free-clause-uncalled
returns-in-Free-clause-uncalled g c = rw c.in-Free.is (if_broken c.free.result (inr tt))

pub returns-in-Tell-clause-uncalled : goal.returns-in-Tell-clause-uncalled
returns-in-Tell-clause-uncalled g c = rw c.in-Tell.is (if_broken c.tell.result (inr tt))

pub returns-in-Hear-clause-uncalled : goal.returns-in-Hear-clause-uncalled
returns-in-Hear-clause-uncalled g c = rw c.in-Hear.is (if_broken c.hear.result (inr tt))

pub returns-in-Flush-clause-uncalled : goal.returns-in-Flush-clause-uncalled
returns-in-Flush-clause-uncalled g c = rw c.in-Flush.is (on_err_weaker c.flush.result (λ k. k c.args.held.now.txn) c.flush.ensures.uncalled)

pub returns-in-Compact-clause-uncalled : goal.returns-in-Compact-clause-uncalled
returns-in-Compact-clause-uncalled g c = rw c.in-Compact.is (on_err_weaker c.compact.result (λ k. k c.args.held.now.txn) c.compact.ensures.uncalled)

pub returns-in-Renew-clause-uncalled : goal.returns-in-Renew-clause-uncalled
returns-in-Renew-clause-uncalled g c = rw c.in-Renew.is (on_err_weaker c.renew.result (λ k. k c.args.held.now.txn) c.renew.ensures.uncalled)

pub pin-requires : goal.pin-requires
pin-requires g c = (subst (Holds c.args.store.now c.args.seat.now) (sym c.held-in-Pin.view_is) c.requires).txn

pub returns-in-Pin-clause-holds : goal.returns-in-Pin-clause-holds
returns-in-Pin-clause-holds g c = whole_holds c.args.store.now c.args.seat.now c.pin.new.seat c.held-in-Pin.inside.txn c.pin.new.txn c.held-in-Pin.inside.snapshots.items c.pin.ensures.holds (subst (Holds c.args.store.now c.args.seat.now) (sym c.held-in-Pin.view_is) c.requires)

pub returns-in-Pin-clause-answered : goal.returns-in-Pin-clause-answered
returns-in-Pin-clause-answered g c = rw (c.in-Pin.is, ← c.held-in-Pin.view_is)
    (whole_answers c.args.store.now c.args.seat.now c.pin.new.seat command.Pin c.pin.result c.held-in-Pin.inside.txn c.pin.new.txn c.held-in-Pin.inside.snapshots.items c.pin.ensures.answered)

pub returns-in-Pin-clause-err : goal.returns-in-Pin-clause-err
returns-in-Pin-clause-err g c = rw (c.in-Pin.is, ← c.held-in-Pin.view_is)
    (whole_breaks c.args.store.now c.args.seat.now c.pin.new.seat command.Pin c.pin.result c.held-in-Pin.inside.txn c.pin.new.txn c.held-in-Pin.inside.snapshots.items c.pin.ensures.err)

pub returns-in-Pin-clause-uncalled : goal.returns-in-Pin-clause-uncalled
returns-in-Pin-clause-uncalled g c = rw c.in-Pin.is (if_broken c.pin.result (inr tt))

pub lock-requires : goal.lock-requires
lock-requires g c = (subst (Holds c.args.store.now c.args.seat.now) (sym c.held-in-Lock.view_is) c.requires).txn

pub returns-in-Lock-clause-holds : goal.returns-in-Lock-clause-holds
returns-in-Lock-clause-holds g c = whole_holds c.args.store.now c.args.seat.now c.lock.new.seat c.held-in-Lock.inside.txn c.lock.new.txn c.held-in-Lock.inside.snapshots.items c.lock.ensures.holds (subst (Holds c.args.store.now c.args.seat.now) (sym c.held-in-Lock.view_is) c.requires)

pub returns-in-Lock-clause-answered : goal.returns-in-Lock-clause-answered
returns-in-Lock-clause-answered g c = rw (c.in-Lock.is, ← c.held-in-Lock.view_is)
    (whole_answers c.args.store.now c.args.seat.now c.lock.new.seat (command.Lock c.in-Lock.key) c.lock.result c.held-in-Lock.inside.txn c.lock.new.txn c.held-in-Lock.inside.snapshots.items c.lock.ensures.answered)

pub returns-in-Lock-clause-err : goal.returns-in-Lock-clause-err
returns-in-Lock-clause-err g c = rw (c.in-Lock.is, ← c.held-in-Lock.view_is)
    (whole_breaks c.args.store.now c.args.seat.now c.lock.new.seat (command.Lock c.in-Lock.key) c.lock.result c.held-in-Lock.inside.txn c.lock.new.txn c.held-in-Lock.inside.snapshots.items c.lock.ensures.err)

pub returns-in-Lock-clause-uncalled : goal.returns-in-Lock-clause-uncalled
returns-in-Lock-clause-uncalled g c = rw c.in-Lock.is (if_broken c.lock.result (inr tt))

pub settle-requires : goal.settle-requires
settle-requires g c = (subst (Holds c.args.store.now c.args.seat.now) (sym c.held-in-Settle.view_is) c.requires).txn

pub returns-in-Settle-clause-holds : goal.returns-in-Settle-clause-holds
returns-in-Settle-clause-holds g c = rw (← c.held-in-Settle.view_is)
    (whole_holds c.args.store.now c.args.seat.now c.settle.new.seat c.held-in-Settle.inside.txn c.held-in-Settle.inside.txn c.held-in-Settle.inside.snapshots.items c.settle.ensures.holds (subst (Holds c.args.store.now c.args.seat.now) (sym c.held-in-Settle.view_is) c.requires))

pub returns-in-Settle-clause-answered : goal.returns-in-Settle-clause-answered
returns-in-Settle-clause-answered g c = rw (c.in-Settle.is, ← c.held-in-Settle.view_is)
    (whole_answers c.args.store.now c.args.seat.now c.settle.new.seat (command.Settle c.in-Settle.names) c.settle.result c.held-in-Settle.inside.txn c.held-in-Settle.inside.txn c.held-in-Settle.inside.snapshots.items c.settle.ensures.answered)

pub returns-in-Settle-clause-err : goal.returns-in-Settle-clause-err
returns-in-Settle-clause-err g c = rw (c.in-Settle.is, ← c.held-in-Settle.view_is)
    (whole_breaks c.args.store.now c.args.seat.now c.settle.new.seat (command.Settle c.in-Settle.names) c.settle.result c.held-in-Settle.inside.txn c.held-in-Settle.inside.txn c.held-in-Settle.inside.snapshots.items c.settle.ensures.err)

pub returns-in-Settle-clause-uncalled : goal.returns-in-Settle-clause-uncalled
returns-in-Settle-clause-uncalled g c = rw (c.in-Settle.is, ← c.held-in-Settle.view_is) c.settle.ensures.uncalled
