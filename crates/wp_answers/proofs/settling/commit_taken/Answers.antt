use Rattle.std.proofs.Common.{◌≡◌, sym, subst}
use Rattle.wp_txn.specs.Groups.{ArePrepared}
use Rattle.wp_answers.specs.Settling.{HoldsTxns}
use Rattle.wp_answers.proofs.Settles.{refused_all_goes, holds_on, committed_none}
use Rattle.wp_answers.proofs.settling.commit_taken.Goals as goal

pub commit_all-requires-clause-free : goal.commit_all-requires-clause-free
commit_all-requires-clause-free g c = c.requires.has.free

pub commit_all-requires-clause-prepared : goal.commit_all-requires-clause-prepared
commit_all-requires-clause-prepared g c = c.requires.has.have

pub returns-in-Ok-clause-committed : goal.returns-in-Ok-clause-committed
returns-in-Ok-clause-committed g c =
    let k = c.in-Ok.ensures.ok in record { commits = k; holds = committed_none c.args.store.now c.args.seat.now c.commit_all.new.seat c.args.txns.items c.in-Ok.last c.requires.has k }

pub leave_all-requires : goal.leave_all-requires
leave_all-requires g c =
    let z = c.args.store.now in let s = c.args.seat.now in let t = c.commit_all.new.seat in let k = c.in-Err.ensures.refused in
    let goes = refused_all_goes z s t c.args.txns.items c.in-Err.field-0.why k.2 in
    subst (HoldsTxns z t) (sym k.0) (holds_on z s t c.args.txns.items c.requires.has goes.0 (subst (ArePrepared t) k.0 k.1) goes.1)

pub returns-in-Err-clause-refused : goal.returns-in-Err-clause-refused
returns-in-Err-clause-refused g c = record { behind = c.commit_all.new.seat; refused = (c.in-Err.ensures.refused).2; before_log = c.in-Err.ensures.before_log; leaves = c.leave_all.ensures }
