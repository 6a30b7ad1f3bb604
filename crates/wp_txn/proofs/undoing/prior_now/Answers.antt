use Rattle.std.proofs.Common.{◌≡◌, take}
use Rattle.std.proofs.lemmas.Result.{IfOk-weaker}
use Rattle.wp_model.specs.Legal.{prior}
use Rattle.wp_txn.specs.Recording.{IsPriorSince}
use Rattle.wp_txn.proofs.RollsBack.{is_registered, is_registered_still, released, had_prior}
use Rattle.wp_txn.proofs.undoing.prior_now.Goals as goal

pub prior-found-requires-clause-registered : goal.prior-found-requires-clause-registered
prior-found-requires-clause-registered g c = is_registered c.args.store.now c.args.seat.now c.brief_snapshot.new.seat c.in_ok-taken.taken c.in_ok-taken.ensures.registered

pub release-requires-clause-registered : goal.release-requires-clause-registered
release-requires-clause-registered g c =
    is_registered_still c.args.store.now c.args.seat.now c.brief_snapshot.new.seat c.in_ok-taken.taken c.in_ok-taken.ensures.registered c.prior-found.new.seat c.prior-found.ensures.continues

pub returns-clause-seat : goal.returns-clause-seat
returns-clause-seat g c =
    let gone = c.release.ensures in
    released c.args.store.now c.args.seat.now c.brief_snapshot.new.seat c.in_ok-taken.taken c.in_ok-taken.ensures.registered c.prior-found.new.seat c.prior-found.ensures.continues c.release.new.seat gone.0 gone.1 gone.2 gone.3 gone.4

pub returns-clause-prior : goal.returns-clause-prior
returns-clause-prior g c =
    let s = c.args.seat.now in let read = c.prior-found.new.seat in let batch = c.args.batch.now in let taken = c.in_ok-taken.taken in let gone = c.release.ensures in
    IfOk-weaker c.prior-found.result (λ found. found ≡ prior (take taken.number read.knows.participant.seen) batch) (IsPriorSince s c.release.new.seat batch)
    (λ found is.
    had_prior c.args.store.now s c.brief_snapshot.new.seat taken c.in_ok-taken.ensures.registered read c.prior-found.ensures.continues c.release.new.seat gone.0 gone.1 gone.2 gone.3 gone.4 batch found c.in_ok-taken.ensures.number is)
    c.prior-found.ensures.prior
