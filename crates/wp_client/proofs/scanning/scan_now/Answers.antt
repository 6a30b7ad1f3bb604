use Rattle.std.proofs.Common.{◌≡◌, ℕ, List, sym, subst}
use Rattle.std.proofs.lemmas.Result.{IfOk-at_ok}
use Rattle.wp_model.specs.Rows.{Pair, rows}
use Rattle.wp_text.specs.declared.script.Command.TheVariants as command
use Rattle.wp_text.specs.declared.reply.Reply.TheVariants as reply
use Rattle.wp_read.proofs.Fresh.{is_registered_then, is_registered_still, released}
use Rattle.wp_client.specs.declared.holdings.HeldTxn.TheVariants as held
use Rattle.wp_client.specs.Answers.{AnswersFrom}
use Rattle.wp_client.specs.Fresh.{NamesSeen}
use Rattle.wp_client.proofs.Clients.{answers_from}
use Rattle.wp_client.proofs.Ranges.{scanned_answers, scans_once}
use Rattle.wp_client.proofs.scanning.scan_now.Goals as goal

pub snapshot-requires : goal.snapshot-requires
snapshot-requires g c = c.requires.free

pub all_rows-found-requires-clause-free : goal.all_rows-found-requires-clause-free
all_rows-found-requires-clause-free g c = c.in_ok-snapshot.ensures.registered.free

pub all_rows-found-requires-clause-registered : goal.all_rows-found-requires-clause-registered
all_rows-found-requires-clause-registered g c = is_registered_then c.args.store.now c.args.seat.now c.snapshot.new.seat c.in_ok-snapshot.snapshot c.in_ok-snapshot.ensures.registered

pub release-requires-clause-free : goal.release-requires-clause-free
release-requires-clause-free g c = c.all_rows-found.ensures.continues.free

pub release-requires-clause-registered : goal.release-requires-clause-registered
release-requires-clause-registered g c =
    is_registered_still c.args.store.now c.args.seat.now c.snapshot.new.seat c.in_ok-snapshot.snapshot c.in_ok-snapshot.ensures.registered c.all_rows-found.new.seat c.all_rows-found.ensures.continues

pub returns-in_err-found-clause-goes_on : goal.returns-in_err-found-clause-goes_on
returns-in_err-found-clause-goes_on g c =
    let gone = c.release.ensures in
    released c.args.store.now c.args.seat.now c.snapshot.new.seat c.in_ok-snapshot.snapshot c.in_ok-snapshot.ensures.registered c.all_rows-found.new.seat c.all_rows-found.ensures.continues c.release.new.seat gone.0 gone.1 gone.2 gone.3 gone.4

pub returns-clause-goes_on : goal.returns-clause-goes_on
returns-clause-goes_on g c =
    let gone = c.release.ensures in
    released c.args.store.now c.args.seat.now c.snapshot.new.seat c.in_ok-snapshot.snapshot c.in_ok-snapshot.ensures.registered c.all_rows-found.new.seat c.all_rows-found.ensures.continues c.release.new.seat gone.0 gone.1 gone.2 gone.3 gone.4

pub returns-clause-answered : goal.returns-clause-answered
returns-clause-answered g c =
    let z = c.args.store.now in let s = c.args.seat.now in let b = c.snapshot.new.seat in let t = c.all_rows-found.new.seat in let d = c.release.new.seat in let from = c.args.from.now in let to = c.args.to.now in
    let r = c.in_ok-snapshot.snapshot in let taken = c.in_ok-snapshot.ensures.taken in let gone = c.release.ensures in let pairs = c.in_ok-found.field-0 in
    let shown = IfOk-at_ok (λ (ps : List Pair). ps ≡ rows t.knows.participant.seen from to r.number) c.in_ok-found.was c.all_rows-found.ensures.rows in
    let scanned = scans_once z s b r c.in_ok-snapshot.ensures.registered t c.all_rows-found.ensures.continues d gone.0 gone.1 gone.2 gone.3 gone.4 from to pairs c.in_ok-snapshot.ensures.number (taken.0, taken.1) shown in
    subst (λ (n : ℕ). AnswersFrom z s d held.Idle held.Idle (command.Scan from to) (reply.Rows pairs n)) (sym c.number-at.ensures)
    (answers_from z s d held.Idle held.Idle (command.Scan from to) (reply.Rows pairs r.number) (λ snapshots. scanned_answers z s d from to snapshots pairs r.number scanned))

pub returns-clause-published : goal.returns-clause-published
returns-clause-published g c =
    let z = c.args.store.now in let s = c.args.seat.now in let b = c.snapshot.new.seat in let t = c.all_rows-found.new.seat in let d = c.release.new.seat in let from = c.args.from.now in let to = c.args.to.now in
    let r = c.in_ok-snapshot.snapshot in let taken = c.in_ok-snapshot.ensures.taken in let gone = c.release.ensures in let pairs = c.in_ok-found.field-0 in
    let shown = IfOk-at_ok (λ (ps : List Pair). ps ≡ rows t.knows.participant.seen from to r.number) c.in_ok-found.was c.all_rows-found.ensures.rows in
    let scanned = scans_once z s b r c.in_ok-snapshot.ensures.registered t c.all_rows-found.ensures.continues d gone.0 gone.1 gone.2 gone.3 gone.4 from to pairs c.in_ok-snapshot.ensures.number (taken.0, taken.1) shown in
    subst (λ (n : ℕ). NamesSeen z s d (command.Scan from to) (reply.Rows pairs n)) (sym c.number-at.ensures) scanned.published
