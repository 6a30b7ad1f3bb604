use Rattle.std.proofs.Common.{◌≡◌, List, ℕ, Option, sym, subst}
use Rattle.std.proofs.lemmas.Result.{IfOk-at_ok}
use Rattle.wp_model.specs.History.{value_at}
use Rattle.wp_read.specs.AtOnce.{BeginsRead}
use Rattle.wp_read.specs.Fresh.{ReadsFresh}
use Rattle.wp_read.proofs.Fresh.{begun, read_now, is_registered_then, is_registered_still, released, read_once}
use Rattle.wp_read.proofs.Fresh.{if_broken}
use Rattle.wp_read.proofs.now.get_now.Goals as goal

pub get-outcome-requires-clause-registered : goal.get-outcome-requires-clause-registered
get-outcome-requires-clause-registered g c = is_registered_then c.args.store.now c.args.seat.now c.begin_read.new.seat c.in-Registered.snapshot (begun c.args.store.now c.args.seat.now c.begin_read.new.seat c.args.key.now c.in-Registered.snapshot c.in-Registered.is c.in_ok-value.ensures.begun).0

pub release-requires-clause-registered : goal.release-requires-clause-registered
release-requires-clause-registered g c =
    is_registered_still c.args.store.now c.args.seat.now c.begin_read.new.seat c.in-Registered.snapshot (begun c.args.store.now c.args.seat.now c.begin_read.new.seat c.args.key.now c.in-Registered.snapshot c.in-Registered.is c.in_ok-value.ensures.begun).0 c.get-outcome.new.seat c.get-outcome.ensures.continues

pub returns-in_err-outcome-clause-refused : goal.returns-in_err-outcome-clause-refused
returns-in_err-outcome-clause-refused g c =
    let gone = c.release.ensures in
    if_broken c.from_residual-in_err-outcome.result (released c.args.store.now c.args.seat.now c.begin_read.new.seat c.in-Registered.snapshot (begun c.args.store.now c.args.seat.now c.begin_read.new.seat c.args.key.now c.in-Registered.snapshot c.in-Registered.is c.in_ok-value.ensures.begun).0 c.get-outcome.new.seat c.get-outcome.ensures.continues c.release.new.seat gone.0 gone.1 gone.2 gone.3 gone.4)

pub returns-clause-read : goal.returns-clause-read
returns-clause-read g c =
    let z = c.args.store.now in let s = c.args.seat.now in let d = c.release.new.seat in let key = c.args.key.now in let snapshot = c.in-Registered.snapshot in let value = c.in_ok-outcome.field-0 in
    let gone = c.release.ensures in let k = begun z s c.begin_read.new.seat key snapshot c.in-Registered.is c.in_ok-value.ensures.begun in
    let shown = IfOk-at_ok (λ (v : Option (List ℕ)). v ≡ value_at c.get-outcome.new.seat.knows.participant.seen key snapshot.number) c.in_ok-outcome.was c.get-outcome.ensures.value in
    subst (λ (n : ℕ). ReadsFresh z s d key value n) (sym c.number-at.ensures)
    (read_once z s c.begin_read.new.seat snapshot k.0 c.get-outcome.new.seat c.get-outcome.ensures.continues d gone.0 gone.1 gone.2 gone.3 gone.4 key value k.1.1 k.1.0 shown)

pub returns-in-Read-clause-read : goal.returns-in-Read-clause-read
returns-in-Read-clause-read g c =
    let z = c.args.store.now in let s = c.args.seat.now in let d = c.begin_read.new.seat in let key = c.args.key.now in
    read_now z s d key c.in-Read.value c.in-Read.at (subst (BeginsRead z s d key) c.in-Read.is c.in_ok-value.ensures.begun)
