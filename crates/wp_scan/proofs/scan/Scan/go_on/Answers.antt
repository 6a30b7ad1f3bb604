use Rattle.std.proofs.Common.{◌≡◌, true, false, Option, Some, refl, subst}
use Rattle.std.specs.Prelude.{IfSome}
use Rattle.std.proofs.lemmas.Result.{err_from_is_err_and}
use Rattle.wp_shared.proofs.Onward.{continues_none}
use Rattle.wp_read.specs.declared.rows.KeyRow.{KeyRow}
use Rattle.wp_read.specs.Rows.{IsInRange, IsRowOf, SkipsNoRow, HasNoRow}
use Rattle.wp_scan.specs.Scan.{ScanState}
use Rattle.wp_scan.proofs.Passing.{left_over, nothing_left, step_on, version_on}
use Rattle.wp_scan.proofs.scan.Scan.go_on.Goals as goal

pub returns-then-self-clause-continues : goal.returns-then-self-clause-continues
returns-then-self-clause-continues g c = continues_none c.args.store.now c.args.seat.now c.requires.free

pub returns-then-self-clause-step : goal.returns-then-self-clause-step
returns-then-self-clause-step g c =
    let over : c.args.self.now.over ≡ true = subst (λ (s : ScanState). s.over ≡ true) c.self.view_is c.if-self.true in
    (left_over c.args.seat.now.knows.participant.seen c.args.snapshot.now.number c.args.self.now over, left_over c.args.seat.now.knows.participant.seen c.args.snapshot.now.number c.args.self.now over)

pub returns-in_err-next-clause-step : goal.returns-in_err-next-clause-step
returns-in_err-next-clause-step g c = let p = err_from_is_err_and c.from_residual.result c.from_residual.ensures.1 in rw p.1 tt

pub returns-in_err-next-clause-version : goal.returns-in_err-next-clause-version
returns-in_err-next-clause-version g c = let p = err_from_is_err_and c.from_residual.result c.from_residual.ensures.1 in rw p.1 tt

pub returns-in_default-clause-step : goal.returns-in_default-clause-step
returns-in_default-clause-step g c =
    let seen = c.args.seat.now.knows.participant.seen in let n = c.args.snapshot.now.number in
    let on : c.args.self.now.over ≡ false = subst (λ (s : ScanState). s.over ≡ false) c.self.view_is c.if-self.false in
    let none = subst (λ (s : ScanState). HasNoRow seen n s.above s.at s.to) c.self.view_is (c.in_ok-next.ensures.none c.in_default.is) in
    (nothing_left seen n c.args.self.now on none, refl)

pub returns-clause-step : goal.returns-clause-step
returns-clause-step g c =
    let seen = c.args.seat.now.knows.participant.seen in let n = c.args.snapshot.now.number in let inside = c.self.inside in let key = c.in-Some.found.key in
    let on : c.args.self.now.over ≡ false = subst (λ (s : ScanState). s.over ≡ false) c.self.view_is c.if-self.false in
    let here = subst (λ (o : Option KeyRow). IfSome o (λ k. IsInRange inside.above inside.at inside.to k.key × SkipsNoRow seen n inside.above inside.at (Some k.key))) c.in-Some.is c.in_ok-next.ensures.skips in
    let next = subst (λ (s : ScanState). IsInRange s.above s.at s.to key × SkipsNoRow seen n s.above s.at (Some key)) c.self.view_is here in
    let row = subst (λ (o : Option KeyRow). IfSome o (λ k. IsRowOf seen k.key n k.row)) c.in-Some.is c.in_ok-next.ensures.row in
    step_on seen n c.args.self.now on c.pass.result c.pass.new.self key c.in-Some.found.row next row c.pass.ensures.step c.pass.ensures.ok

pub returns-clause-version : goal.returns-clause-version
returns-clause-version g c =
    let seen = c.args.seat.now.knows.participant.seen in let n = c.args.snapshot.now.number in
    let row = subst (λ (o : Option KeyRow). IfSome o (λ k. IsRowOf seen k.key n k.row)) c.in-Some.is c.in_ok-next.ensures.row in
    version_on seen n c.in_ok-next.ensures.words c.pass.result c.in-Some.found.key c.in-Some.found.row row c.pass.ensures.step
