use Rattle.std.proofs.Common.{Option, Some, None, subst}
use Rattle.std.specs.Prelude.{IfSome}
use Rattle.wp_model.specs.declared.change.Change.TheVariants.{Put}
use Rattle.wp_core.specs.Lists.{IsIn}
use Rattle.wp_core.specs.Reading.{Registration}
use Rattle.wp_shared.specs.Calls.{IsLoose}
use Rattle.wp_calls_tests.proofs.Ready.{put, snapped, went}
use Rattle.wp_calls_tests.proofs.reader.read.Goals as goal

pub returns-in-Ok : goal.returns-in-Ok
returns-in-Ok g c = snapped c.args.store.now c.args.seat.now c.snapshot.new.seat c.args.version c.in-Ok.taken c.requires.direct c.in-Ok.ensures.registered c.requires.has_version

pub returns-in-Err : goal.returns-in-Err
returns-in-Err g c = went c.args.store.now c.args.seat.now c.snapshot.new.seat c.args.version IsLoose None _ c.requires.direct c.in-Err.ensures.refused tt c.requires.has_version

pub returns-in-Release-Some : goal.returns-in-Release-Some
returns-in-Release-Some g c = went c.args.store.now c.args.seat.now c.release.new.seat c.args.version IsLoose None _ c.requires.direct c.release.ensures.4 tt c.requires.has_version

pub returns-in-Some : goal.returns-in-Some
returns-in-Some g c =
    went c.args.store.now c.args.seat.now c.told.new.seat c.args.version IsLoose (Some c.in-Decide-Some.held) _ c.requires.direct c.told.ensures
    (subst (λ (o : Option Registration). IfSome o (λ r. IsIn r c.args.seat.now.knows.participant.registered)) c.in-Decide-Some.is-1 c.requires.registered) c.requires.has_version

pub returns-after-write : goal.returns-after-write
returns-after-write g c =
    put c.args.store.now c.args.seat.now c.write.new.seat c.args.version c.args.snapshot c.requires (Put c.key-in-Direct-default.result c.value.result) c.write.result c.write.ensures.answers

pub returns-in-Row-Some : goal.returns-in-Row-Some
returns-in-Row-Some g c =
    went c.args.store.now c.args.seat.now c.gives-outcome.new.seat c.args.version IsLoose (Some c.in-Row-Some.held) _ c.requires.direct c.gives-outcome.ensures
    (subst (λ (o : Option Registration). IfSome o (λ r. IsIn r c.args.seat.now.knows.participant.registered)) c.in-Row-Some.is-1 c.requires.registered) c.requires.has_version

pub returns-in-NoRow-Some : goal.returns-in-NoRow-Some
returns-in-NoRow-Some g c =
    went c.args.store.now c.args.seat.now c.gives-outcome-in-NoRow-Some.new.seat c.args.version IsLoose (Some c.in-NoRow-Some.held) _ c.requires.direct c.gives-outcome-in-NoRow-Some.ensures
    (subst (λ (o : Option Registration). IfSome o (λ r. IsIn r c.args.seat.now.knows.participant.registered)) c.in-NoRow-Some.is-1 c.requires.registered) c.requires.has_version
