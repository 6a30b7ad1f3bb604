use Rattle.std.proofs.Common.{ℕ, sym, subst, ◌∙◌}
use Rattle.wp_judge.specs.declared.observed.Load.TheVariants.{InPrepared, IsOldCommit}
use Rattle.wp_core.specs.Reading.{Registration}
use Rattle.wp_core.specs.Sound.Reader.{IsRight}
use Rattle.wp_core.specs.World.{Participant}
use Rattle.wp_shared.proofs.Onward.{continues_still}
use Rattle.wp_read.specs.declared.answers.Free.{Free}
use Rattle.wp_read.specs.Decides.{DecidesFree}
use Rattle.wp_read.proofs.Decides.{above_is_invisible, above_has_no_load, reads_continues, reads_next, reads_same}
use Rattle.wp_read.proofs.deciding.visible.Goals as goal

pub decide_free-requires-clause-seat : goal.decide_free-requires-clause-seat
decide_free-requires-clause-seat g c = c.requires.free.same_table

pub decide-requires-clause-free : goal.decide-requires-clause-free
decide-requires-clause-free g c =
    let k = subst (λ (f : Free). DecidesFree c.args.store.now c.args.seat.now c.decide_free.new.seat c.args.p c.args.snapshot.now f) c.in-Prepared.is c.decide_free.ensures in (reads_continues k.0 c.requires.free).free

pub decide-requires-clause-next : goal.decide-requires-clause-next
decide-requires-clause-next g c =
    let k = subst (λ (f : Free). DecidesFree c.args.store.now c.args.seat.now c.decide_free.new.seat c.args.p c.args.snapshot.now f) c.in-Prepared.is c.decide_free.ensures in (InPrepared, reads_next k.0 InPrepared (sym k.2))

pub decide-requires-clause-cells : goal.decide-requires-clause-cells
decide-requires-clause-cells g c =
    let k = subst (λ (f : Free). DecidesFree c.args.store.now c.args.seat.now c.decide_free.new.seat c.args.p c.args.snapshot.now f) c.in-Prepared.is c.decide_free.ensures in (k.0.cells, k.1.2)

pub decide-requires-in-Snapshots-clause-free : goal.decide-requires-in-Snapshots-clause-free
decide-requires-in-Snapshots-clause-free g c =
    let k = subst (λ (f : Free). DecidesFree c.args.store.now c.args.seat.now c.decide_free.new.seat c.args.p c.args.snapshot.now f) c.in-Snapshots.is c.decide_free.ensures in (reads_continues k.0 c.requires.free).free

pub decide-requires-in-Snapshots-clause-next : goal.decide-requires-in-Snapshots-clause-next
decide-requires-in-Snapshots-clause-next g c =
    let k = subst (λ (f : Free). DecidesFree c.args.store.now c.args.seat.now c.decide_free.new.seat c.args.p c.args.snapshot.now f) c.in-Snapshots.is c.decide_free.ensures in (IsOldCommit, reads_next k.0 IsOldCommit (sym k.2))

pub decide-requires-in-Snapshots-clause-cells : goal.decide-requires-in-Snapshots-clause-cells
decide-requires-in-Snapshots-clause-cells g c =
    let k = subst (λ (f : Free). DecidesFree c.args.store.now c.args.seat.now c.decide_free.new.seat c.args.p c.args.snapshot.now f) c.in-Snapshots.is c.decide_free.ensures in (k.0.cells, k.1.2)

pub returns-in-Decided-clause-continues : goal.returns-in-Decided-clause-continues
returns-in-Decided-clause-continues g c =
    let k = subst (λ (f : Free). DecidesFree c.args.store.now c.args.seat.now c.decide_free.new.seat c.args.p c.args.snapshot.now f) c.in-Decided.is c.decide_free.ensures in reads_continues k.1 c.requires.free

pub returns-in-Decided-clause-same : goal.returns-in-Decided-clause-same
returns-in-Decided-clause-same g c =
    let k = subst (λ (f : Free). DecidesFree c.args.store.now c.args.seat.now c.decide_free.new.seat c.args.p c.args.snapshot.now f) c.in-Decided.is c.decide_free.ensures in reads_same k.1

pub returns-in-Decided-clause-right : goal.returns-in-Decided-clause-right
returns-in-Decided-clause-right g c =
    let k = subst (λ (f : Free). DecidesFree c.args.store.now c.args.seat.now c.decide_free.new.seat c.args.p c.args.snapshot.now f) c.in-Decided.is c.decide_free.ensures in k.4

pub returns-in-Decided-clause-above : goal.returns-in-Decided-clause-above
returns-in-Decided-clause-above g c over =
    let k = subst (λ (f : Free). DecidesFree c.args.store.now c.args.seat.now c.decide_free.new.seat c.args.p c.args.snapshot.now f) c.in-Decided.is c.decide_free.ensures in above_is_invisible c.args.p c.args.snapshot.now k.0 k.2 over c.in-Decided.visible k.3

pub returns-in-Prepared-clause-continues : goal.returns-in-Prepared-clause-continues
returns-in-Prepared-clause-continues g c =
    let k = subst (λ (f : Free). DecidesFree c.args.store.now c.args.seat.now c.decide_free.new.seat c.args.p c.args.snapshot.now f) c.in-Prepared.is c.decide_free.ensures in
    continues_still c.args.store.now c.args.seat.now c.decide_free.new.seat c.decide.new.seat c.args.seat.now.knows.participant (reads_continues k.0 c.requires.free) c.decide.ensures.continues

pub returns-in-Prepared-clause-same : goal.returns-in-Prepared-clause-same
returns-in-Prepared-clause-same g c =
    let k = subst (λ (f : Free). DecidesFree c.args.store.now c.args.seat.now c.decide_free.new.seat c.args.p c.args.snapshot.now f) c.in-Prepared.is c.decide_free.ensures in c.decide.ensures.same ∙ reads_same k.0

pub returns-in-Prepared-clause-right : goal.returns-in-Prepared-clause-right
returns-in-Prepared-clause-right g c =
    let k = subst (λ (f : Free). DecidesFree c.args.store.now c.args.seat.now c.decide_free.new.seat c.args.p c.args.snapshot.now f) c.in-Prepared.is c.decide_free.ensures in
    subst (λ (x : Participant × (ℕ × Registration)). IsRight x.0.seen x.1.0 x.1.1.number c.decide.result) (λ i. ((reads_same k.0) i, (k.1.0 i, k.1.1 i))) c.decide.ensures.right

pub returns-in-Prepared-clause-above : goal.returns-in-Prepared-clause-above
returns-in-Prepared-clause-above g c over =
    let k = subst (λ (f : Free). DecidesFree c.args.store.now c.args.seat.now c.decide_free.new.seat c.args.p c.args.snapshot.now f) c.in-Prepared.is c.decide_free.ensures in absurd (above_has_no_load c.args.p c.args.snapshot.now c.in-Prepared.seen k.1 over InPrepared k.2)

pub returns-in-Snapshots-clause-continues : goal.returns-in-Snapshots-clause-continues
returns-in-Snapshots-clause-continues g c =
    let k = subst (λ (f : Free). DecidesFree c.args.store.now c.args.seat.now c.decide_free.new.seat c.args.p c.args.snapshot.now f) c.in-Snapshots.is c.decide_free.ensures in
    continues_still c.args.store.now c.args.seat.now c.decide_free.new.seat c.decide-in-Snapshots.new.seat c.args.seat.now.knows.participant (reads_continues k.0 c.requires.free) c.decide-in-Snapshots.ensures.continues

pub returns-in-Snapshots-clause-same : goal.returns-in-Snapshots-clause-same
returns-in-Snapshots-clause-same g c =
    let k = subst (λ (f : Free). DecidesFree c.args.store.now c.args.seat.now c.decide_free.new.seat c.args.p c.args.snapshot.now f) c.in-Snapshots.is c.decide_free.ensures in c.decide-in-Snapshots.ensures.same ∙ reads_same k.0

pub returns-in-Snapshots-clause-right : goal.returns-in-Snapshots-clause-right
returns-in-Snapshots-clause-right g c =
    let k = subst (λ (f : Free). DecidesFree c.args.store.now c.args.seat.now c.decide_free.new.seat c.args.p c.args.snapshot.now f) c.in-Snapshots.is c.decide_free.ensures in
    subst (λ (x : Participant × (ℕ × Registration)). IsRight x.0.seen x.1.0 x.1.1.number c.decide-in-Snapshots.result) (λ i. ((reads_same k.0) i, (k.1.0 i, k.1.1 i))) c.decide-in-Snapshots.ensures.right

pub returns-in-Snapshots-clause-above : goal.returns-in-Snapshots-clause-above
returns-in-Snapshots-clause-above g c over =
    let k = subst (λ (f : Free). DecidesFree c.args.store.now c.args.seat.now c.decide_free.new.seat c.args.p c.args.snapshot.now f) c.in-Snapshots.is c.decide_free.ensures in absurd (above_has_no_load c.args.p c.args.snapshot.now c.in-Snapshots.seen k.1 over IsOldCommit k.2)
