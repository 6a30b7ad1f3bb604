use Rattle.std.proofs.Common.{ℕ, sym, subst, ap}
use Rattle.wp_judge.specs.Order.{answer_of}
use Rattle.wp_core.specs.Reading.{Registration}
use Rattle.wp_core.specs.Sound.Reader.{IsRight}
use Rattle.wp_shared.specs.Notes.{noting_only}
use Rattle.wp_read.proofs.Decides.{fewer_left, noted_continues, reads_next, reads_same}
use Rattle.wp_read.proofs.deciding.decide.Goals as goal

pub returns-in-Answer-clause-continues : goal.returns-in-Answer-clause-continues
returns-in-Answer-clause-continues g c = let k = c.loads.invariant in noted_continues k.reads k.notes c.requires.free

pub returns-in-Answer-clause-same : goal.returns-in-Answer-clause-same
returns-in-Answer-clause-same g c = reads_same c.loads.invariant.reads

pub returns-in-Answer-clause-right : goal.returns-in-Answer-clause-right
returns-in-Answer-clause-right g c =
    let k = c.loads.invariant in
    subst (λ (x : ℕ × Registration). IsRight c.args.seat.now.knows.participant.seen x.0 x.1.number c.in-Answer.visible) (λ i. (k.is.0 i, k.is.1 i)) (k.reads.right c.in-Answer.visible (ap answer_of (sym c.in-Answer.ensures)))

pub load_any-requires-clause-free : goal.load_any-requires-clause-free
load_any-requires-clause-free g c = let k = c.loads.invariant in (noted_continues k.reads k.notes c.requires.free).free

pub load_any-requires-clause-next : goal.load_any-requires-clause-next
load_any-requires-clause-next g c = reads_next c.loads.invariant.reads c.in-Load.which c.in-Load.ensures

pub loads-smaller : goal.loads-smaller
loads-smaller g c =
    fewer_left c.args.store.now c.in-Load.which (noting_only c.load_any.new.seat.knows.notes c.loads.seat) c.load_any.new.seat c.loads.seen c.load_any.new.seen c.load_any.ensures.loads (sym c.in-Load.ensures)
