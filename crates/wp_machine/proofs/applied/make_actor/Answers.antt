use Rattle.std.proofs.Common.{ap, sym, ◌∙◌, subst, Ok, unwrap_or}
use Rattle.wp_core.specs.Steps as step
use Rattle.wp_core.specs.Needs.{Needs}
use Rattle.wp_machine.specs.Machine.{actors_step}
use Rattle.wp_machine.proofs.Acting.{at_within, is_with, makes}
use Rattle.wp_machine.proofs.applied.make_actor.Goals as goal

pub make_note-requires : goal.make_note-requires
make_note-requires c = at_within _ _ _ c.requires.there

pub make_seat-requires : goal.make_seat-requires
make_seat-requires c = at_within _ _ _ c.requires.there

pub learn-requires-clause-by : goal.learn-requires-clause-by
learn-requires-clause-by c = at_within _ _ _ c.requires.there

pub learn-requires-clause-other : goal.learn-requires-clause-other
learn-requires-clause-other c = let k = is_with c.args.world.now c.in-Learn.other (step.learn c.in-Learn.other) c.requires.step (ap (actors_step c.args.world.now) (sym c.in-Learn.is) ∙ c.requires.is) in at_within _ _ _ k.there

pub join_seat-requires-clause-by : goal.join_seat-requires-clause-by
join_seat-requires-clause-by c = at_within _ _ _ c.requires.there

pub join_seat-requires-clause-other : goal.join_seat-requires-clause-other
join_seat-requires-clause-other c = let k = is_with c.args.world.now c.in-JoinSeat.other (step.join_seat c.in-JoinSeat.other) c.requires.step (ap (actors_step c.args.world.now) (sym c.in-JoinSeat.is) ∙ c.requires.is) in at_within _ _ _ k.there

pub returns-in-MakeNote : goal.returns-in-MakeNote
returns-in-MakeNote c = makes c.make_note.result c.args.world.now _ c.args.by c.args.kind step.make_note c.requires (ap (λ o. unwrap_or o step.make_note) (ap (actors_step c.args.world.now) (sym c.in-MakeNote.is) ∙ c.requires.is)) (c.make_note.ensures c.requires.actor c.requires.there)

pub returns-in-MakeSeat : goal.returns-in-MakeSeat
returns-in-MakeSeat c = makes c.make_seat.result c.args.world.now _ c.args.by c.args.kind step.make_seat c.requires (ap (λ o. unwrap_or o step.make_seat) (ap (actors_step c.args.world.now) (sym c.in-MakeSeat.is) ∙ c.requires.is)) (c.make_seat.ensures c.requires.actor c.requires.there)

pub returns-in-Learn : goal.returns-in-Learn
returns-in-Learn c =
    let q = c.requires in
    let k = is_with c.args.world.now c.in-Learn.other (step.learn c.in-Learn.other) q.step (ap (actors_step c.args.world.now) (sym c.in-Learn.is) ∙ q.is) in
    let n = subst (Needs c.args.world.now c.args.by q.actor) (sym k.is) q.needs in
    makes (Ok tt) c.args.world.now _ c.args.by c.args.kind (step.learn c.in-Learn.other k.actor) q k.is (c.learn.ensures q.actor k.actor n.0 q.there k.there)

pub returns-in-JoinSeat : goal.returns-in-JoinSeat
returns-in-JoinSeat c =
    let q = c.requires in
    let k = is_with c.args.world.now c.in-JoinSeat.other (step.join_seat c.in-JoinSeat.other) q.step (ap (actors_step c.args.world.now) (sym c.in-JoinSeat.is) ∙ q.is) in
    let n = subst (Needs c.args.world.now c.args.by q.actor) (sym k.is) q.needs in
    makes c.join_seat.result c.args.world.now _ c.args.by c.args.kind (step.join_seat c.in-JoinSeat.other k.actor) q k.is (c.join_seat.ensures q.actor k.actor n.1 q.there k.there)
