use Rattle.std.proofs.Common.{[], refl}
use Rattle.wp_read.specs.AtOnce.{kept_by}
use Rattle.wp_read.specs.Registers.{registered_by}
use Rattle.wp_read.proofs.AtOnce.{loose_not, begins}
use Rattle.wp_read.proofs.Seated.{holds_lent, gives_lent, seen_lent, continues_lent}
use Rattle.wp_read.proofs.Taking.{registered_blind, refused_err}
use Rattle.wp_read.proofs.at_once.begin_read.Goals as goal

pub begin_in-begun-requires : goal.begin_in-begun-requires
begin_in-begun-requires g c = record { holds = holds_lent c.take_turn-snaps.ensures.taken c.deref_mut.ensures.value c.requires }

pub give_turn-requires-clause-holds : goal.give_turn-requires-clause-holds
give_turn-requires-clause-holds g c = ([], [], c.begin_in-begun.ensures.holds)

pub give_turn-requires-clause-knows : goal.give_turn-requires-clause-knows
give_turn-requires-clause-knows g c =
    let k = c.begin_in-begun.ensures in gives_lent c.take_turn-snaps.ensures.taken c.deref_mut.ensures.value loose_not k.goes k.holds refl k.kept

pub returns-clause-begun : goal.returns-clause-begun
returns-clause-begun g c =
    let k1 = c.take_turn-snaps.ensures.taken in let lent = c.deref_mut.ensures.value in let k = c.begin_in-begun.ensures in
    begins c.args.store.now c.args.seat.now c.take_turn-snaps.new.seat c.begin_in-begun.new.seat c.give_turn.new.seat c.args.key.now c.begin_in-begun.result k1
    (continues_lent k1 lent loose_not k.goes k.holds c.give_turn.ensures (registered_by kept_by c.begin_in-begun.result) (registered_blind kept_by c.begin_in-begun.result) refl)
    (seen_lent k1 lent loose_not k.goes k.holds c.give_turn.ensures) k.begun

pub returns-clause-refused : goal.returns-clause-refused
returns-clause-refused g c =
    let k1 = c.take_turn-snaps.ensures.taken in let lent = c.deref_mut.ensures.value in let k = c.begin_in-begun.ensures in
    refused_err c.args.store.now c.args.seat.now c.give_turn.new.seat kept_by c.begin_in-begun.result
    (continues_lent k1 lent loose_not k.goes k.holds c.give_turn.ensures (registered_by kept_by c.begin_in-begun.result) (registered_blind kept_by c.begin_in-begun.result) refl)
