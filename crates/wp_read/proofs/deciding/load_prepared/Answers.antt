use Rattle.std.proofs.Common.{[]}
use Rattle.wp_core.specs.States.{prepared}
use Rattle.wp_core.specs.Views.{delayed_flag_stays}
use Rattle.wp_shared.proofs.Tables.{knows_to_give}
use Rattle.wp_read.proofs.Seated.{holds_looked, noted_looked, loads_between, keeps_between}
use Rattle.wp_read.proofs.deciding.load_prepared.Goals as goal

pub give_turn-requires-clause-holds : goal.give_turn-requires-clause-holds
give_turn-requires-clause-holds g c = ([], [], holds_looked c.requires.free c.take_turn-tables.ensures.taken c.look_in_prepared.ensures)

pub give_turn-requires-clause-knows : goal.give_turn-requires-clause-knows
give_turn-requires-clause-knows g c none = let k = c.take_turn-tables.ensures.taken in noted_looked c.requires.free k c.look_in_prepared.ensures (delayed_flag_stays 0) (knows_to_give c.take_turn-tables.new.seat.knows (prepared c.take_turn-tables.result.value) k.knows none)

pub returns : goal.returns
returns g c =
    let free = c.requires.free in let k = c.take_turn-tables.ensures.taken in let l = c.look_in_prepared.ensures in let given = c.give_turn.ensures [] [] (holds_looked free k l) in record {
      loads = loads_between free k l given;
      notes = keeps_between free k l given;
    }
