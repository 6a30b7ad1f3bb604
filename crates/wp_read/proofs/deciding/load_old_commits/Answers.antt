use Rattle.std.proofs.Common.{[]}
use Rattle.wp_core.specs.States.{snapshots}
use Rattle.wp_core.specs.Views.{old_flag_stays}
use Rattle.wp_shared.proofs.Tables.{knows_to_give}
use Rattle.wp_read.proofs.Seated.{holds_looked, noted_looked, loads_between, keeps_between}
use Rattle.wp_read.proofs.deciding.load_old_commits.Goals as goal

pub give_turn-requires-clause-holds : goal.give_turn-requires-clause-holds
give_turn-requires-clause-holds g c = ([], [], holds_looked c.requires.free c.take_turn-snaps.ensures.taken c.look_in_old_commits.ensures)

pub give_turn-requires-clause-knows : goal.give_turn-requires-clause-knows
give_turn-requires-clause-knows g c none = let k = c.take_turn-snaps.ensures.taken in noted_looked c.requires.free k c.look_in_old_commits.ensures (old_flag_stays 0) (knows_to_give c.take_turn-snaps.new.seat.knows (snapshots c.take_turn-snaps.result.value) k.knows none)

pub returns : goal.returns
returns g c =
    let free = c.requires.free in let k = c.take_turn-snaps.ensures.taken in let l = c.look_in_old_commits.ensures in let given = c.give_turn.ensures [] [] (holds_looked free k l) in record {
      loads = loads_between free k l given;
      notes = keeps_between free k l given;
    }
