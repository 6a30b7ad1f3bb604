use Rattle.std.proofs.Common.{◌<◌, ◌^◌, rules}
use Rattle.wp_manifest.proofs.RoomLemmas.{log_place_put}
use Rattle.wp_manifest.proofs.room.EditRoom.set_log_place.Goals as goal

pub invariant_of-self : goal.invariant_of-self
invariant_of-self c =
    let fits : c.args.place < 2 ^ 64 = search rules in
    let room = rw (← c.self-inside.view_is) at c.self.invariant in
    log_place_put _ _ _ c.args.place room fits c.put_u64.ensures
