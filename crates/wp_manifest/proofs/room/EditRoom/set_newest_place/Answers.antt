use Rattle.std.proofs.Common.{◌<◌, ◌^◌, rules}
use Rattle.wp_manifest.proofs.RoomLemmas.{first_set, newest_put, newest_within}
use Rattle.wp_manifest.proofs.room.EditRoom.set_newest_place.Goals as goal

pub put_u64-requires : goal.put_u64-requires
put_u64-requires c =
    let room = rw (← c.self-inside.view_is) at c.self.invariant in
    let some = rw (← c.self-inside.view_is) at (rw (← c.self.view_is) at c.requires) in
    newest_within _ _ room some

pub invariant_of-self : goal.invariant_of-self
invariant_of-self c =
    let fits : c.args.place < 2 ^ 64 = search rules in
    let room = rw (← c.self-inside.view_is) at c.self.invariant in
    let some = rw (← c.self-inside.view_is) at (rw (← c.self.view_is) at c.requires) in
    newest_put _ _ _ c.args.place _ room fits some (first_set c.args.place _ c.index_mut.result.now c.index_mut.ensures.value) c.put_u64.ensures
