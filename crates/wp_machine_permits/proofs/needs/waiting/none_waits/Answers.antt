use Rattle.std.proofs.Common.{rules, ◌≡◌}
use Rattle.std.specs.FinSet as set
use Rattle.wp_machine_permits.proofs.NoneWaits.{none_wait}
use Rattle.wp_machine_permits.proofs.needs.waiting.none_waits.Goals as goal

pub returns : goal.returns
returns c others =
    let world = c.args.world.now in
    let history : c.in-Some.history.entries ≡ world.writes.history = search rules in
    let heap : world.prepared.heap ≡ set.from_list c.deref.result.now = search rules in
    let delayed : world.prepared.delayed ≡ set.from_list c.deref-2.result.now = search rules in
    none_wait world.writes.history world.prepared world.cache world.max_evicted c.deref.result.now c.deref-2.result.now heap delayed (rw history at (c.are_in_words.ensures c.if-not-are_in_words.false)) (rw history at (c.are_in_words-2.ensures others))
