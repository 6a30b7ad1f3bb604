use Rattle.std.proofs.Common.{Some, is_some, sym, ap, ◌∙◌}
use Rattle.wp_snaps.proofs.Shown.{shown, shows_no_change}
use Rattle.wp_snaps.proofs.Rooms.{room_at_next}
use Rattle.wp_snaps.proofs.kept.reserve_each.Goals as goal

pub returns-in_err-reserve-clause-same_snapshots : goal.returns-in_err-reserve-clause-same_snapshots
returns-in_err-reserve-clause-same_snapshots c =
    let found = rw c.unwrap.ensures at c.get_mut.ensures.value in
    let updated = ((c.get_mut.follows.holds c.reserve.new.self).3 (ap is_some (sym found))).0 in
    shows_no_change _ _ c.in-Some.s (Some c.reserve.new.self) updated (ap Some c.reserve.ensures.same_snapshot ∙ ap shown found) ∙ c.loop-s.invariant.same_snapshots

pub loop-s-preserved : goal.loop-s-preserved
loop-s-preserved c =
    let found = rw c.unwrap.ensures at c.get_mut.ensures.value in
    let updated = ((c.get_mut.follows.holds c.reserve.new.self).3 (ap is_some (sym found))).0 in
    record {
      same_snapshots = shows_no_change _ _ c.in-Some.s (Some c.reserve.new.self) updated (ap Some c.reserve.ensures.same_snapshot ∙ ap shown found) ∙ c.loop-s.invariant.same_snapshots;
      room = room_at_next _ _ c.args.start c.loop-s.from c.in-Some.s c.reserve.new.self updated c.loop-s.invariant.room c.in-Some.ensures.none_between c.in_ok-reserve.ensures.ok;
    }
