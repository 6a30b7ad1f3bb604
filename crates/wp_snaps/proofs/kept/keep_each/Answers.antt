use Rattle.std.proofs.Common.{Some, is_some, sym, ap, ◌∙◌, arith}
use Rattle.wp_model.specs.Snapshots.{after_keep}
use Rattle.wp_snaps.proofs.Shown.{shown, changes_at, get-shown_of}
use Rattle.wp_snaps.proofs.Changes.{kept_at_next, kept_at_all}
use Rattle.wp_snaps.proofs.KeptNumbers.{at_most_one, len-keep}
use Rattle.wp_snaps.proofs.Rooms.{room_above}
use Rattle.wp_snaps.proofs.kept.keep_each.Goals as goal

pub loop-s-preserved : goal.loop-s-preserved
loop-s-preserved c =
    let next = c.in-Some.ensures in
    let found = rw c.unwrap.ensures at c.get_mut.ensures.value in
    let updated = ((c.get_mut.follows.holds c.keep.new.self).3 (ap is_some (sym found))).0 in
    let here = changes_at _ _ c.in-Some.s (Some c.keep.new.self) (after_keep c.args.p) updated (ap Some c.keep.ensures.kept ∙ ap (λ x. after_keep c.args.p (shown x)) found) in
    let counted = len-keep c.loop-s.live.entries _ c.in-Some.s c.unwrap.result.now found c.args.p c.keep.result here c.keep.ensures.first in
    record {
      start = omega arith;
      within = λ _. omega arith;
      old_commits = kept_at_next _ _ _ c.args.p c.loop-s.from c.in-Some.s c.loop-s.invariant.start next.not_before c.loop-s.invariant.old_commits (λ q low high. get-shown_of _ q ∙ ap shown (next.none_between q low high)) here;
      room = room_above _ _ c.loop-s.from c.args.c c.in-Some.s (Some c.keep.new.self) updated c.loop-s.invariant.room next.not_before;
      more = omega (arith, counted, c.from-more.ensures, c.loop-s.invariant.more);
      few = omega (arith, at_most_one c.keep.result, c.from-more.ensures, c.loop-s.invariant.few, next.not_before);
    }

pub returns-clause-kept : goal.returns-clause-kept
returns-clause-kept c =
    kept_at_all _ _ c.args.p c.loop-s.from c.args.c c.loop-s.invariant.start c.loop-s.invariant.within c.loop-s.invariant.old_commits (λ q low high. get-shown_of _ q ∙ ap shown (c.in_default.ensures q low high))
