use Rattle.std.proofs.Common.{◌∙◌}
use Rattle.wp_rule.specs.Ends.{part_of}
use Rattle.wp_shared.proofs.Ended.{writes_left, edits_left, ended}
use Rattle.wp_shared.proofs.shared.Shared.finish.Goals as goal

pub out_of-requires : goal.out_of-requires
out_of-requires g c = writes_left c.args.self c.args.seats.items (part_of c.close-write.result) c.requires.all c.close-write.ensures

pub out_of-requires-2 : goal.out_of-requires-2
out_of-requires-2 g c = edits_left c.args.self c.args.seats.items (part_of c.close-write.result) c.requires.all c.close-write.ensures

pub returns-clause-ended : goal.returns-clause-ended
returns-clause-ended g c = let k = c.take_apart-history.ensures in
    (ended c.args.self c.args.seats.items (part_of c.close-write.result) c.out_of.result c.out_of-2.result c.into_inner.result c.into_inner-2.result _ _ c.into_inner.ensures c.into_inner-2.ensures c.shows_one_store.ensures c.requires.all
    c.close-write.ensures c.out_of.ensures.exact c.out_of-2.ensures.exact k.log k.edits k.history k.disks).0

pub returns-clause-base : goal.returns-clause-base
returns-clause-base g c edit last = let k = c.take_apart-history.ensures in
    k.base ∙ (ended c.args.self c.args.seats.items (part_of c.close-write.result) c.out_of.result c.out_of-2.result c.into_inner.result c.into_inner-2.result _ _ c.into_inner.ensures c.into_inner-2.ensures c.shows_one_store.ensures c.requires.all
    c.close-write.ensures c.out_of.ensures.exact c.out_of-2.ensures.exact k.log k.edits k.history k.disks).1 edit last
