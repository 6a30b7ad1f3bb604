use Rattle.std.proofs.Common.{rules, ◌≡◌, ◌-◌, length}
use Rattle.wp_gatelog.proofs.FramedLemmas.{frame_filled, frame_of-framed_in, framed_in-written}
use Rattle.wp_gatelog.proofs.frame.Frame.of.Goals as goal

pub invariant_of-result : goal.invariant_of-result
invariant_of-result c =
    let len : c.len.result - 8 ≡ length c.args.room.items - 8 = search rules in
    let whole : c.args.room.len ≡ length c.args.room.items = search rules in
    frame_of-framed_in _ _ (frame_filled c.args.room.items c.deref_mut.result.now c.write_u64.new.bytes c.push_u8.new.out.items (c.len.result - 8) c.args.room.len c.requires len c.deref_mut.ensures.value c.write_u64.ensures whole c.in_ok-push_u8.ensures.pushed)

pub returns : goal.returns
returns c =
    let len : c.len.result - 8 ≡ length c.args.room.items - 8 = search rules in
    let whole : c.args.room.len ≡ length c.args.room.items = search rules in
    framed_in-written _ _ (frame_filled c.args.room.items c.deref_mut.result.now c.write_u64.new.bytes c.push_u8.new.out.items (c.len.result - 8) c.args.room.len c.requires len c.deref_mut.ensures.value c.write_u64.ensures whole c.in_ok-push_u8.ensures.pushed)
