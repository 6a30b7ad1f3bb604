use Rattle.std.proofs.Common.{◌≡◌, ◌+◌, length, refl, rules}
use Rattle.std.specs.Int.{w64, to_be_bytes}
use Rattle.wp_gatelog.proofs.FramedLemmas.{frame_put, frame_of-framed_in, framed_in-written}
use Rattle.wp_gatelog.proofs.frame.Frame.put_u64.Goals as goal

pub invariant_of-self : goal.invariant_of-self
invariant_of-self c =
    let whole : c.self.inside.bytes.len ≡ length c.self.inside.bytes.items = search rules in
    frame_of-framed_in _ _ (frame_put c.self.inside.bytes.items c.deref_mut.result.now c.write_u64.new.bytes _ c.args.self.now (to_be_bytes w64 c.args.value) c.args.at (8 + c.args.at) c.self.inside.bytes.len refl c.requires refl (rw (← c.self.view_is) c.self.invariant) c.deref_mut.ensures.value c.write_u64.ensures whole refl)

pub returns : goal.returns
returns c =
    let whole : c.self.inside.bytes.len ≡ length c.self.inside.bytes.items = search rules in
    framed_in-written _ _ (frame_put c.self.inside.bytes.items c.deref_mut.result.now c.write_u64.new.bytes _ c.args.self.now (to_be_bytes w64 c.args.value) c.args.at (8 + c.args.at) c.self.inside.bytes.len refl c.requires refl (rw (← c.self.view_is) c.self.invariant) c.deref_mut.ensures.value c.write_u64.ensures whole refl)
