use Rattle.std.proofs.Common.{◌≡◌, length, ap, ◌∙◌, rules}
use Rattle.wp_gatelog.proofs.FramedLemmas.{length-frame_of}
use Rattle.wp_gatelog.proofs.frame.Frame.len.Goals as goal

pub returns : goal.returns
returns c =
    let size : c.len.result ≡ length c.self.inside.bytes.items = search rules in
    rw (← c.self.view_is) (size ∙ ap length c.self.invariant ∙ length-frame_of _)
