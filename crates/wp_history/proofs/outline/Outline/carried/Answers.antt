use Rattle.std.proofs.Common.{◌∙◌}
use Rattle.wp_history.specs.History.{cut_of}
use Rattle.wp_history.proofs.Full.{carried_is}
use Rattle.wp_history.proofs.outline.Outline.carried.Goals as goal

pub returns : goal.returns
returns c =
    let inside = c.self.inside in
    rw (← c.self.view_is) (c.deref.ensures.value ∙ carried_is (cut_of inside.base inside.carried.items inside.later.items) inside.versions.value c.self.invariant.0.cut.numbered)
