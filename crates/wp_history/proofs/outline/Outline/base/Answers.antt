use Rattle.wp_history.specs.History.{cut_of}
use Rattle.wp_history.proofs.Full.{within_full, starts_are}
use Rattle.wp_history.proofs.outline.Outline.base.Goals as goal

pub returns-clause-within : goal.returns-clause-within
returns-clause-within c =
    let inside = c.self.inside in
    rw (← c.self.view_is) (within_full (cut_of inside.base inside.carried.items inside.later.items) inside.versions.value)

pub returns-clause-starts : goal.returns-clause-starts
returns-clause-starts c =
    let inside = c.self.inside in
    rw (← c.self.view_is) (starts_are (cut_of inside.base inside.carried.items inside.later.items) inside.versions.value)
