use Rattle.std.proofs.Common.{sym, ◌∙◌, arith}
use Rattle.wp_cuts.proofs.FullList.{full_long}
use Rattle.wp_history.specs.History.{cut_of}
use Rattle.wp_history.proofs.Full.{later_is, within_full, starts_are}
use Rattle.wp_history.proofs.Kept.{orderly_there}
use Rattle.wp_history.proofs.outline.Outline.later.Goals as goal

pub returns-clause-value : goal.returns-clause-value
returns-clause-value c =
    let inside = c.self.inside in
    rw (← c.self.view_is) (c.deref.ensures.value ∙ sym (later_is (cut_of inside.base inside.carried.items inside.later.items) inside.versions.value))

pub returns-clause-within : goal.returns-clause-within
returns-clause-within c =
    let inside = c.self.inside in
    rw (← c.self.view_is) (within_full (cut_of inside.base inside.carried.items inside.later.items) inside.versions.value)

pub returns-clause-starts : goal.returns-clause-starts
returns-clause-starts c =
    let inside = c.self.inside in
    rw (← c.self.view_is) (starts_are (cut_of inside.base inside.carried.items inside.later.items) inside.versions.value)

pub returns-clause-orderly : goal.returns-clause-orderly
returns-clause-orderly c = rw (← c.self.view_is) (orderly_there _ _ _ c.self.invariant.0)

pub returns-clause-few : goal.returns-clause-few
returns-clause-few c =
    let inside = c.self.inside in
    let long = full_long (cut_of inside.base inside.carried.items inside.later.items) inside.versions.value in
    let few = c.self.invariant.0.cut.few in
    rw (← c.self.view_is) (omega (arith, long, few))
