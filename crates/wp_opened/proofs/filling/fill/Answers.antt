use Rattle.std.proofs.Common.{arith, subst}
use Rattle.wp_parts.specs.Log.{LogState}
use Rattle.wp_parts.specs.Parts.{LogStands}
use Rattle.wp_opened.proofs.filling.fill.Goals as goal

pub unwrap-requires : goal.unwrap-requires
unwrap-requires g c = c.push.ensures.succeeds (omega (arith, c.requires.slots.1))

pub unwrap-requires-4 : goal.unwrap-requires-4
unwrap-requires-4 g c = c.push-4.ensures.succeeds (omega (arith, c.requires.slots.1, c.push.ensures.upper_bound, c.push.ensures.capacity, c.push-2.ensures.upper_bound, c.push-2.ensures.capacity, c.push-3.ensures.upper_bound, c.push-3.ensures.capacity))

pub unwrap-requires-5 : goal.unwrap-requires-5
unwrap-requires-5 g c =
    c.push-5.ensures.succeeds (omega (arith, c.requires.slots.1, c.push.ensures.upper_bound, c.push.ensures.capacity, c.push-2.ensures.upper_bound, c.push-2.ensures.capacity, c.push-3.ensures.upper_bound, c.push-3.ensures.capacity, c.push-4.ensures.upper_bound, c.push-4.ensures.capacity))

pub unwrap-requires-6 : goal.unwrap-requires-6
unwrap-requires-6 g c =
    c.push-6.ensures.succeeds (omega (arith, c.requires.slots.1, c.push.ensures.upper_bound, c.push.ensures.capacity, c.push-2.ensures.upper_bound, c.push-2.ensures.capacity, c.push-3.ensures.upper_bound, c.push-3.ensures.capacity, c.push-4.ensures.upper_bound, c.push-4.ensures.capacity, c.push-5.ensures.upper_bound, c.push-5.ensures.capacity))

pub returns-clause-log : goal.returns-clause-log
returns-clause-log g c = subst (λ (l : LogState). LogStands l) c.deref.ensures (c.devices_agree.ensures.tells, c.devices_agree.ensures.next)
