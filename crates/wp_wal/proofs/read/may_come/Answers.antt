use Rattle.std.proofs.Common.{refl, arith}
use Rattle.wp_history.proofs.Judged.{orderly_behind_all}
use Rattle.wp_wal.proofs.Told.{no_values, not_orderly, over_base, without_base}
use Rattle.wp_wal.proofs.read.may_come.Goals as goal

pub returns-then-not-may-clause-may : goal.returns-then-not-may-clause-may
returns-then-not-may-clause-may c = (λ yes. absurd cc, λ may. absurd (not_orderly c.args.reading.now.outline c.args.entry.now c.in_ok-may.may c.requires.full c.in_ok-may.ensures.may.1 c.if-not-may.true may))

pub returns-then-base-gt0-clause-may : goal.returns-then-base-gt0-clause-may
returns-then-base-gt0-clause-may c = (λ yes. over_base c.args.reading.now.outline c.args.entry.now c.requires.full (omega (arith, c.if-base-gt0.true, c.base.ensures.value)) (c.in_ok-may.ensures.may.0 c.if-not-may.false), λ may. refl)

pub restores_prior-requires-clause-store : goal.restores_prior-requires-clause-store
restores_prior-requires-clause-store c = no_values c.args.reading.now.outline _ (omega (arith, c.if-base-gt0.false, c.base.ensures.value)) c.new-store.ensures.empty c.new-store.ensures.ordered

pub restores_prior-requires-clause-orderly : goal.restores_prior-requires-clause-orderly
restores_prior-requires-clause-orderly c = orderly_behind_all c.args.reading.now.outline.entries c.args.entry.now c.published.result c.published.ensures.value (c.in_ok-may.ensures.may.0 c.if-not-may.false)

pub returns-clause-may : goal.returns-clause-may
returns-clause-may c = without_base c.args.reading.now.outline c.args.entry.now c.published.result c.restores_prior.result c.requires.full (omega (arith, c.if-base-gt0.false, c.base.ensures.value)) c.published.ensures.value (c.in_ok-may.ensures.may.0 c.if-not-may.false) c.restores_prior.ensures
