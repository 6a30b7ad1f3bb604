use Rattle.std.proofs.Common.{ap, sym, ◌∙◌}
use Rattle.wp_machine.specs.Machine.{step_of}
use Rattle.wp_machine.proofs.Acting.{at_by}
use Rattle.wp_machine.proofs.applied.effect.Goals as goal

pub returns-in-Reader : goal.returns-in-Reader
returns-in-Reader c s i e = at_by c.reader.result _ c.args.by (c.reader.ensures s (ap (λ k. step_of c.args.world.now c.args.actor.now.participant k) (sym c.in-Reader.is) ∙ e))

pub returns-in-Word : goal.returns-in-Word
returns-in-Word c s i e = at_by c.word.result _ c.args.by (c.word.ensures s (ap (λ k. step_of c.args.world.now c.args.actor.now.participant k) (sym c.in-Word.is) ∙ e))

pub returns-in-Prepared : goal.returns-in-Prepared
returns-in-Prepared c s i e = at_by c.prepared.result _ c.args.by (c.prepared.ensures s (ap (λ k. step_of c.args.world.now c.args.actor.now.participant k) (sym c.in-Prepared.is) ∙ e))

pub returns-in-Snapshots : goal.returns-in-Snapshots
returns-in-Snapshots c s i e = at_by c.snapshots.result _ c.args.by (c.snapshots.ensures s (ap (λ k. step_of c.args.world.now c.args.actor.now.participant k) (sym c.in-Snapshots.is) ∙ e))

pub returns-in-Locks : goal.returns-in-Locks
returns-in-Locks c s i e = at_by c.locks.result _ c.args.by (c.locks.ensures s (ap (λ k. step_of c.args.world.now c.args.actor.now.participant k) (sym c.in-Locks.is) ∙ e))
