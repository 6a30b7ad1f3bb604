use Rattle.wp_core.specs.Runs.{goes_on}
use Rattle.wp_machine.proofs.applied.apply.Goals as goal

pub returns-clause-sound : goal.returns-clause-sound
returns-clause-sound c s =
    let m = c.in_ok-apply_to.ensures in
    c.steps_keep_sound.ensures c.args.world c.args.step.by m.step c.apply_to.new.world m.goes s

pub returns-clause-reached : goal.returns-clause-reached
returns-clause-reached c r =
    let m = c.in_ok-apply_to.ensures in
    (r.0, r.1, goes_on c.args.step.by m.step r.2 m.goes)
