use Rattle.std.proofs.Common.{rules, ◌≡◌, ◌^◌, length}
use Rattle.wp_machine_permits.proofs.Held.{begins}
use Rattle.wp_machine_permits.proofs.permitted.reader.may_begin.Goals as goal

pub returns-then-bits : goal.returns-then-bits
returns-then-bits c reads by =
    let words : 2 ^ c.args.bits ≡ length c.args.world.now.cache = search rules in
    begins c.args.world.now by c.args.actor.now c.args.bits c.args.p c.args.place c.in-Some.registration words (search rules) (λ low. c.may_read.ensures reads (rw (← c.registration.view_is) at low))
