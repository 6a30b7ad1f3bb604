use Rattle.std.proofs.Common.{◌-◌, arith}
use Rattle.std.specs.Vec.{vec_len}
use Rattle.wp_text.proofs.Placing.{with_command_last}
use Rattle.wp_text.proofs.read.add_command.Goals as goal

pub returns-in_ok-push-in-Some : goal.returns-in_ok-push-in-Some
returns-in_ok-push-in-Some c =
    let some = c.in-Some.ensures.item.3.0 in
    rw c.in_ok-push-in-Some.ensures.ok (with_command_last c.args.parts.now.items c.args.command c.in-Some.part.now (vec_len c.args.parts.now - 1) (omega arith) c.in-Some.ensures.item.1)
