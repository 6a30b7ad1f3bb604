use Rattle.std.proofs.Common.{rules, ◌≡◌, ◌∙◌}
use Rattle.wp_machine_permits.proofs.Held.{entitled}
use Rattle.wp_machine_permits.proofs.permitted.publishing.is_entitled.Goals as goal

pub returns : goal.returns
returns c own =
    let whole : c.in-Some.history.entries ≡ c.args.world.now.writes.history = search rules in
    entitled c.args.world.now c.args.actor.now c.args.entry.now c.in-Some.history.entries whole (c.may_follow.ensures (search rules)) c.changes_under-batch.result.now c.changes_under-batch.ensures (c.has_written.ensures (search rules)) (λ name is. c.is_of_own.ensures own name (c.transaction_of.ensures ∙ is)) (c.came_to_keys.ensures (search rules))
