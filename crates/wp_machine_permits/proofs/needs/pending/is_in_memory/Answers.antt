use Rattle.std.proofs.Common.{◌≡◌, ap, ◌∙◌}
use Rattle.wp_machine_permits.proofs.needs.pending.is_in_memory.Goals as goal

pub returns : goal.returns
returns c =
    let memory : c.deref.result.now ≡ c.args.store.now.memory = c.deref.ensures.value ∙ ap (λ t. t.memory) c.store.view_is in
    let pending : c.deref-2.result.now ≡ c.args.writes.now.pending = c.deref-2.ensures.value ∙ ap (λ t. t.pending) c.writes.view_is in
    rw (memory, pending, c.in_ok-n.ensures) at c.has_pending.ensures
