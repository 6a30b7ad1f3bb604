use Rattle.std.proofs.Common.{◌≡◌, ◌↔◌, ℕ, true, List, subst, ap, ◌∙◌}
use Rattle.wp_model.specs.declared.version.Version.{Version}
use Rattle.wp_machine_permits.specs.VersionLists.{NoneAt}
use Rattle.wp_machine_permits.proofs.needs.pending.is_nowhere.Goals as goal

pub returns : goal.returns
returns c =
    let memory : c.deref.result.now ≡ c.args.store.now.memory = c.deref.ensures.value ∙ ap (λ t. t.memory) c.store.view_is in
    subst (λ (n : ℕ). (c.none_at.result ≡ true) ↔ NoneAt n c.args.store.now.memory) c.in_ok-n.ensures (subst (λ (xs : List Version). (c.none_at.result ≡ true) ↔ NoneAt c.in_ok-n.n xs) memory c.none_at.ensures)
