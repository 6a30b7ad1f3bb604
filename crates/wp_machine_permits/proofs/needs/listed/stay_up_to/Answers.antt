use Rattle.std.proofs.Common.{◌≡◌, ◌∙◌}
use Rattle.wp_core.specs.States.{up_to}
use Rattle.wp_machine_permits.proofs.ListFacts.{same_up_to, up_to_same}
use Rattle.wp_machine_permits.proofs.needs.listed.stay_up_to.Goals as goal

pub returns : goal.returns
returns c =
    let here : c.deref.result.now ≡ up_to c.args.n c.args.memory.now = c.deref.ensures.value ∙ c.in_ok-here.ensures in
    let there : c.deref-2.result.now ≡ up_to c.args.n c.args.versions.now = c.deref-2.ensures.value ∙ c.in_ok-there.ensures in
    let same = rw (here, there) at c.are_same.ensures in
    (λ e. same_up_to _ _ _ (same.0 e), λ h. same.1 (up_to_same _ _ _ h))
