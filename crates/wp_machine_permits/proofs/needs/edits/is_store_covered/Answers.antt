use Rattle.std.proofs.Common.{◌≡◌, ◌++◌, ℕ, nat_eq, List, length, is_some, ◌||◌, ap, ◌∙◌}
use Rattle.std.specs.FinMap as finite
use Rattle.wp_model.specs.declared.version.Version.{Version}
use Rattle.wp_model.specs.Covered.{is_among}
use Rattle.wp_core.specs.States.{up_to}
use Rattle.wp_machine_permits.proofs.Stores.{covered_live}
use Rattle.wp_machine_permits.proofs.needs.edits.is_store_covered.Goals as goal

pub returns : goal.returns
returns c =
    let all : c.deref.result.now ≡ c.args.memory.now ++ c.args.tables.now = c.deref.ensures.value ∙ c.in_ok-all.ensures in
    let some : c.deref-2.result.now ≡ up_to (length c.args.history.now.entries) (c.args.memory.now ++ c.args.tables.now) = c.deref-2.ensures.value ∙ c.in_ok-some.ensures ∙ ap (λ (n : ℕ). up_to n c.deref.result.now) c.published.ensures.value ∙ ap (λ (vs : List Version). up_to (length c.args.history.now.entries) vs) all in
    let covered = rw some at c.in_ok-yes.ensures in
    let live : (n : ℕ) → is_among c.deref-3.result.now n ≡ (nat_eq c.args.base n || is_some (finite.get c.args.snapshots.now n)) =
    λ n. ap (λ (xs : List ℕ). is_among xs n) (c.deref-3.ensures.value ∙ c.in_ok-insert.ensures.items) ∙ ap (λ b. nat_eq c.args.base n || b) (c.in_ok-live.ensures n) in
    λ e. covered_live c.args.base c.args.snapshots.now _ _ _ _ live (covered e)
