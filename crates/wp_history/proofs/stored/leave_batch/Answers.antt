use Rattle.std.proofs.Common.{ℕ, List, [], Option, sym, ap, subst, ◌∙◌}
use Rattle.std.specs.Prelude.{unwrap_or, OnOk}
use Rattle.std.specs.Option.{option_map_or}
use Rattle.wp_model.specs.declared.change.Change.{Change}
use Rattle.wp_model.specs.Batch.{change_to}
use Rattle.wp_history.specs.History.{IsStore}
use Rattle.wp_history.proofs.stored.leave_batch.Goals as goal

pub returns-in-Some : goal.returns-in-Some
returns-in-Some c =
    subst (λ (cs : List Change). OnOk c.leave_all.result ((values : List ℕ → Option (List ℕ)) → IsStore values c.args.store.now → IsStore (λ key. unwrap_or (change_to cs key) (values key)) c.leave_all.new.store))
    (c.changes.ensures.value ∙ ap (λ b. option_map_or (λ batch. batch.now) b []) (sym c.in-Some.is)) c.leave_all.ensures
