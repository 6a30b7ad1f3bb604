use Rattle.std.proofs.Common.{◌≡◌, List, ℕ, ap, ◌∙◌}
use Rattle.std.specs.FinSet as set
use Rattle.wp_model.specs.declared.holder.Holder.TheVariants.{Txn}
use Rattle.wp_core.specs.Lists.{IsIn}
use Rattle.wp_core.specs.Views.{locked}
use Rattle.wp_machine.proofs.NameMaps.{set_of}
use Rattle.wp_machine_permits.proofs.LiveNumbers.{each_locked}
use Rattle.wp_machine_permits.proofs.permitted.publishing.locked_all.Goals as goal

pub returns : goal.returns
returns c all key has =
    let P : List ℕ → Type 0 = λ k. IsIn (locked k (Txn c.args.name.now)) c.args.past.now in
    let locked_is : set_of c.deref.result.now ≡ c.args.transaction.now.locked = ap set_of c.deref.ensures.value ∙ ap (λ t. t.locked) c.transaction.view_is in
    each_locked P _ (c.were_locked.ensures all) key (ap (λ s. set.contains s key) locked_is ∙ has)
