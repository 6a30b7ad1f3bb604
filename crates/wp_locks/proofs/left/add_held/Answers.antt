use Rattle.std.proofs.Common.{◌∷◌, ◌++◌, [], map, ap, ◌∙◌, append_assoc}
use Rattle.wp_model.specs.Batch.{key_of}
use Rattle.wp_model.specs.declared.holder.Holder.TheVariants.{Txn}
use Rattle.wp_locks.proofs.Maps.{joined_one}
use Rattle.wp_locks.proofs.left.add_held.Goals as goal

pub loop-change-preserved : goal.loop-change-preserved
loop-change-preserved c =
    let so_far = c.loop-change.invariant in
    let change = c.in-Some.change.now in
    let cases = c.in-Some.ensures.cases in
    let updated = rw (c.in_ok-copy.ensures, c.key.ensures, c.in_ok-copy-2.ensures) at c.in_ok-insert.ensures.updates in (
      change ∷ so_far.0,
      so_far.1 ∙ ap (λ xs. xs ++ so_far.0) cases.0 ∙ append_assoc c.in-Some.before.now (change ∷ []) so_far.0,
      λ es same. joined_one c.loop-change.keys.entries c.insert.new.self.entries (map (λ x. (key_of x, Txn c.args.name.now)) so_far.0 ++ es) (key_of change) (Txn c.args.name.now) updated.0 (so_far.2 es same),
    )
