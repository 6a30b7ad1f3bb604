use Rattle.std.proofs.Common.{◌++◌, sym, ap, ◌∙◌, refl}
use Rattle.std.proofs.lemmas.List.{append-nil}
use Rattle.wp_locks.proofs.Beyond.{all_beyond, are_beyond}
use Rattle.wp_locks.proofs.locks.Locks.keys_of.Goals as goal

pub returns : goal.returns
returns c =
    let name = c.args.name.now in let batch = c.args.batch.now in
    let all = sym (append-nil c.loop-key.keys.items) ∙ ap (λ es. c.loop-key.keys.items ++ all_beyond name batch es) (sym c.in-None.ensures.steps.0) ∙ c.loop-key.invariant in
    rw (← c.self.view_is) (are_beyond name batch _ c.self.inside.keys.entries c.loop-key.keys.items c.into_iter-key-iterator.ensures.into_iter_gives.5 refl all)
