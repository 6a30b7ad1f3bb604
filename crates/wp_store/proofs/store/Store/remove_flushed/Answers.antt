use Rattle.std.proofs.Common.{rules, refl}
use Rattle.wp_store.proofs.Flushed.{parts_left}
use Rattle.wp_store.proofs.store.Store.remove_flushed.Goals as goal

pub returns : goal.returns
returns c =
    let left = parts_left _ c.args.n _ (λ part b g left h. search rules) _ _ c.retain_mut.ensures.filtered in
    rw (← c.self.view_is, c.remove_up_to.ensures, left) refl
