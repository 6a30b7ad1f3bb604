use Rattle.std.proofs.Common.{◌&&◌, nat_lt, sym, ap, ◌∙◌}
use Rattle.wp_memtable.specs.Bounds.{is_between}
use Rattle.wp_memtable.specs.Memtable.{above}
use Rattle.wp_memtable.proofs.Between.{filters_same, filters_both}
use Rattle.wp_memtable.proofs.frozen.FrozenPart.remove_up_to.Goals as goal

pub returns : goal.returns
returns c =
    let p = nat_lt c.args.n in
    filters_same (is_between c.raise.new.self) (λ m. p m && is_between c.self.inside.bounds m) _ c.raise.ensures
    ∙ sym (filters_both p (is_between c.self.inside.bounds) _)
    ∙ ap (above c.args.n) c.self.view_is
