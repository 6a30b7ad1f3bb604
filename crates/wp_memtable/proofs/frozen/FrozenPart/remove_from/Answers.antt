use Rattle.std.proofs.Common.{ℕ, ◌&&◌, nat_lt, sym, ap, ◌∙◌}
use Rattle.wp_memtable.specs.Bounds.{is_between}
use Rattle.wp_memtable.specs.Memtable.{below}
use Rattle.wp_memtable.proofs.Between.{filters_same, filters_both}
use Rattle.wp_memtable.proofs.frozen.FrozenPart.remove_from.Goals as goal

pub returns : goal.returns
returns c =
    let p = λ (m : ℕ). nat_lt m c.args.n in
    filters_same (is_between c.lower.new.self) (λ m. p m && is_between c.self.inside.bounds m) _ c.lower.ensures
    ∙ sym (filters_both p (is_between c.self.inside.bounds) _)
    ∙ ap (below c.args.n) c.self.view_is
