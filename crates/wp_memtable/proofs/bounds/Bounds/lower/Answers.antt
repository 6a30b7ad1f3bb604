use Rattle.std.proofs.Common.{◌&&◌, nat_lt, ap, ◌∙◌}
use Rattle.wp_memtable.specs.Bounds.{is_above, is_below}
use Rattle.wp_memtable.proofs.Between.{and_swapped}
use Rattle.wp_memtable.proofs.bounds.Bounds.lower.Goals as goal

pub returns : goal.returns
returns c m =
    let old = c.args.self.now in
    ap (λ x. is_above old.above m && x) (c.lesser.ensures m) ∙ and_swapped (is_above old.above m) (nat_lt m c.args.n) (is_below old.below m)
