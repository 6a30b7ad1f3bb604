use Rattle.std.proofs.Common.{◌&&◌, nat_lt, ap, ◌∙◌}
use Rattle.wp_memtable.specs.Bounds.{is_above, is_below}
use Rattle.wp_memtable.proofs.Between.{and_more}
use Rattle.wp_memtable.proofs.bounds.Bounds.raise.Goals as goal

pub returns : goal.returns
returns c m =
    let old = c.args.self.now in
    ap (λ x. x && is_below old.below m) (c.greater.ensures m) ∙ and_more (nat_lt c.args.n m) (is_above old.above m) (is_below old.below m)
