use Rattle.std.proofs.Common.{◌≡◌, map, take}
use Rattle.wp_make.specs.Totals.{count_of}
use Rattle.wp_make.proofs.kind.count_of.Given as goal

abbrev pub invariant-loop-replies : goal.invariant-loop-replies
invariant-loop-replies l = l.total ≡ count_of l.kind (map (λ replies. replies.now) (take l.replies-index l.sessions))
