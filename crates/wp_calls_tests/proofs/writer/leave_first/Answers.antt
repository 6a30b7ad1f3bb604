use Rattle.std.proofs.Common.{◌≡◌, List, slice_index_or, sym, ap, ◌∙◌, subst}
use Rattle.std.specs.List.{remove}
use Rattle.wp_open_txns.specs.Txn.{PreparedState, HasPrepared}
use Rattle.wp_calls_tests.proofs.Ready.{left_beside}
use Rattle.wp_calls_tests.proofs.writer.leave_first.Goals as goal

pub returns : goal.returns
returns g c =
    let both = c.requires.both in
    let kept : c.remove-kept.result ≡ both.second = c.remove-kept.ensures.value ∙ ap (λ (txns : List PreparedState). slice_index_or txns 1 c.remove-kept.result) both.are in
    let left : c.remove-left.result ≡ both.first = c.remove-left.ensures.value ∙ ap (λ (txns : List PreparedState). slice_index_or txns 0 c.remove-left.result) (c.remove-kept.ensures.items ∙ ap (λ (txns : List PreparedState). remove txns 1) both.are) in
    left_beside c.args.store.now c.args.seat.now c.leave.new.seat c.requires.seat.direct c.remove-kept.result c.remove-left.result
    (λ same. both.apart (ap (λ (t : PreparedState). t.name) (sym kept) ∙ same ∙ ap (λ (t : PreparedState). t.name) left))
    (subst (HasPrepared c.args.seat.now) (sym kept) both.has_second)
    c.leave.ensures.gives_up
