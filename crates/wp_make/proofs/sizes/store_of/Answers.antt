use Rattle.std.proofs.Common.{◌≡◌, length, sym, ap, ◌∙◌}
use Rattle.std.specs.FinMap as finite
use Rattle.std.specs.List.{sum_by}
use Rattle.wp_model.specs.Rows.{stored}
use Rattle.wp_make.specs.Totals.{size_of}
use Rattle.wp_make.proofs.sizes.store_of.Goals as goal

pub returns : goal.returns
returns c =
    let keys : c.len.result ≡ finite.len (stored c.args.history.now.entries) = c.len.ensures.len ∙ ap length c.in_ok-store.ensures ∙ sym (finite.len-entries (stored c.args.history.now.entries)) in
    let bytes : c.in_ok-bytes_of.field-0 ≡ sum_by size_of (finite.entries (stored c.args.history.now.entries)) = c.in_ok-bytes_of.ensures ∙ ap (sum_by size_of) c.in_ok-store.ensures in
    (λ i. record { keys = keys i; bytes = bytes i })
