use Rattle.wp_merge.proofs.Sorted.{in_order_sorted, at_sorted, merged_sorted, merged_is_sorted}
use Rattle.wp_merge.proofs.laws.merged_lists_are_sorted.Goals as goal

pub returns : goal.returns
returns c = record { merged = merged_is_sorted; sorted = merged_sorted; in_order = in_order_sorted; found = at_sorted }
