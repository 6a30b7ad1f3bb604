use Rattle.std.proofs.Common.{map, sym, ap, ◌∙◌}
use Rattle.std.specs.Arc.{arc_value}
use Rattle.wp_merge.specs.Merge.{joined, sorted_of}
use Rattle.wp_merge.proofs.Sorted.{merged_is_sorted}
use Rattle.wp_compact.proofs.unchanged.have_versions.Goals as goal

pub returns : goal.returns
returns c =
    let list = ap (λ l. sorted_of (joined (map arc_value l))) c.from_vec.ensures.items in
    let found = merged_is_sorted _ _ c.in_ok-found.ensures ∙ list in let one = c.as_slice.ensures.value in let two = c.as_slice-2.ensures.value in
    (λ same. sym (sym one ∙ c.are_equal.ensures.0 same ∙ two) ∙ found, λ is. c.are_equal.ensures.1 (one ∙ found ∙ sym is ∙ sym two))
