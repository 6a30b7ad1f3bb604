use Rattle.wp_manifest.proofs.LawLemmas.{one_manifest, one_bad_edit, manifest_not_bad_head, manifest_not_bad, bad_head_not_bad_edit}
use Rattle.wp_manifest.proofs.laws.a_manifest_is_read_in_one_way.Goals as goal

pub returns-clause-one_list : goal.returns-clause-one_list
returns-clause-one_list c = one_manifest c.bytes_are_read_in_one_way.ensures.one_list

pub returns-clause-one_bad_edit : goal.returns-clause-one_bad_edit
returns-clause-one_bad_edit c = one_bad_edit c.bytes_are_read_in_one_way.ensures.one_list c.bytes_are_read_in_one_way.ensures.spelled_or_cut c.bytes_are_read_in_one_way.ensures.one_index

pub returns-clause-edits_or_bad_head : goal.returns-clause-edits_or_bad_head
returns-clause-edits_or_bad_head c = manifest_not_bad_head c.bytes_are_read_in_one_way.ensures.spelled_or_bad

pub returns-clause-edits_or_bad_edit : goal.returns-clause-edits_or_bad_edit
returns-clause-edits_or_bad_edit c = manifest_not_bad c.bytes_are_read_in_one_way.ensures.one_list c.bytes_are_read_in_one_way.ensures.spelled_or_cut

pub returns-clause-bad_head_or_bad_edit : goal.returns-clause-bad_head_or_bad_edit
returns-clause-bad_head_or_bad_edit c = bad_head_not_bad_edit c.bytes_are_read_in_one_way.ensures.spelled_or_bad c.bytes_are_read_in_one_way.ensures.cut_or_bad
