use Rattle.std.proofs.Common.{refl}
use Rattle.wp_gatelog.specs.Spelling.{stamped}
use Rattle.wp_wal.specs.Spelling.{MAGIC, NEWEST}
use Rattle.wp_wal.proofs.LawLemmas.{one_log, one_bad_log, one_illegal_log, log_not_bad, log_not_illegal, bad_head_not_bad_log, bad_log_not_illegal, none_collide_judged, judged_fronts, judged_each}
use Rattle.wp_wal.proofs.laws.a_log_is_read_in_one_way.Goals as goal

pub returns-clause-one_cut : goal.returns-clause-one_cut
returns-clause-one_cut c = let at = c.logs_at_a_place_are_read_in_one_way.ensures in one_log at.one_list at.one_format c.records_are_read.ensures.spelled c.bases_are_read.ensures.spelled

pub returns-clause-one_bad_record : goal.returns-clause-one_bad_record
returns-clause-one_bad_record c = let at = c.logs_at_a_place_are_read_in_one_way.ensures in one_bad_log at.one_list at.one_format at.spelled_or_cut c.bytes_are_read_in_one_way.ensures.one_index c.records_are_read.ensures.spelled c.bases_are_read.ensures.spelled

pub returns-clause-one_illegal : goal.returns-clause-one_illegal
returns-clause-one_illegal c = let at = c.logs_at_a_place_are_read_in_one_way.ensures in one_illegal_log at.one_list at.one_format c.records_are_read.ensures.spelled c.bases_are_read.ensures.spelled (none_collide_judged c.orderly_cuts.ensures.apart) (judged_fronts c.orderly_cuts.ensures.front c.legal_front.ensures) (judged_each c.orderly_cuts.ensures.each c.legal_at_each_entry.ensures)

pub returns-clause-spelled_or_bad_head : goal.returns-clause-spelled_or_bad_head
returns-clause-spelled_or_bad_head c = λ place bytes id cut log bad. c.logs_at_a_place_are_read_in_one_way.ensures.spelled_or_bad place bytes MAGIC NEWEST (stamped log.0 id) log.1 refl log.2 log.3 bad

pub returns-clause-spelled_or_bad_record : goal.returns-clause-spelled_or_bad_record
returns-clause-spelled_or_bad_record c = let at = c.logs_at_a_place_are_read_in_one_way.ensures in log_not_bad at.one_list at.one_format at.spelled_or_cut c.records_are_read.ensures.spelled c.bases_are_read.ensures.spelled

pub returns-clause-judged_or_illegal : goal.returns-clause-judged_or_illegal
returns-clause-judged_or_illegal c = let at = c.logs_at_a_place_are_read_in_one_way.ensures in log_not_illegal at.one_list at.one_format c.records_are_read.ensures.spelled c.bases_are_read.ensures.spelled (none_collide_judged c.orderly_cuts.ensures.apart) (judged_fronts c.orderly_cuts.ensures.front c.legal_front.ensures) (judged_each c.orderly_cuts.ensures.each c.legal_at_each_entry.ensures)

pub returns-clause-bad_head_or_bad_record : goal.returns-clause-bad_head_or_bad_record
returns-clause-bad_head_or_bad_record c = let at = c.logs_at_a_place_are_read_in_one_way.ensures in bad_head_not_bad_log at.spelled_or_bad at.cut_or_bad

pub returns-clause-bad_head_or_illegal : goal.returns-clause-bad_head_or_illegal
returns-clause-bad_head_or_illegal c = λ place bytes number bad log. c.logs_at_a_place_are_read_in_one_way.ensures.spelled_or_bad place bytes MAGIC NEWEST (stamped log.0 log.3.0) log.1 refl log.2 log.3.1 bad

pub returns-clause-bad_record_or_illegal : goal.returns-clause-bad_record_or_illegal
returns-clause-bad_record_or_illegal c = let at = c.logs_at_a_place_are_read_in_one_way.ensures in bad_log_not_illegal at.one_list at.one_format at.spelled_or_cut c.records_are_read.ensures.spelled c.bases_are_read.ensures.spelled (none_collide_judged c.orderly_cuts.ensures.apart) (judged_fronts c.orderly_cuts.ensures.front c.legal_front.ensures) (judged_each c.orderly_cuts.ensures.each c.legal_at_each_entry.ensures)
