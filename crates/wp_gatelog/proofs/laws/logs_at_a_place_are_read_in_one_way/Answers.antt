use Rattle.wp_gatelog.proofs.LawLemmas.{one_list_at, one_format_at, one_id_at, spelled_or_cut_at, spelled_or_bad_at, cut_or_bad_at}
use Rattle.wp_gatelog.proofs.SomeLemmas.{some_reading_at}
use Rattle.wp_gatelog.proofs.laws.logs_at_a_place_are_read_in_one_way.Goals as goal

pub returns-clause-one_list : goal.returns-clause-one_list
returns-clause-one_list c = one_list_at

pub returns-clause-one_format : goal.returns-clause-one_format
returns-clause-one_format c = one_format_at

pub returns-clause-one_id : goal.returns-clause-one_id
returns-clause-one_id c = one_id_at

pub returns-clause-spelled_or_cut : goal.returns-clause-spelled_or_cut
returns-clause-spelled_or_cut c = spelled_or_cut_at

pub returns-clause-spelled_or_bad : goal.returns-clause-spelled_or_bad
returns-clause-spelled_or_bad c = spelled_or_bad_at

pub returns-clause-cut_or_bad : goal.returns-clause-cut_or_bad
returns-clause-cut_or_bad c = cut_or_bad_at

pub returns-clause-some : goal.returns-clause-some
returns-clause-some c = some_reading_at
