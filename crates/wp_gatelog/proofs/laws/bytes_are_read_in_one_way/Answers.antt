use Rattle.wp_gatelog.proofs.LawLemmas.{one_list, one_format, one_id, one_index, spelled_or_cut, spelled_or_bad, cut_or_bad}
use Rattle.wp_gatelog.proofs.SomeLemmas.{some_reading}
use Rattle.wp_gatelog.proofs.laws.bytes_are_read_in_one_way.Goals as goal

pub returns-clause-one_list : goal.returns-clause-one_list
returns-clause-one_list c = one_list

pub returns-clause-one_format : goal.returns-clause-one_format
returns-clause-one_format c = one_format

pub returns-clause-one_id : goal.returns-clause-one_id
returns-clause-one_id c = one_id

pub returns-clause-one_index : goal.returns-clause-one_index
returns-clause-one_index c = one_index

pub returns-clause-spelled_or_cut : goal.returns-clause-spelled_or_cut
returns-clause-spelled_or_cut c = spelled_or_cut

pub returns-clause-spelled_or_bad : goal.returns-clause-spelled_or_bad
returns-clause-spelled_or_bad c = spelled_or_bad

pub returns-clause-cut_or_bad : goal.returns-clause-cut_or_bad
returns-clause-cut_or_bad c = cut_or_bad

pub returns-clause-some : goal.returns-clause-some
returns-clause-some c = some_reading
