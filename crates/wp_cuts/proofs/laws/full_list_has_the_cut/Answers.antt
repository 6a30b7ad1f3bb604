use Rattle.wp_cuts.proofs.FullList.{full_is_cut, full_value, full_long, full_carried, full_undecided, full_behind}
use Rattle.wp_cuts.proofs.Several.{full_grows}
use Rattle.wp_cuts.proofs.Whole.{full_undone, full_front, full_rest, full_fixed}
use Rattle.wp_cuts.proofs.laws.full_list_has_the_cut.Goals as goal

pub returns-clause-cut : goal.returns-clause-cut
returns-clause-cut c = full_is_cut

pub returns-clause-values : goal.returns-clause-values
returns-clause-values c = full_value

pub returns-clause-long : goal.returns-clause-long
returns-clause-long c = full_long

pub returns-clause-carried : goal.returns-clause-carried
returns-clause-carried c = full_carried

pub returns-clause-undecided : goal.returns-clause-undecided
returns-clause-undecided c = full_undecided

pub returns-clause-behind : goal.returns-clause-behind
returns-clause-behind c = full_behind

pub returns-clause-grows : goal.returns-clause-grows
returns-clause-grows c = full_grows

pub returns-clause-fixed : goal.returns-clause-fixed
returns-clause-fixed c = full_fixed

pub returns-clause-undone : goal.returns-clause-undone
returns-clause-undone c = full_undone

pub returns-clause-front : goal.returns-clause-front
returns-clause-front c = full_front

pub returns-clause-rest : goal.returns-clause-rest
returns-clause-rest c = full_rest
