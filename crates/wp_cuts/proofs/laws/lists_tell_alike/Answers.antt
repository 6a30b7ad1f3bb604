use Rattle.std.proofs.Common.{sym, ◌∙◌}
use Rattle.wp_history_laws.proofs.Growth.{legal_naming}
use Rattle.wp_cuts.specs.Cut.{full_of}
use Rattle.wp_cuts.proofs.Fronts.{tell_alike}
use Rattle.wp_cuts.proofs.FullList.{full_is_cut, full_value}
use Rattle.wp_cuts.proofs.laws.lists_tell_alike.Goals as goal

pub returns-clause-any : goal.returns-clause-any
returns-clause-any c = λ one other d legal also cut cut_too values. tell_alike one other d (legal_naming one legal.each) (legal_naming other also.each) cut cut_too values

pub returns-clause-full : goal.returns-clause-full
returns-clause-full c = λ d one other numbered order also legal legal_too same.
    tell_alike (full_of d one) (full_of d other) d (legal_naming (full_of d one) legal.each) (legal_naming (full_of d other) legal_too.each)
    (full_is_cut d one numbered) (full_is_cut d other numbered)
    (λ key. full_value d one key numbered order ∙ same key ∙ sym (full_value d other key numbered also))
