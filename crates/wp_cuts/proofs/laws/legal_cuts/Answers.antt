use Rattle.std.proofs.Common.{refl}
use Rattle.wp_model.specs.History.{value_at}
use Rattle.wp_cuts.proofs.LegalCuts.{cut_is_legal}
use Rattle.wp_cuts.proofs.FullLegal.{full_is_legal, full_is_legal_cut, full_is_below}
use Rattle.wp_cuts.proofs.laws.legal_cuts.Goals as goal

pub returns-clause-full : goal.returns-clause-full
returns-clause-full c = full_is_legal

pub returns-clause-legal : goal.returns-clause-legal
returns-clause-legal c = full_is_legal_cut

pub returns-clause-below : goal.returns-clause-below
returns-clause-below c = full_is_below

pub returns-clause-any : goal.returns-clause-any
returns-clause-any c = λ history d legal cut. cut_is_legal history d (λ key. value_at history key d.base) legal cut (λ key. refl)
