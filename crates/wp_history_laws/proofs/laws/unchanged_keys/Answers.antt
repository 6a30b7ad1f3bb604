use Rattle.wp_history_laws.proofs.Unchanged.{unchanged_keeps_value, unchanged_later, held_unchanged, unchanged_over_prepare}
use Rattle.wp_history_laws.proofs.laws.unchanged_keys.Goals as goal

pub returns-clause-values : goal.returns-clause-values
returns-clause-values c = unchanged_keeps_value

pub returns-clause-later : goal.returns-clause-later
returns-clause-later c = unchanged_later

pub returns-clause-prepared : goal.returns-clause-prepared
returns-clause-prepared c = held_unchanged

pub returns-clause-joined : goal.returns-clause-joined
returns-clause-joined c = unchanged_over_prepare
