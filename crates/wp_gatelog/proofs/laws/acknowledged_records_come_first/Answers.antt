use Rattle.wp_gatelog.proofs.AcknowledgedLemmas.{rest_acknowledged, acknowledged_first, acknowledged_format}
use Rattle.wp_gatelog.proofs.laws.acknowledged_records_come_first.Goals as goal

pub returns-clause-at_rest : goal.returns-clause-at_rest
returns-clause-at_rest c = rest_acknowledged

pub returns-clause-first : goal.returns-clause-first
returns-clause-first c = acknowledged_first

pub returns-clause-one_format : goal.returns-clause-one_format
returns-clause-one_format c = acknowledged_format
