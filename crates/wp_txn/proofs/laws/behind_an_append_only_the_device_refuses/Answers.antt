use Rattle.wp_txn.proofs.BeforeLog.{refused_or_failed, put_or_failed, none_appended}
use Rattle.wp_txn.proofs.laws.behind_an_append_only_the_device_refuses.Goals as goal

pub returns-clause-refused : goal.returns-clause-refused
returns-clause-refused g c = refused_or_failed

pub returns-clause-record : goal.returns-clause-record
returns-clause-record g c = put_or_failed

pub returns-clause-appended : goal.returns-clause-appended
returns-clause-appended g c = none_appended
