use Rattle.wp_make.proofs.Apart.{keys_apart, names_apart, txns_apart}
use Rattle.wp_make.proofs.laws.clients_share_no_word.Goals as goal

pub returns-clause-names : goal.returns-clause-names
returns-clause-names c = names_apart

pub returns-clause-keys : goal.returns-clause-keys
returns-clause-keys c = keys_apart

pub returns-clause-txns : goal.returns-clause-txns
returns-clause-txns c = txns_apart
