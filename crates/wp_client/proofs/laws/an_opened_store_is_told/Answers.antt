use Rattle.wp_client.proofs.Alone.Stores.{opened_is_told}
use Rattle.wp_client.proofs.laws.an_opened_store_is_told.Goals as goal

pub returns : goal.returns
returns g c z found client same was at = opened_is_told z found client same was at
