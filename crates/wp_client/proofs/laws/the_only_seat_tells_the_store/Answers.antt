use Rattle.wp_client.proofs.Alone.Stores.{tells_the_store}
use Rattle.wp_client.proofs.laws.the_only_seat_tells_the_store.Goals as goal

pub returns : goal.returns
returns g c z first s store only is was_last w at = tells_the_store z first s store only is was_last w at
