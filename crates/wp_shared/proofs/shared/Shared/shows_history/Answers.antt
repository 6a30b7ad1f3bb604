use Rattle.wp_shared.proofs.shared.Shared.shows_history.Goals as goal

pub returns : goal.returns
returns g c = let k = c.published.ensures in record {
  history = c.published.new.seat.knows.participant.seen;
  seat = λ i. record { table = k.same.0 i; by = k.same.1 i; knows = k.rest i; turns = k.same.2 i };
  grown = k.seen.0;
  legal = k.seen.2;
  world = k.stands.world;
  stands = k.stands.there;
  is = k.stands.seen;
}
