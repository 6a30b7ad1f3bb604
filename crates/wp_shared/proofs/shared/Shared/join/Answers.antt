use Rattle.std.proofs.Common.{sym, ap, ◌∙◌}
use Rattle.wp_shared.specs.Seats.{SeatState}
use Rattle.wp_shared.proofs.Endings.{none_carried}
use Rattle.wp_shared.proofs.shared.Shared.join.Goals as goal

pub join-requires-clause-other : goal.join-requires-clause-other
join-requires-clause-other g c = let free = c.requires.other in let v = sym c.into_words.ensures in
    (ap (λ (s : SeatState). s.knows.live) v ∙ free.live, ap (λ (s : SeatState). s.knows.held) v ∙ free.held, none_carried c.into_words.result.me.1 (ap (λ (s : SeatState). s.turns) v ∙ free.turns))
