use Rattle.std.proofs.Common.{rules, ◌≡◌, length, ◌∙◌}
use Rattle.wp_seats.proofs.Seated.{none_there}
use Rattle.wp_seats.proofs.room.Room.into_lists.Goals as goal

pub returns-clause-empty : goal.returns-clause-empty
returns-clause-empty g c =
    let has = c.self.invariant in let lists = c.self.inside in
    let sessions : length lists.sessions.items ≡ lists.sessions.len = search rules in let seats : length lists.seats.items ≡ lists.seats.len = search rules in let answers : length lists.answers.items ≡ lists.answers.len = search rules in
    (none_there lists.sessions.items (sessions ∙ has.0.0), none_there lists.seats.items (seats ∙ has.1.0), none_there lists.answers.items (answers ∙ has.2.0))
