use Rattle.std.proofs.Common.{rules, ◌≡◌, List, ◌∷◌, length, map, sym, subst, ap, ◌∙◌}
use Rattle.wp_shared.specs.Ending.{AreAll}
use Rattle.wp_seats.specs.declared.session.Session.{Session}
use Rattle.wp_seats.specs.Lists.{seat_of}
use Rattle.wp_seats.specs.New.{AreNew, having_made}
use Rattle.wp_seats.proofs.Seated.{all_new, all_made}
use Rattle.wp_seats.proofs.session.seat_all.Goals as goal

pub returns-clause-new : goal.returns-clause-new
returns-clause-new g c =
    let z = c.args.store.now in let client = c.args.first.knows.participant.client in let names = c.args.names.items in
    let count : c.args.names.len ≡ length names = search rules in
    subst (λ (ss : List (Session g.row.D.Denot)). AreNew z (client ∷ names) (map seat_of ss)) (sym c.put_first.ensures.items)
    (all_new z client names c.seat_others-first.result.0 (map seat_of c.seat_others-first.result.1.items) (c.seat_others-first.ensures.first ∙ ap (having_made z client) count) c.seat_others-first.ensures.others)

pub returns-clause-all : goal.returns-clause-all
returns-clause-all g c =
    let z = c.args.store.now in let client = c.args.first.knows.participant.client in let names = c.args.names.items in
    let count : c.args.names.len ≡ length names = search rules in
    subst (λ (ss : List (Session g.row.D.Denot)). AreAll (map seat_of ss)) (sym c.put_first.ensures.items)
    (all_made z client names c.seat_others-first.result.0 (map seat_of c.seat_others-first.result.1.items) (c.seat_others-first.ensures.first ∙ ap (having_made z client) count) c.seat_others-first.ensures.others)
