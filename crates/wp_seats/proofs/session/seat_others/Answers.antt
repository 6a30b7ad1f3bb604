use Rattle.std.proofs.Common.{◌≡◌, ℕ, ◌+◌, [], ◌∷◌, ◌++◌, length, map, sym, subst, ap, ◌∙◌}
use Rattle.std.proofs.lemmas.List.{map_push, length_push}
use Rattle.wp_core.specs.Changes.{made_one}
use Rattle.wp_shared.specs.Seats.{SeatState}
use Rattle.wp_seats.specs.declared.session.Session.{Session}
use Rattle.wp_seats.specs.Lists.{seat_of}
use Rattle.wp_seats.specs.New.{AreNew, having_made}
use Rattle.wp_seats.proofs.Seated.{made_new, one_more_new}
use Rattle.wp_seats.proofs.session.seat_others.Goals as goal

pub loop-name-preserved : goal.loop-name-preserved
loop-name-preserved g c =
    let z = c.args.store.now in let i = c.loop-name.invariant in let old = c.loop-name.sessions.items in let name = c.in-Some.name in let client = c.args.first.knows.participant.client in
    let longer = length_push c.loop-name.yielded name in
    let session : Session g.row.D.Denot = record { seat = c.seat.result; answers = c.none.result } in
    let seats : map seat_of c.push_reserved.new.self.items ≡ map seat_of old ++ c.seat.result ∷ [] = ap (map seat_of) c.push_reserved.ensures.items ∙ map_push seat_of old session in
    record {
      first = c.seat.ensures.same ∙ (ap (λ (s : SeatState). record s { knows = made_one s.knows }) i.first ∙ ap (having_made z client) (sym longer));
      others =
          subst (AreNew z (c.loop-name.yielded ++ name ∷ [])) (sym seats)
          (one_more_new z c.loop-name.yielded (map seat_of old) name c.seat.result i.others
          (made_new z client name (length c.loop-name.yielded) c.loop-name.first c.seat.result i.first c.seat.ensures.seat.0 c.seat.ensures.seat.1 c.seat.ensures.seat.2));
      count = c.push_reserved.ensures.len ∙ (ap (λ (n : ℕ). n + 1) i.count ∙ sym longer);
      capacity = c.push_reserved.ensures.capacity ∙ i.capacity;
    }
