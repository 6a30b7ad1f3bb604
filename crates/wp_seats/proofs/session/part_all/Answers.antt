use Rattle.std.proofs.Common.{ℕ, ◌+◌, List, [], ◌∷◌, ◌++◌, sym, ap, ◌∙◌}
use Rattle.std.proofs.lemmas.List.{map_push, length_push}
use Rattle.wp_text.specs.Answered.{Answered}
use Rattle.wp_shared.specs.Seats.{SeatState}
use Rattle.wp_seats.specs.Lists.{seat_of, answers_of}
use Rattle.wp_seats.proofs.session.part_all.Goals as goal

pub loop-session-preserved : goal.loop-session-preserved
loop-session-preserved g c =
    let i = c.loop-session.invariant in let old = c.loop-session.yielded in let session = c.in-Some.session in let longer = length_push old session in
    record {
      seats = c.push_reserved.ensures.items ∙ (ap (λ (ss : List SeatState). ss ++ session.seat ∷ []) i.seats ∙ sym (map_push (seat_of {D = g.row.D.Denot}) old session));
      answers = c.push_reserved-in-loop-session.ensures.items ∙ (ap (λ (xs : List Answered). xs ++ session.answers ∷ []) i.answers ∙ sym (map_push (answers_of {D = g.row.D.Denot}) old session));
      seat_count = c.push_reserved.ensures.len ∙ (ap (λ (n : ℕ). n + 1) i.seat_count ∙ sym longer);
      answer_count = c.push_reserved-in-loop-session.ensures.len ∙ (ap (λ (n : ℕ). n + 1) i.answer_count ∙ sym longer);
      seat_capacity = c.push_reserved.ensures.capacity ∙ i.seat_capacity;
      answer_capacity = c.push_reserved-in-loop-session.ensures.capacity ∙ i.answer_capacity;
    }
