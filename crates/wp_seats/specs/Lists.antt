-- What is so of the sessions at once.
use Rattle.wp_shared.specs.Seats.{SeatState}
use Rattle.wp_seats.specs.declared.session.Session.{Session}
use Rattle.wp_text.specs.Answered.{Answered}

abbrev pub seat_of : {D : Type 0} → Session D → SeatState
seat_of s = s.seat

abbrev pub answers_of : {D : Type 0} → Session D → Answered
answers_of s = s.answers
