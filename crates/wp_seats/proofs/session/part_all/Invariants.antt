use Rattle.std.proofs.Common.{◌≡◌, length, map, vec_len, vec_capacity}
use Rattle.wp_seats.specs.Lists.{seat_of, answers_of}
use Rattle.wp_seats.proofs.session.part_all.Given as goal

abbrev pub invariant-loop-session : goal.invariant-loop-session
invariant-loop-session g l = record {
  seats : l.seats.items ≡ map seat_of l.yielded;
  answers : l.all.items ≡ map answers_of l.yielded;
  seat_count : vec_len l.seats ≡ length l.yielded;
  answer_count : vec_len l.all ≡ length l.yielded;
  seat_capacity : vec_capacity l.seats ≡ vec_capacity l.initial.seats;
  answer_capacity : vec_capacity l.all ≡ vec_capacity l.initial.all;
}
