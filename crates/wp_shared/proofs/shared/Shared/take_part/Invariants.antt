use Rattle.std.proofs.Common.{◌≡◌}
use Rattle.wp_shared.proofs.shared.Shared.take_part.Given as goal

abbrev pub invariant-loop : goal.invariant-loop
invariant-loop g l =
    (l.seat-inside.seat.table_id ≡ l.initial.seat-inside.seat.table_id) × (l.seat-inside.seat.id ≡ l.initial.seat-inside.seat.id) × (l.seat-inside.seat.me ≡ l.initial.seat-inside.seat.me)
    × (l.seat-inside.client ≡ l.initial.seat-inside.client)
