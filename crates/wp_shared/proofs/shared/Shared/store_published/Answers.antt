use Rattle.std.proofs.Common.{subst, sym}
use Rattle.wp_core.specs.Lists.{IsIn}
use Rattle.wp_core.specs.States.{writes}
use Rattle.wp_shared.specs.Seats.{SeatState}
use Rattle.wp_shared.proofs.Clients.{moved_keeps}
use Rattle.wp_shared.proofs.Places.{moved_there, still_sits}
use Rattle.wp_shared.proofs.shared.Shared.store_published.Goals as goal

pub invariant_of-seat : goal.invariant_of-seat
invariant_of-seat g c = let t = c.requires.next in
    let moved = c.store_published.ensures.published t.state t.entry t.others (subst (λ (s : SeatState). IsIn (writes t.state) s.knows.held) (sym c.seat.view_is) t.held) t.pending in
    still_sits _ _ _ c.seat.inside.seat.me.0 c.store_published.new.seat.me.0 c.store_published.ensures.same.2 (moved_keeps _ _ _ _ _ (λ w. (tt, tt)) moved) c.seat.invariant

pub returns-clause-published : goal.returns-clause-published
returns-clause-published g c t entry others held pending =
    moved_there _ _ _ _ _ _ _ c.self.view_is c.seat.view_is (c.store_published.ensures.published t entry others (subst (λ (s : SeatState). IsIn (writes t) s.knows.held) (sym c.seat.view_is) held) pending)
