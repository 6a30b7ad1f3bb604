use Rattle.std.proofs.Common.{◌≡◌, ℕ, List, ◌∷◌, inl, refl, sym, ap, subst, ◌∙◌}
use Rattle.atomic_table.specs.Table.{Me, rest}
use Rattle.wp_core.specs.Changes.{turn_index}
use Rattle.wp_core.specs.World.{Actor}
use Rattle.wp_core.specs.Turns.{turn_of}
use Rattle.wp_rule.specs.Words.{place_of}
use Rattle.wp_parts.specs.declared.turn_value.TurnValue.{TurnValue}
use Rattle.wp_parts.specs.Parts.{content}
use Rattle.wp_shared.specs.Seats.{SharedState, SeatState, AllAway, turns_of}
use Rattle.wp_shared.proofs.HeldTurns.{still_sits, took}
use Rattle.wp_shared.proofs.shared.Shared.take_part.Goals as goal

pub loop-init : goal.loop-init
loop-init g c = (refl, refl, refl, refl)

pub claim-requires : goal.claim-requires
claim-requires g c = let i = c.loop.invariant in record {
  seat = i.0 ∙ (ap (λ (s : SeatState). s.table) c.seat.view_is ∙ (c.requires.seat ∙ sym (ap (λ (z : SharedState g.row.D.Denot). z.table) c.self.view_is)));
  live = ap (λ (m : Me (TurnValue g.row.D.Denot) Actor). m.0.live) i.2 ∙ (ap (λ (s : SeatState). s.knows.live) c.seat.view_is ∙ c.requires.live);
}

pub exchange-requires : goal.exchange-requires
exchange-requires g c = let i = c.loop.invariant in let back = c.if-claim.ensures.turn.back in record {
  seat = c.claim.ensures.same.0 ∙ (i.0 ∙ (ap (λ (s : SeatState). s.table) c.seat.view_is ∙ (c.requires.seat ∙ sym (ap (λ (z : SharedState g.row.D.Denot). z.table) c.self.view_is))));
  turn = (back.value, back.last_taken);
  value = inl refl;
}

pub loop-preserved : goal.loop-preserved
loop-preserved g c = let i = c.loop.invariant in let same = c.claim.ensures.same in (same.0 ∙ i.0, same.1 ∙ i.1, c.if-claim.ensures.turn.same ∙ i.2, i.3)

pub returns-then-claim-clause-same : goal.returns-then-claim-clause-same
returns-then-claim-clause-same g c = let i = c.loop.invariant in let claimed = c.claim.ensures.same in let same = c.exchange.ensures.same in (
  same.0 ∙ (claimed.0 ∙ (i.0 ∙ ap (λ (s : SeatState). s.table) c.seat.view_is)),
  same.1 ∙ (claimed.1 ∙ (i.1 ∙ ap (λ (s : SeatState). s.by) c.seat.view_is)),
  ap (λ (m : Me (TurnValue g.row.D.Denot) Actor). turns_of m.1) c.exchange.ensures.home
      ∙ ap (λ (x : List ℕ). turn_index (turn_of c.args.turn) ∷ x)
      (ap (λ (m : Me (TurnValue g.row.D.Denot) Actor). turns_of (rest m.1)) c.if-claim.ensures.turn.after
      ∙ (ap (λ (m : Me (TurnValue g.row.D.Denot) Actor). turns_of m.1) i.2 ∙ ap (λ (s : SeatState). s.turns) c.seat.view_is)),
)

pub invariant_of-seat : goal.invariant_of-seat
invariant_of-seat g c = let i = c.loop.invariant in
    let sat : AllAway c.loop.seat-inside.seat.me.1 × (c.loop.seat-inside.client ≡ c.loop.seat-inside.seat.me.0.participant.client) = subst (λ (x : Me (TurnValue g.row.D.Denot) Actor × List ℕ). AllAway x.0.1 × (x.1 ≡ x.0.0.participant.client)) (λ k. (sym i.2 k, sym i.3 k)) c.seat.invariant in
    still_sits (turn_of c.args.turn) c.loop.seat-inside.seat.me c.claim.new.seat.me c.self.inside.words.first (place_of content c.self.inside.words c.loop.seat-inside.seat.id) c.exchange.new.seat.me c.loop.seat-inside.client c.if-claim.ensures.turn c.exchange.ensures.home sat

pub returns-then-claim-clause-took : goal.returns-then-claim-clause-took
returns-then-claim-clause-took g c = let i = c.loop.invariant in let home = c.exchange.ensures.home in
    let by : c.loop.seat-inside.seat.id ≡ c.args.seat.now.by = i.1 ∙ ap (λ (s : SeatState). s.by) c.seat.view_is in
    took (turn_of c.args.turn) c.loop.seat-inside.seat.me c.claim.new.seat.me _ c.args.self.now _ c.args.seat.now _ c.exchange.result c.self.view_is by c.if-claim.ensures.turn
    (ap (λ (m : Me (TurnValue g.row.D.Denot) Actor). m.0) i.2 ∙ ap (λ (s : SeatState). s.knows) c.seat.view_is)
    (sym (ap (λ (m : Me (TurnValue g.row.D.Denot) Actor). m.0) home))
    (c.exchange.ensures.same.1 ∙ (c.if-claim.ensures.same.1 ∙ by))
    c.exchange.ensures.out
