use Rattle.std.proofs.Common.{[], ◌∷◌, subst}
use Rattle.wp_core.specs.IsSound.{IsSound}
use Rattle.wp_core.specs.Sound.History.{IsHistory}
use Rattle.wp_core.specs.Sound.Segments.{AreCoupled}
use Rattle.wp_core.specs.States.{WriteState, Installed, writes, installed}
use Rattle.wp_core.specs.World.{World}
use Rattle.wp_rule.proofs.Knows.{at_sound}
use Rattle.wp_shared.specs.Seats.{SeatState, Stands, place_at}
use Rattle.wp_shared.proofs.Tables.{held_state}
use Rattle.wp_maint.proofs.Made.{first_held, second_held}
use Rattle.wp_maint.proofs.Renewing.{names_this}
use Rattle.wp_stages.proofs.Renews.{log_now, whole_now}
use Rattle.wp_renew.proofs.renewing.shows_segment.Goals as goal

pub shows_world-requires : goal.shows_world-requires
shows_world-requires g c = c.requires.turn.same_table

pub returns-clause-segment : goal.returns-clause-segment
returns-clause-segment g c =
    let z = c.args.store.now in let s = c.args.seat.now in let d = c.args.log.now.state in let t = c.args.edits.now.state in
    let stands = subst (λ (x : SeatState). (w : World) × Stands z x w) c.shows_world.ensures.same c.shows_world.ensures.stands in let w = stands.0 in
    let sound : IsSound w = at_sound (place_at z s.by) s.knows w stands.1 in
    let log_is = held_state (place_at z s.by) s.knows w (writes d) stands.1 (first_held s.knows (writes d) (installed t ∷ []) c.requires.turn.held) in
    let tables_are = held_state (place_at z s.by) s.knows w (installed t) stands.1 (second_held s.knows (writes d) (installed t) c.requires.turn.held) in
    names_this d t (subst (λ (x : WriteState × Installed). AreCoupled x.0 x.1 w.holders.write) (λ i. (log_is i, tables_are i)) sound.coupled).last c.devices_agree.ensures.next

pub returns-clause-whole : goal.returns-clause-whole
returns-clause-whole g c nothing =
    let z = c.args.store.now in let s = c.args.seat.now in let d = c.args.log.now.state in let t = c.args.edits.now.state in
    let stands = subst (λ (x : SeatState). (w : World) × Stands z x w) c.shows_world.ensures.same c.shows_world.ensures.stands in let w = stands.0 in
    let sound : IsSound w = at_sound (place_at z s.by) s.knows w stands.1 in
    let log_is = held_state (place_at z s.by) s.knows w (writes d) stands.1 (first_held s.knows (writes d) (installed t ∷ []) c.requires.turn.held) in
    let history = subst (λ (x : WriteState). IsHistory w.opened x w.max_evicted) log_is sound.history in
    (whole_now w.opened d w.max_evicted history nothing, log_now w.opened d w.max_evicted history nothing)
