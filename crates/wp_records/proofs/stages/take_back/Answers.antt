use Rattle.std.proofs.Common.{◌≡◌, [], ◌∷◌, refl, ap}
use Rattle.wp_core.specs.States.{writes}
use Rattle.wp_core.specs.Views.{number_not_in_heap, pair_not_delayed}
use Rattle.wp_parts.specs.Log.{LogState}
use Rattle.wp_shared.specs.Seats.{place_at}
use Rattle.wp_records.specs.Stages.{is_of_number, is_of_versions, is_of_pending, is_of_stage}
use Rattle.wp_records.proofs.Begun.{words_before, dropped_holds}
use Rattle.wp_records.proofs.Facts.{and_still, and_with, stage_number, stage_versions, stage_pending}
use Rattle.wp_records.proofs.Made.{may_drop, dropped}
use Rattle.wp_records.proofs.stages.take_back.Goals as goal

pub make-requires-clause-may : goal.make-requires-clause-may
make-requires-clause-may g c = let z = c.args.store.now in let u = c.leave_memory.new.seat in let log = c.args.log.now in let left = c.drop_pending.new.self in let h = c.leave_memory.ensures.holds in let kept = c.leave_memory.ensures.seat.noted in
    may_drop (place_at z u.by) u.knows log.state left.state h.turn.held c.requires.unlogged (ap (λ (x : LogState). x.state) c.drop_pending.ensures.table) (words_before z u u log left h c.drop_pending.ensures.table)
    c.leave_memory.ensures.nowhere (kept number_not_in_heap refl c.leave_heap.ensures.below) (kept pair_not_delayed refl (c.leave_heap.ensures.seat.noted pair_not_delayed refl c.requires.undelayed))

pub make-requires-clause-client : goal.make-requires-clause-client
make-requires-clause-client g c w = (tt, tt)

pub returns : goal.returns
returns g c =
    let z = c.args.store.now in let s = c.args.seat.now in let t = c.leave_heap.new.seat in let u = c.leave_memory.new.seat in let v = c.make.new.seat in let log = c.args.log.now in let left = c.drop_pending.new.self in let h = c.leave_memory.ensures.holds in
    let is : left.state ≡ record log.state { pending = [] } = ap (λ (x : LogState). x.state) c.drop_pending.ensures.table in
    let gone = dropped (place_at z u.by) _ u v c.make.ensures.same log.state left.state h.turn.held is c.make.ensures.moved in
    let two = and_still is_of_stage is_of_number is_of_versions stage_number stage_versions s t u s.knows.held s.turns c.leave_heap.ensures.seat c.leave_memory.ensures.seat in
    record {
      holds = dropped_holds z u v log left h c.drop_pending.ensures.table gone;
      seat = and_with is_of_stage is_of_stage is_of_pending (λ fact e. e) stage_pending s u v s.knows.held (writes left.state ∷ []) s.turns two gone;
      log = c.drop_pending.ensures.table;
    }
