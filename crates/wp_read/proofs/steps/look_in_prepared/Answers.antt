use Rattle.std.proofs.Common.{◌≡◌, length, ap, sym, ◌∙◌, Some}
use Rattle.std.specs.FinSet as set
use Rattle.std.specs.FinMap as finite
use Rattle.wp_model.specs.PreparedSets.{PreparedSets}
use Rattle.wp_judge.specs.declared.observed.InPrepared.{InPrepared}
use Rattle.wp_judge.specs.declared.observed.Load.TheVariants as variant
use Rattle.wp_core.specs.Changes.{found_in}
use Rattle.wp_core.specs.World.{World}
use Rattle.wp_core.specs.States.{prepared}
use Rattle.wp_shared.specs.Seats.{place_at}
use Rattle.wp_shared.proofs.Tables.{held_state}
use Rattle.wp_read.proofs.Readings.{may_load, load_made}
use Rattle.wp_read.proofs.steps.look_in_prepared.Goals as goal

pub make-requires-clause-may : goal.make-requires-clause-may
make-requires-clause-may g c = may_load c.args.store.now c.args.seat.now variant.InPrepared c.args.seen.now c.requires.next (record { state = c.args.tables.now; held = c.requires.held; so_is = tt })

pub returns : goal.returns
returns g c =
    load_made c.args.store.now (λ (w : World). c.make.result ≡ length w.writes.history) c.args.seat.now c.make.new.seat variant.InPrepared c.args.seen.now _ c.requires.next
    (λ w k so.
    ap (λ (x : InPrepared). record c.args.seen.now { in_prepared = Some x }) (c.found.ensures ∙
    ap (λ (t : PreparedSets). found_in (set.contains t.delayed c.args.seen.now.version) (finite.get t.delayed_commits c.args.seen.now.version)) (sym (held_state (place_at c.args.store.now c.args.seat.now.by) c.args.seat.now.knows w (prepared c.args.tables.now) k c.requires.held))))
    c.make.ensures.same c.make.ensures.moved
