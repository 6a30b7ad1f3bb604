use Rattle.std.proofs.Common.{◌≡◌, Bool, not, length, ap, sym, ◌∙◌, Some}
use Rattle.wp_model.specs.Snapshots.{Snapshots, is_old_commit}
use Rattle.wp_judge.specs.declared.observed.Load.TheVariants.{IsOldCommit}
use Rattle.wp_core.specs.Reading.{snapshot_of}
use Rattle.wp_core.specs.World.{World}
use Rattle.wp_core.specs.States.{snapshots}
use Rattle.wp_shared.specs.Seats.{place_at}
use Rattle.wp_shared.proofs.Tables.{held_state}
use Rattle.wp_read.proofs.Readings.{may_load, load_made, held_live, reads_registered, not_not}
use Rattle.wp_read.proofs.steps.look_in_old_commits.Goals as goal

pub make-requires-clause-may : goal.make-requires-clause-may
make-requires-clause-may g c = may_load c.args.store.now c.args.seat.now IsOldCommit c.args.seen.now c.requires.next (record { state = c.args.snaps.now; held = c.requires.held; so_is = tt })

pub shows-shows-requires : goal.shows-shows-requires
shows-shows-requires g c = let m = c.make.ensures.moved in let p = place_at c.args.store.now c.args.seat.now.by in
    held_live p c.args.seat.now.knows m.world c.args.snaps.now (snapshot_of c.args.seen.now) m.before c.requires.held (reads_registered p c.args.seat.now.knows m.world c.args.seen.now m.before c.requires.next.0)

pub returns : goal.returns
returns g c =
    load_made c.args.store.now (λ (w : World). c.make.result ≡ length w.writes.history) c.args.seat.now c.make.new.seat IsOldCommit c.args.seen.now _ c.requires.next
    (λ w k so.
    ap (λ (b : Bool). record c.args.seen.now { is_old_commit = Some b }) (ap not c.shows-shows.ensures ∙ (not_not (is_old_commit c.args.snaps.now c.args.seen.now.snapshot c.args.seen.now.version) ∙
    ap (λ (m : Snapshots). is_old_commit m c.args.seen.now.snapshot c.args.seen.now.version) (sym (held_state (place_at c.args.store.now c.args.seat.now.by) c.args.seat.now.knows w (snapshots c.args.snaps.now) k c.requires.held)))))
    c.make.ensures.same c.make.ensures.moved
