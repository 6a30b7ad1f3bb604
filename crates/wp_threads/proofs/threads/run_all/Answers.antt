use denote.Exit.{no}
use denote.Param.Send.{param_send, param_sync, shr_sync, shr_slice_sync, sendable}
use Rattle.std.proofs.Common.{ℕ, ◌<◌, length, subst}
use Rattle.std.specs.Prelude.{slice_index_or}
use Rattle.std.proofs.Crossing.{sync}
use Rattle.wp_text.proofs.script.Part.TheSendSync as part
use Rattle.wp_shared.proofs.Sent.{shared_sync, seat_send}
use Rattle.wp_text.proofs.replies.Answered.TheSendSync as answers
use Rattle.wp_seats.specs.declared.session.Session.{Session}
use Rattle.wp_threads.specs.Each.{HasRunAt}
use Rattle.wp_threads.proofs.Captured.{captured_sync}
use Rattle.wp_threads.proofs.Places.{new_at, same_length, all_over, all_stay}
use Rattle.wp_threads.proofs.threads.run_all.Lts as lts
use Rattle.wp_threads.proofs.threads.run_all.Goals as goal

pub for_each_mut-requires-clause-accepts : goal.for_each_mut-requires-clause-accepts
for_each_mut-requires-clause-accepts g c κs within = λ i p lt e. new_at c.args.store.now c.args.parts.now c.args.sessions.now i p.now lt e c.requires

pub for_each_mut-requires-send-T : goal.for_each_mut-requires-send-T
for_each_mut-requires-send-T g c κs within = let d = c.type_bounds.send-D in param_send 1 (lts.arg-1-1 g.row.D g.row.G g.row.R g.D.laws g.G.laws g.R.laws g.D.Disk g.D.Disk-dict g.D.Peek g.D.Peek-dict g.G.Gate g.G.Gate-dict g.R.Threads g.R.Threads-dict g.R.Wait g.R.Wait-dict g.D.Destruct-dict κs) (search (sendable, seat_send, answers.the_send) depth 24)

pub for_each_mut-requires-sync-F : goal.for_each_mut-requires-sync-F
for_each_mut-requires-sync-F g c κs within =
    param_sync 2 (lts.arg-1-2 g.row.D g.row.G g.row.R g.D.laws g.G.laws g.R.laws g.D.Disk g.D.Disk-dict g.D.Peek g.D.Peek-dict g.G.Gate g.G.Gate-dict g.R.Threads g.R.Threads-dict g.R.Wait g.R.Wait-dict g.D.Destruct-dict κs)
    (captured_sync _ no _ _ _ _ _ _ (shr_sync _ _ _ (shared_sync _ _ g.D.Peek c.type_bounds.send-D)) (shr_sync _ _ _ c.type_bounds.sync-R) (shr_sync _ _ _ sync) (shr_sync _ _ _ c.type_bounds.sync-G)
    (shr_slice_sync _ _ _ part.the_sync))

pub returns : goal.returns
returns g c =
    let z = c.args.store.now in let olds = c.args.sessions.now in let news = c.for_each_mut.new.s in
    let each : (i : ℕ) (d : Session g.row.D.Denot) → i < length olds → HasRunAt z c.args.parts.now i (slice_index_or news i d).answers (slice_index_or olds i d).seat (slice_index_or news i d).seat =
    λ i d lt. let k = (c.for_each_mut.ensures i d lt).1 in
    subst (λ (x : Session g.row.D.Denot × Session g.row.D.Denot). HasRunAt z c.args.parts.now i x.1.answers x.0.seat x.1.seat) (λ j. (k.argument_is j, k.left j)) k.call in
    record {
      over = all_over z c.args.parts.now olds news (same_length z c.args.parts.now olds c.requires) c.for_each_mut.auto.s each;
      stay = all_stay z olds news c.for_each_mut.auto.s (λ i d lt. let k = each i d lt in (k.1, k.2));
    }
