use Rattle.std.proofs.Common.{◌≡◌, ◌≢◌, ◌==◌, false, true≢false, List, [], inl, length, refl, sym, subst, ap, ◌∙◌, rules, arith}
use Rattle.wp_core.specs.Lists.{IsIn}
use Rattle.wp_core.specs.States.{writes}
use Rattle.wp_model.specs.declared.entry.Entry.{Entry}
use Rattle.wp_core.specs.Views.{versions_in_memory}
use Rattle.wp_parts.specs.Log.{LogState}
use Rattle.wp_shared.specs.Seats.{SeatState}
use Rattle.wp_shared.specs.Notes.{GoesOn}
use Rattle.wp_shared.proofs.Goes.{notes}
use Rattle.wp_commits.proofs.Clears.{just_noted}
use Rattle.wp_records.specs.Stages.{is_of_versions}
use Rattle.wp_records.proofs.Holding.{still_holds, words_kept}
use Rattle.wp_records.specs.Records.{IsPutWith}
use Rattle.wp_records.proofs.Joined.{split, noted_join}
use Rattle.wp_records.proofs.Puts.{put_none, others_pending, put_first, put_noted}
use Rattle.wp_records.proofs.putting.publish_all.Goals as goal

not_empty : (found pending : List Entry) → found ≡ pending → false ≡ (length found == 0) → pending ≢ []
not_empty found pending is some e = absurd (true≢false (sym (some ∙ ap (λ (l : List Entry). length l == 0) (is ∙ e))))

pub publish_next-requires : goal.publish_next-requires
publish_next-requires g c = record { holds = c.requires.holds; some = c.requires.some; may = c.requires.may; versions = c.requires.versions }

pub loop-seat-init : goal.loop-seat-init
loop-seat-init g c =
    let z = c.args.store.now in let s = c.args.seat.now in let log = c.args.log.now in let t = c.publish_next.new.seat in let mid = c.publish_next.new.log in
    let k = split log.state.pending c.requires.some in
    let joined = c.publish_next.ensures.joined k.0 k.1 k.2 in
    record {
      holds = joined.holds;
      may = c.publish_next.ensures.may;
      behind = c.publish_next.ensures.behind;
      running = ap (λ (x : LogState). x.state.closed) joined.log_is ∙ c.requires.running;
      learned = ap (λ (x : SeatState). x.knows.learned) joined.seat.same;
      uncalled = (ap (λ (x : LogState). x.wal) joined.log_is, ap (λ (x : LogState). x.state.log) joined.log_is);
      puts = put_first z s t log mid k.0 k.1 joined k.2;
    }

pub note_no_versions-requires-clause-seat : goal.note_no_versions-requires-clause-seat
note_no_versions-requires-clause-seat g c = let turn = c.loop-seat.invariant.holds.turn in (turn.same_table, turn.live)

pub note_no_versions-requires-clause-held : goal.note_no_versions-requires-clause-held
note_no_versions-requires-clause-held g c = subst (IsIn (writes c.loop-seat.log.state)) (sym c.loop-seat.invariant.holds.turn.held) (inl refl)

pub publish_next-requires-in-loop-seat : goal.publish_next-requires-in-loop-seat
publish_next-requires-in-loop-seat g c = let z = c.args.store.now in let s = c.loop-seat.seat in let r = c.note_no_versions.new.seat in let log = c.loop-seat.log in let inv = c.loop-seat.invariant in let new = c.note_no_versions.ensures in
    let goes : GoesOn is_of_versions s.knows.held s.turns s r = notes is_of_versions s r r versions_in_memory new in
    record {
      holds = still_holds z s r log is_of_versions inv.holds goes (words_kept is_of_versions s r s.knows.held s.turns (length log.state.history) (λ bound words. refl) goes inv.holds.words);
      some = not_empty c.pending.result.now log.state.pending c.pending.ensures c.loop-seat-test.ensures;
      may = noted_join s r versions_in_memory z.cells log.state new inv.may;
      versions = just_noted s r versions_in_memory new;
    }

pub loop-seat-smaller : goal.loop-seat-smaller
loop-seat-smaller g c =
    let z = c.args.store.now in let log = c.loop-seat.log in let n = c.publish_next-in-loop-seat in
    let some : log.state.pending ≢ [] = not_empty c.pending.result.now log.state.pending c.pending.ensures c.loop-seat-test.ensures in
    let k = split log.state.pending some in
    let now = ap (λ (e : List Entry). length e) (others_pending z c.note_no_versions.new.seat n.new.seat log n.new.log k.0 k.1 (n.ensures.joined k.0 k.1 k.2) k.2) in
    let was = ap (λ (e : List Entry). length e) k.2 in
    omega (arith, now, was)

pub loop-seat-preserved : goal.loop-seat-preserved
loop-seat-preserved g c =
    let z = c.args.store.now in let r = c.loop-seat.seat in let s = c.note_no_versions.new.seat in let log = c.loop-seat.log in let n = c.publish_next-in-loop-seat in let inv = c.loop-seat.invariant in
    let some : log.state.pending ≢ [] = not_empty c.pending.result.now log.state.pending c.pending.ensures c.loop-seat-test.ensures in
    let k = split log.state.pending some in
    let joined = n.ensures.joined k.0 k.1 k.2 in
    record {
      holds = joined.holds;
      may = n.ensures.may;
      behind = n.ensures.behind;
      running = ap (λ (x : LogState). x.state.closed) joined.log_is ∙ inv.running;
      learned = ap (λ (x : SeatState). x.knows.learned) joined.seat.same;
      uncalled = (ap (λ (x : LogState). x.wal) joined.log_is ∙ inv.uncalled.0, ap (λ (x : LogState). x.state.log) joined.log_is ∙ inv.uncalled.1);
      puts = λ new left p. inv.puts new left (put_noted z s n.new.seat log n.new.log k.0 k.1 joined k.2 r c.note_no_versions.ensures new left p);
    }

pub returns : goal.returns
returns g c =
    let z = c.args.store.now in let s = c.loop-seat.seat in let log = c.loop-seat.log in let inv = c.loop-seat.invariant in
    let empty : log.state.pending ≡ [] = search rules in
    record {
      put = inv.puts s log (subst (λ (e : List Entry). IsPutWith z s log [] e s log) (sym empty) (put_none z s log inv.holds empty inv.running inv.learned));
      uncalled = inv.uncalled;
    }
